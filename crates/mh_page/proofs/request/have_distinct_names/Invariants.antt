use Rattle.std.proofs.Common.{length}
use Rattle.mh_outside.specs.Shelf.{HasDistinctNames}
use Rattle.mh_page.specs.Given.{files_given}
use Rattle.mh_page.proofs.request.have_distinct_names.Given as goal

abbrev pub invariant-loop-rest : goal.invariant-loop-rest
invariant-loop-rest l = (HasDistinctNames (files_given l.rest) → HasDistinctNames (files_given l.files)) × (HasDistinctNames (files_given l.files) → HasDistinctNames (files_given l.rest))

abbrev pub decreases-loop-rest : goal.decreases-loop-rest
decreases-loop-rest l = length l.rest
