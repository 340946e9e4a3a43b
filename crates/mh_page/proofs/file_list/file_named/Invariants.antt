use Rattle.std.proofs.Common.{◌≡◌, length}
use Rattle.mh_outside.specs.Shelf.{file_at}
use Rattle.mh_page.specs.Given.{files_given}
use Rattle.mh_page.proofs.file_list.file_named.Given as goal

abbrev pub invariant-loop-rest : goal.invariant-loop-rest
invariant-loop-rest l = file_at (files_given l.rest) l.name ≡ file_at (files_given l.files) l.name

abbrev pub decreases-loop-rest : goal.decreases-loop-rest
decreases-loop-rest l = length l.rest
