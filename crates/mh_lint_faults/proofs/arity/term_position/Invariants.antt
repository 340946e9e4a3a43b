use Rattle.std.proofs.Common.{List, ◌+◌}
use Rattle.mh_reader_places.specs.declared.reading.PlacedModule.{PlacedModule}
use Rattle.mh_lint_faults.specs.code.Producers.{IsProducerMention}
use Rattle.mh_lint_faults.specs.code.ReadFiles.{IsSplit}
use Rattle.mh_lint_faults.proofs.FirstMentions.{NoneIn}
use Rattle.mh_lint_faults.proofs.arity.term_position.Given as goal

abbrev pub invariant-loop-at : goal.invariant-loop-at
invariant-loop-at l = (found : List PlacedModule) → IsSplit found l.read → NoneIn found (λ file placed x. IsProducerMention l.found.keys (file + 1) x) l.at
