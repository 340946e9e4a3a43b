use Rattle.std.proofs.Common.{◌≡◌, take}
use Rattle.std.specs.List.{filter}
use Rattle.mh_sample.specs.code.Rows.{fits}
use Rattle.mh_sample.proofs.writing.candidates.Given as goal

abbrev pub invariant-loop-choice : goal.invariant-loop-choice
invariant-loop-choice l = l.candidates.items ≡ filter (fits l.room) (take l.choice-index l.row)
