use Rattle.std.proofs.Common.{◌≡◌, map, take}
use Rattle.mh_sample.specs.code.Rows.{length_for}
use Rattle.mh_sample.proofs.rows.least_lengths.Given as goal

abbrev pub invariant-loop-answer : goal.invariant-loop-answer
invariant-loop-answer l = l.lengths.items ≡ map length_for (take l.answer-index l.shortest)
