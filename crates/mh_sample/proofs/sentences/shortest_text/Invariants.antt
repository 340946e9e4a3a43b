use Rattle.std.proofs.Common.{◌≡◌, ◌++◌, drop}
use Rattle.mh_sample.specs.Sentences.{lines_from}
use Rattle.mh_sample.proofs.sentences.shortest_text.Given as goal

abbrev pub invariant-loop-place : goal.invariant-loop-place
invariant-loop-place l = l.text.items ++ lines_from l.grammar l.place (drop l.place l.answer-items) ≡ lines_from l.grammar 0 l.answer-items
