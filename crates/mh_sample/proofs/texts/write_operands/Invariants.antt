use Rattle.std.proofs.Common.{◌≡◌, ◌++◌}
use Rattle.mh_sample.specs.Texts.{each_from, operand_text, operator_at}
use Rattle.mh_sample.proofs.texts.write_operands.Given as goal

abbrev pub invariant-loop-place : goal.invariant-loop-place
invariant-loop-place l = l.text.items ≡ l.initial.text.items ++ each_from (λ place. operand_text (operator_at l.fn.sentence.operators l.fn.sentence.number place)) 1 l.place
