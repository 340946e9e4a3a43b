use Rattle.std.proofs.Common.{ℕ, arith, refl}
use Rattle.mh_sample.specs.Texts.{operand_text, operator_at}
use Rattle.mh_sample.proofs.TextsInParts.{each_none, each_push_as}
use Rattle.mh_sample.proofs.texts.write_operands.Goals as goal

pub loop-place-init : goal.loop-place-init
loop-place-init c = each_none (λ (place : ℕ). operand_text (operator_at c.args.sentence.operators c.args.sentence.number place)) 1 c.args.text.now.items

pub loop-place-preserved : goal.loop-place-preserved
loop-place-preserved c =
    each_push_as operand_text (λ (place : ℕ). operator_at c.args.sentence.operators c.args.sentence.number place) 1 c.loop-place.place _ _ c.loop-place.text.items c.write_operand.new.text.items c.args.text.now.items (omega arith) refl c.loop-place.invariant c.in_ok-write_operand.ensures
