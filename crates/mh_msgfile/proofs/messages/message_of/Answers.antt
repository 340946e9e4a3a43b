use Rattle.std.proofs.Common.{◌++◌, ◌∷◌, [], ℕ, get_or, ap, ◌∙◌, append_assoc}
use Rattle.std.proofs.lemmas.List.{drop_more}
use Rattle.mh_grammar.specs.Text.{Text}
use Rattle.mh_msgfile.specs.Lines.{line_at}
use Rattle.mh_msgfile.proofs.LoopSteps.{written_next}
use Rattle.mh_msgfile.proofs.messages.message_of.Goals as goal

pub loop-number-preserved : goal.loop-number-preserved
loop-number-preserved c =
    written_next (λ (n : ℕ). line_at c.args.lines.now n ++ 10 ∷ []) c.args.block.now c.loop-number.number-index _ _ c.loop-number.invariant (get_or c.args.block.now c.loop-number.number-index 0) _ (drop_more _ _ 0 c.loop-number-test.true)
    (c.in_ok-push.ensures.items ∙ ap (λ (l : Text). l ++ 10 ∷ []) c.in_ok-extend_from_slice.ensures.items ∙ append_assoc c.loop-number.message.items c.line_at.result.now (10 ∷ [])
    ∙ ap (λ (l : Text). c.loop-number.message.items ++ (l ++ 10 ∷ [])) c.line_at.ensures)
