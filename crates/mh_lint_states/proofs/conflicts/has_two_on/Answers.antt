use Rattle.mh_lint_states.proofs.CompleteItems.{not_two, one_found, one_passed}
use Rattle.mh_lint_states.proofs.conflicts.has_two_on.Goals.{then-is_complete_on+else-has_one, else-is_complete_on}
use Rattle.mh_lint_states.proofs.conflicts.has_two_on.Goals as goal

pub loop-item-preserved : goal.loop-item-preserved
loop-item-preserved g c =
    let i = c.loop-item.item-index in
    elim c.if-is_complete_on.branch [
      | then-is_complete_on+else-has_one w ↦ rw w.has_one-is (one_found c.args.grammar.now c.args.items.now c.args.look i c.loop-item.has_one c.item-item.result c.loop-item-test.true c.item-item.is c.loop-item.invariant w.if-has_one.false (c.is_complete_on.ensures.0 w.if-is_complete_on.true))
      | else-is_complete_on w ↦ rw w.has_one-is (one_passed c.args.grammar.now c.args.items.now c.args.look i c.loop-item.has_one c.item-item.result c.loop-item-test.true c.item-item.is c.loop-item.invariant (λ is. (let both = c.is_complete_on.ensures.1 is in let not = w.if-is_complete_on.false in absurd cc)))
    ]

pub returns : goal.returns
returns g c = (
  λ e. absurd cc,
  λ two. absurd (not_two c.args.grammar.now c.args.items.now c.args.look c.loop-item.item-index c.loop-item.has_one c.loop-item-test.false c.loop-item.invariant two),
)
