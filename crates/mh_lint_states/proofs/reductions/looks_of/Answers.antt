use Rattle.std.proofs.lemmas.List.{take_all}
use Rattle.mh_lint_states.proofs.CompleteItems.{looks_more, looks_passed}
use Rattle.mh_lint_states.proofs.reductions.looks_of.Goals.{then-is_complete_item, else-is_complete_item}
use Rattle.mh_lint_states.proofs.reductions.looks_of.Goals as goal

pub loop-item-preserved : goal.loop-item-preserved
loop-item-preserved g c =
    let i = c.loop-item.item-index in
    elim c.if-is_complete_item.branch [
      | then-is_complete_item w ↦ rw w.looks-is (looks_more c.args.grammar.now c.args.production c.args.items.now i c.item-item.result c.loop-item-test.true c.item-item.is c.loop-item.looks c.loop-item.invariant _ (c.is_complete_item.ensures.0 w.if-is_complete_item.true) w.union_into.ensures.members)
      | else-is_complete_item w ↦ rw w.looks-is (looks_passed c.args.grammar.now c.args.production c.args.items.now i c.item-item.result c.loop-item-test.true c.item-item.is c.loop-item.looks c.loop-item.invariant (λ is. (let both = c.is_complete_item.ensures.1 is in let not = w.if-is_complete_item.false in absurd cc)))
    ]

pub returns : goal.returns
returns g c = rw (take_all c.loop-item.item-index c.args.items.now c.loop-item-test.false) at c.loop-item.invariant
