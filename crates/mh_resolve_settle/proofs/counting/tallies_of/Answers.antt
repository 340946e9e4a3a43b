use Rattle.std.proofs.Common.{sym, ◌∙◌}
use Rattle.mh_resolve_settle.proofs.AreTallied.{looks_end, item_passed}
use Rattle.mh_resolve_settle.proofs.counting.tallies_of.Goals as goal
use Rattle.mh_resolve_settle.proofs.counting.tallies_of.Goals.{then-item-length_of, else-item-length_of}

pub loop-item-preserved : goal.loop-item-preserved
loop-item-preserved g c =
    elim c.if-item-length_of.branch [
      | then-item-length_of w ↦ rw w.tallies-is (looks_end c.args.grammar.now c.args.items.now c.loop-item.item-index c.item-item.result c.args.shifts.now w.add_item.new.tallies c.loop-item-test.true c.item-item.is (w.add_item.ensures.tallied _ c.loop-item.invariant))
      | else-item-length_of w ↦ rw w.tallies-is (item_passed c.args.grammar.now c.args.items.now c.loop-item.item-index c.item-item.result c.args.shifts.now c.loop-item.tallies c.loop-item-test.true c.item-item.is (λ e. w.if-item-length_of.false (e ∙ sym c.length_of.ensures)) c.loop-item.invariant)
    ]
