use Rattle.std.proofs.Common.{arith}
use Rattle.mh_grammar.proofs.ProductionPasses.{pass-step, pass-end}
use Rattle.mh_items.proofs.AddsComplete.{Closes}
use Rattle.mh_items.proofs.empty_productions.mark_once.Goals as goal

pub loop-production-preserved : goal.loop-production-preserved
loop-production-preserved c =
    let mark = c.mark_left_side-changed-in-loop-production in
    pass-step Closes c.args.productions.now c.args.marks.now c.loop-production.marks mark.new.marks c.loop-production.changed mark.result mark.ensures.grows c.loop-production.production-index c.production-item.result c.loop-production-test.true
    c.production-item.is mark.ensures.closed c.loop-production.invariant

pub returns-clause-closed : goal.returns-clause-closed
returns-clause-closed c = λ e. record { closed = pass-end Closes c.args.productions.now c.args.marks.now c.loop-production.marks c.loop-production.changed c.loop-production.production-index (omega (arith, c.loop-production-test.false)) e c.loop-production.invariant }
