use Rattle.std.proofs.Common.{get_or, arith}
use Rattle.mh_grammar.proofs.Lists.{get_or_own_default}
use Rattle.mh_lint.proofs.AreFileLines.{next_after, one_before}
use Rattle.mh_lint.proofs.warning_walk.costs_before.Goals as goal

pub loop-count-preserved : goal.loop-count-preserved
loop-count-preserved c =
    let i = c.loop-count.count in
    one_before c.args.costs.now i (get_or c.args.costs.now i 0) c.args.place c.loop-count-test.true (get_or_own_default c.args.costs.now i 0 c.loop-count-test.true) c.if-start-place.false c.loop-count.invariant

pub returns-then-start-place : goal.returns-then-start-place
returns-then-start-place c =
    let i = c.loop-count.count in
    record {
      within = (let l = c.loop-count-test.true in omega (arith, l));
      before = c.loop-count.invariant;
      none = next_after c.args.costs.now i (get_or c.args.costs.now i 0) c.args.place c.loop-count-test.true (get_or_own_default c.args.costs.now i 0 c.loop-count-test.true) c.if-start-place.true;
    }
