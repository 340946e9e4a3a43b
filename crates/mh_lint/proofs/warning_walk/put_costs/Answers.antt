use Rattle.std.proofs.Common.{◌≤◌, get_or, length, arith}
use Rattle.mh_grammar.proofs.Lists.{get_or_own_default}
use Rattle.mh_lint_findings.specs.Lines.{lines_of}
use Rattle.mh_lint.proofs.AreFileLines.{cost_added, costs_added}
use Rattle.mh_lint.proofs.warning_walk.put_costs.Goals as goal

pub loop-start-preserved : goal.loop-start-preserved
loop-start-preserved c =
    let i = c.loop-start.start-index in
    cost_added c.args.file (lines_of c.args.findings.now.items) c.args.costs.now i (get_or c.args.costs.now i 0) (lines_of c.loop-start.findings.items) (lines_of c.put_cost.new.findings.items) c.loop-start-test.true (get_or_own_default c.args.costs.now i 0 c.loop-start-test.true) c.loop-start.invariant c.in_ok-put_cost.ensures

pub returns : goal.returns
returns c =
    let past : length c.args.costs.now ≤ c.loop-start.start-index = (let a = c.loop-start-test.false in omega (arith, a)) in
    costs_added c.args.file (lines_of c.args.findings.now.items) c.args.costs.now c.loop-start.start-index (lines_of c.loop-start.findings.items) past c.loop-start.invariant
