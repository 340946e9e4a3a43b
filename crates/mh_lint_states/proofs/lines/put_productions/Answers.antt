use Rattle.std.proofs.Common.{◌<◌, ◌≤◌, length, arith}
use Rattle.mh_lint_findings.specs.Lines.{lines_of}
use Rattle.mh_lint_states.proofs.ConflictLines.{productions_all, productions_more}
use Rattle.mh_lint_states.proofs.lines.put_productions.Goals as goal

pub loop-place-preserved : goal.loop-place-preserved
loop-place-preserved c =
    let few = c.requires.range.few in
    let end = c.len-place-end.ensures in
    let test = c.loop-place-test.true in
    let within : c.loop-place.place < length c.args.grammar.now.productions = omega (arith, few, end, test) in
    record {
      lines = productions_more c.args.grammar.now c.args.reduced.now (lines_of c.args.findings.now.items) c.loop-place.place (lines_of c.loop-place.findings.items) (lines_of c.put_production.new.findings.items) within c.loop-place.invariant.lines (rw c.len-starts.ensures at c.in_ok-put_production.ensures);
    }

pub returns : goal.returns
returns c =
    let few = c.requires.range.few in
    let end = c.len-place-end.ensures in
    let test = c.loop-place-test.false in
    let all : length c.args.grammar.now.productions ≤ c.loop-place.place = omega (arith, few, end, test) in
    productions_all c.args.grammar.now c.args.reduced.now (lines_of c.args.findings.now.items) c.loop-place.place (lines_of c.loop-place.findings.items) all c.loop-place.invariant.lines
