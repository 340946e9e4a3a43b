use Rattle.std.proofs.Common.{refl, ◌∙◌}
use Rattle.mh_lint_messages.proofs.DecidesEntries.{lines_none, lines_more}
use Rattle.mh_lint_messages.proofs.lines.add_lines.Goals as goal

pub loop-line-init : goal.loop-line-init
loop-line-init c = record { size = refl; so_far = lines_none c.args.to.now.grammar.now c.args.to.now.table.now c.args.to.now.name.now c.args.found.now }

pub loop-line-preserved : goal.loop-line-preserved
loop-line-preserved c = record {
  size = c.add_line.ensures.size ∙ c.loop-line.invariant.size;
  so_far = lines_more c.args.to.now.grammar.now c.args.to.now.table.now c.args.to.now.name.now c.args.lines.now c.loop-line.line-index c.line-item.result c.loop-line.last c.args.found.now c.loop-line.found c.add_line.new.found c.loop-line-test.true c.line-item.is
      c.loop-line.invariant.so_far c.in_ok-add_line.ensures.line;
}
