use Rattle.std.proofs.Common.{refl, ◌∙◌}
use Rattle.mh_rebase.proofs.DecidesEntries.{lines_none, lines_more}
use Rattle.mh_rebase.proofs.entries.add_lines.Goals as goal

pub loop-line-init : goal.loop-line-init
loop-line-init g c = record { size = refl; so_far = lines_none c.args.to.now.expected c.args.to.now.grammar.now c.args.to.now.automaton.now c.args.to.now.table.now c.args.parts.now }

pub loop-line-preserved : goal.loop-line-preserved
loop-line-preserved g c = record {
  size = c.add_line.ensures.size ∙ c.loop-line.invariant.size;
  so_far = lines_more c.args.to.now.expected c.args.to.now.grammar.now c.args.to.now.automaton.now c.args.to.now.table.now c.args.lines.now c.loop-line.line-index c.line-item.result c.loop-line.kept c.in_ok-kept.field-0 c.args.parts.now c.loop-line.parts c.add_line.new.parts
      c.loop-line-test.true c.line-item.is c.loop-line.invariant.so_far c.in_ok-kept.ensures.line;
}
