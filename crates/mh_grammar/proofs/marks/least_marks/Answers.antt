use Rattle.mh_grammar.proofs.LeastMarks.{are_marks}
use Rattle.mh_grammar.proofs.marks.least_marks.Goals as goal

pub returns-clause-least : goal.returns-clause-least
returns-clause-least c = are_marks c.args.tokens c.args.grammar.now.productions c.loop-changed.marks.items c.loop-changed.invariant.sound (c.loop-changed.invariant.closed c.loop-changed-test.false)
