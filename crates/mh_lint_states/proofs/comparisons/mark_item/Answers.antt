use Rattle.mh_lint_states.proofs.MarkedPairs.{looks_init, looks_known, looks_more, looks_all}
use Rattle.mh_lint_states.proofs.comparisons.mark_item.Goals as goal

pub looks-init : goal.looks-init
looks-init g c = rw c.copied-left.ensures (looks_init c.args.grammar.now c.args.shifts.now c.args.item.now c.args.compared.now c.requires.flags)

pub mark_look-requires-clause-look : goal.mark_look-requires-clause-look
mark_look-requires-clause-look g c = looks_known c.args.grammar.now c.args.shifts.now c.args.item.now c.in-Some.look c.take_first.new.self c.args.compared.now c.looks.compared c.requires.item.looks (rw c.in-Some.ensures at c.looks.invariant)

pub looks-preserved : goal.looks-preserved
looks-preserved g c = looks_more c.args.grammar.now c.args.shifts.now c.args.item.now c.in-Some.look c.take_first.new.self c.args.compared.now c.looks.compared c.mark_look.new.compared c.mark_look.ensures (rw c.in-Some.ensures at c.looks.invariant)

pub returns : goal.returns
returns g c = looks_all c.args.grammar.now c.args.shifts.now c.args.item.now c.looks.left c.args.compared.now c.looks.compared c.in_default.ensures.0 c.looks.invariant
