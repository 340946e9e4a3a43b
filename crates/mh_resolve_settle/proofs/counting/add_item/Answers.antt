use Rattle.mh_resolve_settle.proofs.AreTallied.{counted_none, counted_more, counted_known, counted_all}
use Rattle.mh_resolve_settle.proofs.counting.add_item.Goals as goal

pub looks-init : goal.looks-init
looks-init g c = rw c.copied-left.ensures (counted_none c.args.grammar.now c.args.shifts.now c.args.item.now c.args.tallies.now c.requires.size)

pub add-requires-clause-look : goal.add-requires-clause-look
add-requires-clause-look g c = counted_known c.args.grammar.now c.args.shifts.now c.args.item.now c.in-Some.look c.take_first.new.self c.args.tallies.now c.looks.tallies c.requires.known (rw c.in-Some.ensures at c.looks.invariant)

pub looks-preserved : goal.looks-preserved
looks-preserved g c = counted_more c.args.grammar.now c.args.shifts.now c.args.item.now c.in-Some.look c.take_first.new.self c.args.tallies.now c.looks.tallies c.add.new.tallies c.requires.complete c.add.ensures (rw c.in-Some.ensures at c.looks.invariant)

pub returns-clause-tallied : goal.returns-clause-tallied
returns-clause-tallied g c = counted_all c.args.grammar.now c.args.shifts.now c.args.item.now c.looks.left c.args.tallies.now c.looks.tallies c.in_default.ensures.0 c.looks.invariant
