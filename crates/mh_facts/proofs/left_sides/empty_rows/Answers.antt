use Rattle.std.proofs.Common.{◌≡◌, length, arith}
use Rattle.mh_facts.proofs.QueueRows.{empty_begin, empty_more}
use Rattle.mh_facts.proofs.IsByLeftSide.{IsByLeftSideBelow-start}
use Rattle.mh_facts.proofs.left_sides.empty_rows.Goals as goal

pub loop-init : goal.loop-init
loop-init c = empty_begin c.new-rows.result.items c.new-rows.ensures.items

pub loop-preserved : goal.loop-preserved
loop-preserved c = empty_more c.loop.rows.items c.push.new.self.items c.new.result c.loop.counter c.in_ok-push.ensures.items c.new.ensures.items c.loop.invariant

pub returns : goal.returns
returns c =
    let long : length c.loop.rows.items ≡ c.args.table.now.grammar.nonterminals = (let a = c.loop-test.false in let b = c.loop.auto.counter-end in let d = c.nonterminals-end.ensures in let h = c.loop.invariant.0 in omega arith) in
    IsByLeftSideBelow-start c.args.table.now (record { rows = c.loop.rows }) long c.loop.invariant.1
