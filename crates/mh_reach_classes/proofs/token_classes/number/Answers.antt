use Rattle.std.proofs.Common.{◌≡◌, [], arith, length}
use Rattle.mh_reach_classes.proofs.IsPartition.{partition, tokens}
use Rattle.mh_reach_classes.proofs.TreatsAlike.{rows_begin, rows_step}
use Rattle.mh_reach_classes.proofs.token_classes.number.Goals as goal

pub loop-state-init : goal.loop-state-init
loop-state-init c = rw (c.new.ensures.items, c.new-2.ensures.items) (rows_begin c.args.table.now (c.args.given.now ≡ []) 0)

pub loop-state-preserved : goal.loop-state-preserved
loop-state-preserved c =
    let adds = c.in_ok-add_row.ensures in
    rw (adds.rows, adds.lists) (rows_step c.args.table.now (c.args.given.now ≡ []) c.loop-state.classes.rows.items c.loop-state.classes.lists.items c.loop-state.state c.loop-state.classes.places c.add_row.new.classes.places c.given_row-given.result.now adds.row adds.list
    adds.grows c.given_row-given.ensures (rw c.tokens.ensures at adds.is) c.loop-state.invariant)

pub returns-clause-partition : goal.returns-clause-partition
returns-clause-partition c =
    let e : c.loop-state.state ≡ length c.args.table.now.states = (let a = c.loop-state-test.false in let b = c.loop-state.auto.state-end in let d = c.states-state-end.ensures in omega arith) in
    partition c.args.table.now (c.args.given.now ≡ []) c.loop-state.classes (rw e at c.loop-state.invariant)

pub returns-clause-each : goal.returns-clause-each
returns-clause-each c =
    let e : c.loop-state.state ≡ length c.args.table.now.states = (let a = c.loop-state-test.false in let b = c.loop-state.auto.state-end in let d = c.states-state-end.ensures in omega arith) in
    tokens c.args.table.now (c.args.given.now ≡ []) c.loop-state.classes (rw e at c.loop-state.invariant)
