use Rattle.std.proofs.Common.{◌<◌, length, arith}
use Rattle.mh_grammar.proofs.Lists.{get_or_own_default}
use Rattle.mh_resolve_settle.proofs.AreCells.{settled_more, all_settled}
use Rattle.mh_resolve_settle.proofs.row.cells_of.Goals as goal

pub loop-token-preserved : goal.loop-token-preserved
loop-token-preserved c =
    let lt : c.loop-token.token < length c.args.shifts.now = omega (arith, c.requires, c.loop-token-test.true) in
    settled_more c.loop-token.token c.args.tallies.now c.args.shifts.now c.loop-token.cells.items _ _ _ _ c.loop-token-test.true lt
    (get_or_own_default c.args.tallies.now c.loop-token.token _ c.loop-token-test.true) (get_or_own_default c.args.shifts.now c.loop-token.token _ lt) c.cell_of.ensures c.in_ok-push.ensures.items c.loop-token.invariant

pub returns : goal.returns
returns c = all_settled c.loop-token.token c.args.tallies.now c.args.shifts.now c.loop-token.cells.items (let at = c.loop-token.auto.token-end in omega (arith, c.loop-token-test.false)) c.loop-token.invariant
