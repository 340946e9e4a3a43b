use Rattle.std.proofs.Common.{[], arith, rules}
use Rattle.mh_validate_valid.specs.Valid.{HasEdges}
use Rattle.mh_validate_valid.proofs.AppendedAt.{count_more, pushed}
use Rattle.mh_validate.proofs.FirstRows.{rows_stop, rows_end}
use Rattle.mh_validate.proofs.rows.fill_rows.Goals as goal

pub row_at-requires : goal.row_at-requires
row_at-requires g c = (search rules, (search rules, (c.requires.fits, (c.loop-state.invariant.mover, (c.requires.kernels, c.loop-state-test.true)))))

pub loop-state-preserved : goal.loop-state-preserved
loop-state-preserved g c = record {
  count = count_more c.loop-state.rows.items c.push.new.self.items c.in-Some.row c.loop-state.state c.loop-state.invariant.count c.in_ok-push.ensures.items;
  each = pushed (HasEdges c.args.grammar.now c.args.raw.now c.args.kernels.now) c.loop-state.rows.items c.push.new.self.items c.in-Some.row [] c.loop-state.state c.loop-state.invariant.count c.in_ok-push.ensures.items c.loop-state.invariant.each (rw c.in-Some.is at c.in_ok-row.ensures.row);
  mover = c.in_ok-row.ensures.mover;
}

pub returns-in_default : goal.returns-in_default
returns-in_default g c = rows_stop c.args.grammar.now c.args.raw.now c.args.kernels.now c.loop-state.rows.items c.loop-state.state c.loop-state.invariant.count (let m = c.requires.kernels.count in omega (arith, m, c.loop-state-test.true)) c.loop-state.invariant.each (rw c.in_default.is at c.in_ok-row.ensures.row)

pub returns : goal.returns
returns g c = rows_end c.args.grammar.now c.args.raw.now c.args.kernels.now c.loop-state.rows.items c.loop-state.state c.loop-state.invariant.count (let m = c.requires.kernels.count in let e = c.loop-state.auto.state-end in omega (arith, m, e, c.loop-state-test.false)) c.loop-state.invariant.each
