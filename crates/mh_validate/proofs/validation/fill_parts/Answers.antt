use Rattle.std.proofs.Common.{[], ◌<◌, length, arith, rules}
use Rattle.std.specs.Prelude.{slice_index_or}
use Rattle.mh_tables_core.specs.Table.{no_state}
use Rattle.mh_validate_valid.specs.Valid.{IsResolvedAt}
use Rattle.mh_validate_valid.proofs.AppendedAt.{count_more, pushed}
use Rattle.mh_validate.proofs.MatchedEdges.{kernel_right}
use Rattle.mh_validate.proofs.Outcomes.{row_has, resolved_here, edges_known}
use Rattle.mh_validate.proofs.validation.fill_parts.Goals as goal

pub resolve_one-requires : goal.resolve_one-requires
resolve_one-requires g c =
    let lt = c.loop-state-test.true in
    let in_kernels : c.loop-state.state < length c.args.stated.now.kernels.now = (let n = c.requires.kernels.count in let m = c.requires.rows.within in omega (arith, n, m, lt)) in
    let has = row_has c.args.grammar.now c.args.stated.now.raw.now c.args.stated.now.kernels.now c.args.stated.now.rows.now c.loop-state.state c.index-rows-state.result c.as_slice-edges.result.now lt c.index-rows-state.is c.as_slice-edges.ensures (c.requires.rows.each c.loop-state.state lt) in (
      search rules,
      (
        search rules,
        (
          c.requires.fits,
          record {
            closer = c.loop-state.invariant.closer;
            kernel = kernel_right c.args.grammar.now c.args.stated.now.raw.now c.args.stated.now.kernels.now c.requires.kernels c.loop-state.state c.index-kernels-state.result in_kernels c.index-kernels-state.is;
            rising = has.are_edges.order;
            known = edges_known c.args.grammar.now c.args.stated.now.raw.now c.args.stated.now.kernels.now c.loop-state.state c.as_slice-edges.result.now c.requires.fits.range has;
          },
        ),
      ),
    )

pub loop-state-preserved : goal.loop-state-preserved
loop-state-preserved g c =
    let lt = c.loop-state-test.true in
    let in_kernels : c.loop-state.state < length c.args.stated.now.kernels.now = (let n = c.requires.kernels.count in let m = c.requires.rows.within in omega (arith, n, m, lt)) in
    record {
      count = count_more c.loop-state.states.items c.push.new.self.items c.in_ok-parts.parts c.loop-state.state c.loop-state.invariant.count c.in_ok-push.ensures.items;
      each = pushed (λ s p. IsResolvedAt c.args.grammar.now c.args.stated.now.raw.now c.args.stated.now.kernels.now s (slice_index_or c.args.stated.now.rows.now s []) p) c.loop-state.states.items c.push.new.self.items c.in_ok-parts.parts no_state c.loop-state.state c.loop-state.invariant.count c.in_ok-push.ensures.items c.loop-state.invariant.each
          (resolved_here c.args.grammar.now c.args.stated.now.raw.now c.args.stated.now.kernels.now c.args.stated.now.rows.now c.loop-state.state c.index-kernels-state.result c.index-rows-state.result c.as_slice-edges.result.now c.in_ok-parts.parts in_kernels c.index-kernels-state.is lt c.index-rows-state.is c.as_slice-edges.ensures c.in_ok-parts.ensures.parts);
      closer = c.in_ok-parts.ensures.closer;
    }

pub returns : goal.returns
returns g c =
    let past = c.loop-state-test.false in
    let end = c.loop-state.auto.state-end in
    let count = c.loop-state.invariant.count in
    record { count = omega (arith, past, end, count); each = λ s lt. c.loop-state.invariant.each s (omega (arith, past, lt)) }
