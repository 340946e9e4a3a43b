use Rattle.std.proofs.Common.{◌<◌, ap, sym, ◌∙◌, arith}
use Rattle.std.proofs.lemmas.Option.{slice_get-get_or}
use Rattle.std.proofs.lemmas.List.{drop_more}
use Rattle.mh_grammar.specs.declared.types.Symbol.TheVariants.{T}
use Rattle.mh_resolve_settle.proofs.AreShifts.{shifted, skipped, token_known}
use Rattle.mh_resolve_settle.proofs.counting.shifts_of.Goals as goal
use Rattle.mh_resolve_settle.proofs.counting.shifts_of.Goals.{in-T, in_default}

pub index_mut-requires : goal.index_mut-requires
index_mut-requires c =
    let here = slice_get-get_or c.args.edges.now c.loop-edge.edge-index _ c.loop-edge-test.true in
    let known = token_known c.args.tokens c.args.edges.now c.loop-edge.edge-index c.in-T.token _ c.requires.rising here c.in-T.is c.requires.known in
    let len = c.loop-edge.invariant.len in
    omega (arith, c.from.ensures)

pub loop-edge-preserved : goal.loop-edge-preserved
loop-edge-preserved c =
    let here = slice_get-get_or c.args.edges.now c.loop-edge.edge-index _ c.loop-edge-test.true in
    let at = drop_more c.args.edges.now c.loop-edge.edge-index _ c.loop-edge-test.true in
    elim c.match-edge.branch [
      | in-T w ↦ (
          let known = token_known c.args.tokens c.args.edges.now c.loop-edge.edge-index w.in-T.token _ c.requires.rising here w.in-T.is c.requires.known in
          let token : w.from.result < c.args.tokens = omega (arith, w.from.ensures) in
          rw w.shifts-is (shifted c.args.tokens c.args.edges.now c.loop-edge.edge-index w.from.result _ c.loop-edge.shifts.items c.requires.rising here at (w.in-T.is ∙ ap T (sym w.from.ensures)) token c.loop-edge.invariant))
      | in_default w ↦ rw w.shifts-is (skipped c.args.tokens c.args.edges.now c.loop-edge.edge-index w.in_default.field-0 _ c.loop-edge.shifts.items at w.in_default.is c.loop-edge.invariant)
    ]
