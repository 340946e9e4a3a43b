use Rattle.std.proofs.Common.{◌<◌, ◌∷◌, [], take, get_or, arith}
use Rattle.std.proofs.lemmas.List.{take_more}
use Rattle.mh_grammar.specs.declared.types.Symbol.TheVariants.{T}
use Rattle.mh_grammar.specs.declared.edges.Edge.{Edge}
use Rattle.mh_pager.proofs.RenumberingInvariant.{target_below, placed_below, placed_small, one_placed, one_below, IsRenumbered-none, IsRenumbered-push}
use Rattle.mh_pager.proofs.numbering.renamed.Goals as goal

pub loop-edge-init : goal.loop-edge-init
loop-edge-init c = record {
  renamed = rw c.new-new.ensures (IsRenumbered-none c.args.states.now.keys);
  few = c.requires;
}

pub overflow_cast-target : goal.overflow_cast-target
overflow_cast-target c =
    let few = c.loop-edge.invariant.few in
    let e : Edge = get_or c.args.row.now c.loop-edge.edge-index (record { symbol = T 0; target = 0 }) in
    let l : e.target < few.count = target_below few.count c.args.row.now c.loop-edge.edge-index (record { symbol = T 0; target = 0 }) c.loop-edge-test.true few.targets in
    let small = placed_small few.count c.loop-edge.states.keys c.place_state.new.states.keys e.target c.in_ok-at.at few.below l c.in_ok-at.ensures in
    omega (arith, small, few.few)

pub loop-edge-preserved : goal.loop-edge-preserved
loop-edge-preserved c =
    let i = c.loop-edge.edge-index in
    let few = c.loop-edge.invariant.few in
    let e : Edge = get_or c.args.row.now i (record { symbol = T 0; target = 0 }) in
    let l : e.target < few.count = target_below few.count c.args.row.now i (record { symbol = T 0; target = 0 }) c.loop-edge-test.true few.targets in
    record {
      renamed = rw (take_more c.args.row.now i (record { symbol = T 0; target = 0 }) c.loop-edge-test.true, c.in_ok-push.ensures.ok) (IsRenumbered-push (take i c.args.row.now) c.loop-edge.new c.args.states.now.keys c.loop-edge.states.keys c.place_state.new.states.keys e c.in_ok-at.at c.loop-edge.invariant.renamed c.in_ok-at.ensures);
      few = record {
        count = few.count;
        few = few.few;
        below = placed_below few.count c.loop-edge.states.keys c.place_state.new.states.keys (e.target ∷ []) (c.in_ok-at.at ∷ []) (one_placed c.loop-edge.states.keys c.place_state.new.states.keys e.target c.in_ok-at.at c.in_ok-at.ensures) few.below (one_below few.count e.target l);
        targets = few.targets;
      };
    }
