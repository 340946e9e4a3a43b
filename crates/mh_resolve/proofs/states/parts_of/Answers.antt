use Rattle.std.proofs.Common.{ap, ◌∙◌}
use Rattle.std.specs.Prelude.{map}
use Rattle.mh_resolve.proofs.IsResolved.{parts_is}
use Rattle.mh_resolve.proofs.states.parts_of.Goals as goal

pub returns : goal.returns
returns g c =
    parts_is c.args.grammar.now c.args.state.now.kernel.now c.args.state.now.closed.now c.args.state.now.edges.now c.args.mode c.requires.exact c.requires.row.known c.args.row.now.cells c.as_slice-cells.result.now c.args.row.now.last c.args.row.now.stream c.requires.row
    c.as_slice-cells.ensures c.default_of-default.result c.filler_of-filler.result
    (rw c.kept_action-kept.ensures at c.default_of-default.ensures)
    (rw c.as_slice.ensures at c.filler_of-filler.ensures)
    _ (c.from_vec.ensures ∙ c.in_ok-actions.ensures) c.fallback_of.ensures (c.from_vec-2.ensures ∙ c.in_ok-copies.ensures.items) (c.from_vec-3.ensures ∙ c.in_ok-core.ensures ∙ ap (map _) c.as_slice-2.ensures)
