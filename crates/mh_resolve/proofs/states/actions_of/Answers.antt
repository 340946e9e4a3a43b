use Rattle.std.proofs.Common.{get_or, map, ap, refl, ◌∙◌}
use Rattle.std.proofs.lemmas.List.{take_all}
use Rattle.mh_resolve_cells.specs.code.StateResults.{filled_with}
use Rattle.mh_grammar.proofs.Lists.{map_step}
use Rattle.mh_resolve.proofs.states.actions_of.Goals as goal

pub loop-cell-preserved : goal.loop-cell-preserved
loop-cell-preserved c =
    let cells = c.args.cells.now in
    let i = c.loop-cell.cell-index in
    map_step (filled_with c.args.filler) cells i _ (get_or cells i _) c.loop-cell.actions.items c.push.new.self.items c.action_of.result c.loop-cell-test.true refl c.loop-cell.invariant c.action_of.ensures c.in_ok-push.ensures.items

pub returns : goal.returns
returns c = c.loop-cell.invariant ∙ ap (map (filled_with c.args.filler)) (take_all c.loop-cell.cell-index c.args.cells.now c.loop-cell-test.false)
