use Rattle.std.proofs.Common.{◌≡◌, ◌≤◌, ◌+◌, arith, get_or, length}
use Rattle.std.specs.Prelude.{take, ◌++◌, ◌∷◌, []}
use Rattle.std.proofs.lemmas.List.{take_all}
use Rattle.std.proofs.lemmas.List.Elements.{Contains-get_or}
use Rattle.mh_grammar.specs.declared.edges.Edge.{Edge}
use Rattle.mh_grammar.specs.declared.types.Symbol.TheVariants.{T}
use Rattle.mh_grammar.proofs.Lists.{get_or_own_default, take_step}
use Rattle.mh_reach_rests.proofs.FiledEdges.{files_more, files_none}
use Rattle.mh_reach_rests.proofs.sources.file_edges.Goals as goal

pub loop-edge-init : goal.loop-edge-init
loop-edge-init c = files_none c.args.state c.args.rows.now.items

pub file_edge-requires : goal.file_edge-requires
file_edge-requires c = rw c.loop-edge.invariant.len (c.requires _ (Contains-get_or c.args.edges.now c.loop-edge.edge-index _ c.loop-edge-test.true))

pub loop-edge-preserved : goal.loop-edge-preserved
loop-edge-preserved c =
    let none : Edge = record { symbol = T 0; target = 0 } in
    let edges = c.args.edges.now in
    let i = c.loop-edge.edge-index in
    let x : Edge = get_or edges i none in
    let step : take (i + 1) edges ≡ take i edges ++ x ∷ [] = take_step edges i x c.loop-edge-test.true (get_or_own_default edges i none c.loop-edge-test.true) in
    rw step (files_more (take i edges) x c.args.state c.args.rows.now.items c.loop-edge.rows.items c.file_edge.new.rows.items c.loop-edge.invariant c.in_ok-file_edge.ensures)

pub returns : goal.returns
returns c =
    let past : length c.args.edges.now ≤ c.loop-edge.edge-index = (let a = c.loop-edge-test.false in omega (arith, a)) in
    rw (take_all c.loop-edge.edge-index c.args.edges.now past) at c.loop-edge.invariant
