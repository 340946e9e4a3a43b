use Rattle.std.proofs.Common.{◌≡◌, arith, length, get_or, List, subst, ap}
use Rattle.std.specs.List.{Contains}
use Rattle.std.proofs.lemmas.List.Elements.{Contains-get_or}
use Rattle.mh_grammar.specs.declared.types.Symbol.TheVariants.{T}
use Rattle.mh_grammar.specs.declared.edges.Edge.{Edge}
use Rattle.mh_tables_core.specs.Table.{state_at}
use Rattle.mh_reach_spots.specs.code.SpotSteps.{StepsEdge}
use Rattle.mh_facts.proofs.QueueGains.{first_next, first_all}
use Rattle.mh_facts.proofs.Edges.{edge_leads}
use Rattle.mh_reach_spots.proofs.StepsShift.{step_gains}
use Rattle.mh_reach_spots.proofs.steps.step_shifts.Goals as goal

pub step_edge-requires-clause-edge : goal.step_edge-requires-clause-edge
step_edge-requires-clause-edge c =
    let none : Edge = record { symbol = T 0; target = 0 } in
    let there : Contains c.edges-edge-items.result.now (get_or c.edges-edge-items.result.now c.loop-edge.edge-index none) = Contains-get_or c.edges-edge-items.result.now c.loop-edge.edge-index none c.loop-edge-test.true in
    edge_leads c.args.table.now c.facts.ensures c.args.from.spot.state (get_or c.edges-edge-items.result.now c.loop-edge.edge-index none) (subst (λ (xs : List Edge). Contains xs (get_or c.edges-edge-items.result.now c.loop-edge.edge-index none)) c.edges-edge-items.ensures.edges there)

pub loop-edge-preserved : goal.loop-edge-preserved
loop-edge-preserved c =
    let same = c.edges-edge-items.ensures.edges in
    let none : Edge = record { symbol = T 0; target = 0 } in
    first_next (StepsEdge c.args.table.now c.args.classes.now c.args.from) (state_at c.args.table.now c.args.from.spot.state).edges c.loop-edge.edge-index none c.args.queue.now.buckets.items c.loop-edge.queue.buckets.items c.step_edge.new.queue.buckets.items
    (rw same at c.loop-edge-test.true) c.loop-edge.invariant (rw same at c.in_ok-step_edge.ensures)

pub returns : goal.returns
returns c =
    let same = c.edges-edge-items.ensures.edges in
    step_gains c.args.table.now c.facts.ensures c.args.classes.now c.args.from c.args.queue.now.buckets.items c.loop-edge.queue.buckets.items
    (first_all (StepsEdge c.args.table.now c.args.classes.now c.args.from) (state_at c.args.table.now c.args.from.spot.state).edges c.loop-edge.edge-index c.args.queue.now.buckets.items c.loop-edge.queue.buckets.items
    (let l : length c.edges-edge-items.result.now ≡ length (state_at c.args.table.now c.args.from.spot.state).edges = ap length same in let a = c.loop-edge-test.false in let b = c.loop-edge.auto.edge-index-end in omega arith) c.loop-edge.invariant)
