use Rattle.std.proofs.Common.{◌≡◌, arith, length, get_or, List, subst, ap}
use Rattle.std.specs.List.{Contains}
use Rattle.std.proofs.lemmas.List.Elements.{Contains-get_or}
use Rattle.mh_grammar.specs.declared.types.Symbol.TheVariants.{T}
use Rattle.mh_grammar.specs.declared.edges.Edge.{Edge}
use Rattle.mh_tables_core.specs.Table.{state_at}
use Rattle.mh_reach_classes.specs.code.Reductions.{IsReductionOverEdge}
use Rattle.mh_facts.proofs.ListGains.{firsts_begin, firsts_next, firsts_all}
use Rattle.mh_facts.proofs.Edges.{edge_leads}
use Rattle.mh_reach_classes.proofs.leading_reductions.note_in.Goals as goal

pub loop-edge-init : goal.loop-edge-init
loop-edge-init c = firsts_begin (IsReductionOverEdge c.args.table.now c.args.from) (state_at c.args.table.now c.args.from).edges c.args.past.now.keys

pub note_edge-requires-clause-edge : goal.note_edge-requires-clause-edge
note_edge-requires-clause-edge c =
    let none : Edge = record { symbol = T 0; target = 0 } in
    let there : Contains c.edges-edge-items.result.now (get_or c.edges-edge-items.result.now c.loop-edge.edge-index none) = Contains-get_or c.edges-edge-items.result.now c.loop-edge.edge-index none c.loop-edge-test.true in
    edge_leads c.args.table.now c.facts.ensures c.args.from (get_or c.edges-edge-items.result.now c.loop-edge.edge-index none) (subst (λ (xs : List Edge). Contains xs (get_or c.edges-edge-items.result.now c.loop-edge.edge-index none)) c.edges-edge-items.ensures.edges there)

pub loop-edge-preserved : goal.loop-edge-preserved
loop-edge-preserved c =
    let same = c.edges-edge-items.ensures.edges in
    let none : Edge = record { symbol = T 0; target = 0 } in
    firsts_next (IsReductionOverEdge c.args.table.now c.args.from) (state_at c.args.table.now c.args.from).edges c.loop-edge.edge-index none c.args.past.now.keys c.loop-edge.past.keys c.note_edge.new.past.keys
    (rw same at c.loop-edge-test.true) c.loop-edge.invariant (rw same at c.in_ok-note_edge.ensures)

pub returns : goal.returns
returns c =
    let same = c.edges-edge-items.ensures.edges in
    firsts_all (IsReductionOverEdge c.args.table.now c.args.from) (state_at c.args.table.now c.args.from).edges c.loop-edge.edge-index c.args.past.now.keys c.loop-edge.past.keys
    (let l : length c.edges-edge-items.result.now ≡ length (state_at c.args.table.now c.args.from).edges = ap length same in let a = c.loop-edge-test.false in let b = c.loop-edge.auto.edge-index-end in omega arith) c.loop-edge.invariant
