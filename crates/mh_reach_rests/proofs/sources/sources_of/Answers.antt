use Rattle.std.proofs.Common.{◌≡◌, arith, length, List, subst, ◌∙◌}
use Rattle.std.specs.List.{Contains}
use Rattle.mh_grammar.specs.declared.edges.Edge.{Edge}
use Rattle.mh_facts.proofs.Edges.{edge_leads}
use Rattle.mh_reach_rests.proofs.FiledEdges.{sources_next, sources_none}
use Rattle.mh_reach_rests.proofs.sources.sources_of.Goals as goal

pub loop-state-init : goal.loop-state-init
loop-state-init c = sources_none c.args.table.now _ (c.in_ok-rows.ensures.rows ∙ c.states.ensures) c.in_ok-rows.ensures.none

pub file_edges-requires : goal.file_edges-requires
file_edges-requires c e there =
    let leads = edge_leads c.args.table.now c.facts.ensures c.loop-state.state e (subst (λ (xs : List Edge). Contains xs e) c.edges.ensures.edges there) in
    rw c.loop-state.invariant.len (c.facts.ensures.each_target c.loop-state.state e.symbol e.target leads)

pub loop-state-preserved : goal.loop-state-preserved
loop-state-preserved c = sources_next c.args.table.now c.loop-state.state c.loop-state.rows.items c.file_edges.new.rows.items c.loop-state.invariant (rw c.edges.ensures.edges at c.in_ok-file_edges.ensures)

pub returns : goal.returns
returns c = let e : c.loop-state.state ≡ length c.args.table.now.states = (let a = c.loop-state-test.false in let b = c.loop-state.auto.state-end in let d = c.states-state-end.ensures in omega arith) in rw e at c.loop-state.invariant
