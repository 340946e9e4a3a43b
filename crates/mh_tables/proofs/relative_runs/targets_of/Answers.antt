use Rattle.std.proofs.Common.{◌≡◌, Some, get_or}
use Rattle.std.specs.List.{slice_get}
use Rattle.std.proofs.lemmas.Option.{slice_get-get_or}
use Rattle.mh_grammar.specs.declared.types.Symbol.TheVariants.{T}
use Rattle.mh_grammar.specs.declared.edges.Edge.{Edge}
use Rattle.mh_tables.proofs.FirstLoop.{edge_is, targets_are, targets_more}
use Rattle.mh_tables.proofs.relative_runs.targets_of.Goals as goal

pub add_target-requires-clause-edge : goal.add_target-requires-clause-edge
add_target-requires-clause-edge c =
    let es = c.edges-edge-items.result.now in
    let e : Edge = get_or es c.loop-edge.edge-index (record { symbol = T 0; target = 0 }) in
    let at : slice_get es c.loop-edge.edge-index ≡ Some e = slice_get-get_or es c.loop-edge.edge-index (record { symbol = T 0; target = 0 }) c.loop-edge-test.true in
    edge_is c.args.table.now c.facts.ensures c.args.from es c.loop-edge.edge-index e c.edges-edge-items.ensures.edges at

pub loop-edge-preserved : goal.loop-edge-preserved
loop-edge-preserved c =
    let es = c.edges-edge-items.result.now in
    let e : Edge = get_or es c.loop-edge.edge-index (record { symbol = T 0; target = 0 }) in
    let at : slice_get es c.loop-edge.edge-index ≡ Some e = slice_get-get_or es c.loop-edge.edge-index (record { symbol = T 0; target = 0 }) c.loop-edge-test.true in
    record {
      each = c.in_ok-add_target.ensures.each c.loop-edge.invariant.each;
      all = targets_more c.args.table.now c.args.from c.loop-edge.edge-index es c.loop-edge.targets.items c.add_target.new.targets.items e at c.in_ok-add_target.ensures c.loop-edge.invariant.all;
    }

pub returns : goal.returns
returns c =
    targets_are c.args.table.now c.facts.ensures c.args.from c.loop-edge.edge-index c.edges-edge-items.result.now c.loop-edge.targets.items c.sort_unstable.new.self.items c.edges-edge-items.ensures.edges c.loop-edge-test.false
    c.loop-edge.invariant.each c.loop-edge.invariant.all c.sort_unstable.ensures.permutation c.sort_unstable.ensures.sorted
