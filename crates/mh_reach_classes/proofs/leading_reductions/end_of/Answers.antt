use Rattle.std.proofs.Common.{◌≡◌, arith, length, refl, None, Some, sym, ◌∙◌}
use Rattle.mh_grammar.specs.Plain.{rhs_of}
use Rattle.mh_tables_core.specs.Table.{edge_of}
use Rattle.mh_reach_classes.proofs.AllReductions.{edge_is, path_end_step, no_end}
use Rattle.mh_reach_classes.proofs.leading_reductions.end_of.Goals as goal

pub loop-place-init : goal.loop-place-init
loop-place-init c = (refl, c.requires.from)

pub loop-place-preserved : goal.loop-place-preserved
loop-place-preserved c =
    let t = c.args.table.now in
    let edge : edge_of t c.loop-place.end c.symbol_of.result ≡ Some c.in-Some.next = edge_is t c.loop-place.end c.symbol_of.result c.edges.result.now (Some c.in-Some.next) c.edges.ensures.edges (sym c.in-Some.is ∙ c.find_edge.ensures) in
    (path_end_step t c.args.from c.args.production c.loop-place.place c.loop-place.end c.in-Some.next c.symbol_of.result c.loop-place.invariant.0 c.symbol_of.ensures edge, c.facts.ensures.each_target c.loop-place.end c.symbol_of.result c.in-Some.next edge)

pub returns-in-None : goal.returns-in-None
returns-in-None c e there =
    let t = c.args.table.now in
    let edge : edge_of t c.loop-place.end c.symbol_of.result ≡ None = edge_is t c.loop-place.end c.symbol_of.result c.edges.result.now None c.edges.ensures.edges (sym c.in-None.is ∙ c.find_edge.ensures) in
    no_end t c.args.from c.args.production c.loop-place.place c.loop-place.end c.symbol_of.result c.loop-place.invariant.0 c.symbol_of.ensures edge (length (rhs_of t.grammar c.args.production)) e (let a = c.loop-place-test.true in let b = c.length_of-place-end.ensures in omega arith) there

pub returns : goal.returns
returns c = let e : c.loop-place.place ≡ length (rhs_of c.args.table.now.grammar c.args.production) = (let a = c.loop-place-test.false in let b = c.loop-place.auto.place-end in let d = c.length_of-place-end.ensures in omega arith) in rw (← e) c.loop-place.invariant.0
