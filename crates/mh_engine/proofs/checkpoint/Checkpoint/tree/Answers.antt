use Rattle.std.proofs.Common.{◌≡◌, ap, sym, subst, ◌∙◌}
use Rattle.mh_grammar.specs.Trees.{SyntaxTree}
use Rattle.mh_tables_core.specs.Table.{TableData}
use Rattle.mh_tables_core.specs.Facts.{Facts}
use Rattle.mh_engine.specs.Positions.{Position}
use Rattle.mh_engine.specs.code.IsSound.{IsSound}
use Rattle.mh_engine.proofs.PhaseMoves.{accepted_tree, accepted_some}
use Rattle.mh_engine.proofs.checkpoint.Checkpoint.tree.Goals as goal

pub unreachable-requires : goal.unreachable-requires
unreachable-requires c =
    let facts = subst (λ (p : Position). Facts p.table) c.self.view_is c.table-rows.ensures.facts.facts in
    let sound = subst IsSound c.self.view_is c.self.invariant.0 in
    accepted_some c.args.self.now facts sound.trees_match (sym c.in-Accepted.ensures) (ap (λ (p : Position). p.pairs.trees) (sym c.self.view_is) ∙ c.in-None.ensures.none)

pub returns-in-Some-clause-some : goal.returns-in-Some-clause-some
returns-in-Some-clause-some c =
    let facts = subst (λ (p : Position). Facts p.table) c.self.view_is c.table-rows.ensures.facts.facts in
    let sound = subst IsSound c.self.view_is c.self.invariant.0 in
    let some = c.in-Some.ensures.some in
    accepted_tree c.args.self.now facts sound.trees_match (sym c.in-Accepted.ensures) some.0.trees c.in-Some.tree.now (ap (λ (p : Position). p.pairs.trees) (sym c.self.view_is) ∙ some.1)
