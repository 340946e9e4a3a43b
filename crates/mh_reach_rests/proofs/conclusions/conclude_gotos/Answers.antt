use Rattle.std.proofs.Common.{◌≡◌, ℕ, zero, None, Some, subst, sym, ◌∙◌}
use Rattle.std.proofs.lemmas.Result.{on_ok_weaker}
use Rattle.mh_grammar.specs.declared.types.Symbol.TheVariants.{N}
use Rattle.mh_grammar.specs.Plain.{lhs_of}
use Rattle.mh_tables_core.specs.Table.{edge_of}
use Rattle.mh_facts.specs.code.Queues.{Among}
use Rattle.mh_facts.specs.code.TokenClasses.{representatives_at}
use Rattle.mh_facts.proofs.QueueGains.{gains_by, gains_none}
use Rattle.mh_facts.proofs.WordCosts.{option_unique}
use Rattle.mh_reach_rests.specs.code.RestRules.{IsConcludedAt, IsGotoOf}
use Rattle.mh_reach_rests.proofs.conclusions.conclude_gotos.Goals as goal

pub returns-in-None : goal.returns-in-None
returns-in-None c =
    let t = c.args.table.now in
    let edge : edge_of t c.args.path.key.from (N (lhs_of t.grammar c.args.path.key.production)) ≡ None = rw c.lhs_of.ensures at (sym c.goto.ensures ∙ c.in-None.is) in
    gains_none (IsConcludedAt t c.args.classes.now c.args.path zero) c.args.queue.now.buckets.items (λ cost o h. (let y : None ≡ Some h.0 = sym edge ∙ h.1 in cc))

pub conclude_gotos_to-requires-clause-edge : goal.conclude_gotos_to-requires-clause-edge
conclude_gotos_to-requires-clause-edge c = rw c.lhs_of.ensures at (sym c.goto.ensures ∙ c.in-Some.is)

pub returns-in-Some : goal.returns-in-Some
returns-in-Some c =
    let t = c.args.table.now in
    let g = c.in-Some.target in
    let edge : edge_of t c.args.path.key.from (N (lhs_of t.grammar c.args.path.key.production)) ≡ Some g = rw c.lhs_of.ensures at (sym c.goto.ensures ∙ c.in-Some.is) in
    on_ok_weaker c.conclude_gotos_to.result
    (gains_by (Among (IsGotoOf t c.args.classes.now c.args.path g) (representatives_at c.args.classes.now g)) (IsConcludedAt t c.args.classes.now c.args.path zero) c.args.queue.now.buckets.items c.conclude_gotos_to.new.queue.buckets.items
    (λ cost o h. (g, edge, h))
    (λ cost o h. (let e : h.0 ≡ g = option_unique (edge_of t c.args.path.key.from (N (lhs_of t.grammar c.args.path.key.production))) h.0 g h.1 edge in subst (λ (m : ℕ). Among (IsGotoOf t c.args.classes.now c.args.path m) (representatives_at c.args.classes.now m) cost o) e h.2)))
    c.conclude_gotos_to.ensures
