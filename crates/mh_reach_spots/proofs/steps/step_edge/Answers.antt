use Rattle.std.proofs.Common.{ℕ, ◌≡◌, sym, ◌∙◌}
use Rattle.std.proofs.lemmas.Result.{on_ok_weaker}
use Rattle.mh_grammar.specs.declared.types.Symbol.TheVariants.{T, N}
use Rattle.mh_reach_spots.specs.code.SpotSteps.{StepsAlong, StepsEdge}
use Rattle.mh_facts.proofs.QueueGains.{gains_by, gains_none}
use Rattle.mh_facts.proofs.Edges.{known_token}
use Rattle.mh_reach_spots.proofs.steps.step_edge.Goals as goal

one_token : (a b : ℕ) → T a ≡ T b → a ≡ b
one_token a b e = cc

apart : (a b : ℕ) → N a ≡ T b → ⊥
apart a b e = cc

pub returns-in-N : goal.returns-in-N
returns-in-N c = gains_none (StepsEdge c.args.table.now c.args.classes.now c.args.from c.args.edge) c.args.queue.now.buckets.items (λ at o h. apart c.in-N.field-0 h.0 (sym c.in-N.is ∙ h.1))

pub step_on-requires-clause-token : goal.step_on-requires-clause-token
step_on-requires-clause-token c = known_token c.args.table.now c.facts.ensures c.args.from.spot.state c.in-T.token c.args.edge.target (rw c.in-T.is at c.requires.edge)

pub returns-in-T : goal.returns-in-T
returns-in-T c =
    let k = c.args.from in
    let x = c.in-T.token in
    on_ok_weaker c.step_on.result (gains_by (StepsAlong c.args.table.now c.args.classes.now k x) (StepsEdge c.args.table.now c.args.classes.now k c.args.edge) c.args.queue.now.buckets.items c.step_on.new.queue.buckets.items
    (λ at o h. (x, c.in-T.is, h))
    (λ at o h. (let e = one_token h.0 x (sym h.1 ∙ c.in-T.is) in rw e at h.2)))
    c.step_on.ensures
