use Rattle.std.proofs.Common.{◌≡◌, [], refl, sym, subst}
use Rattle.mh_grammar.specs.declared.types.Grammar.{Grammar}
use Rattle.mh_tables_core.specs.Table.{TableData}
use Rattle.mh_session_branches.specs.Answers.{Branches}
use Rattle.mh_session.specs.SessionState.{SessionState}
use Rattle.mh_session.specs.Represents.{Represents}
use Rattle.mh_top_plans.specs.Plan.{Plan, Serves}
use Rattle.mh_top_modes.proofs.serving.serve_on.Goals as goal

-- The session represents the plan.
abbrev Is : Grammar → SessionState → Plan → Type 0
Is g m plan = (branches : Branches) × Represents m branches × (plan ≡ Serves g m.table branches)

-- A session without names represents the plan without branches.
serves_new : (g : Grammar) (t : TableData) (m : SessionState) → m ≡ record { table = t; held = [] } → (plan : Plan) × (plan ≡ Serves g t []) × (Is g m plan)
serves_new g t m e = (Serves g t [], refl, subst (λ (x : SessionState). Is g x (Serves g t [])) (sym e) ([], λ name. tt, refl))

pub returns-in-Ok : goal.returns-in-Ok
returns-in-Ok g c = serves_new c.args.prepared.now.grammar c.args.prepared.now.tabled.halting c.new-in-Ok.result c.new-in-Ok.ensures
