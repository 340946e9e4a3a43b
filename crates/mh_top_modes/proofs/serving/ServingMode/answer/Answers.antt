use Rattle.std.proofs.Common.{◌≡◌, ℕ, Vec, Result, Ok, Err, refl, sym, subst, ap}
use Rattle.std.specs.Prelude.{IfOk}
use Rattle.std.specs.declared.alloc.Global.{Global}
use Rattle.mh_grammar.specs.declared.types.Grammar.{Grammar}
use Rattle.mh_grammar.specs.declared.types.Memory.{Memory}
use Rattle.mh_tables_core.specs.Table.{TableData}
use Rattle.mh_session_branches.specs.Answers.{Branches}
use Rattle.mh_session.specs.SessionState.{SessionState}
use Rattle.mh_session.specs.Represents.{Represents}
use Rattle.mh_session_branches.specs.Replies.{AnswersLine}
use Rattle.mh_session.specs.LineAnswers.{IsLineAnswered}
use Rattle.mh_grammar.specs.Text.{Text}
use Rattle.mh_top_plans.specs.Plan.{Plan, Serves, Answers}
use Rattle.mh_top_modes.proofs.serving.ServingMode.answer.Goals as goal

-- The session represents the plan.
abbrev Is : Grammar → SessionState → Plan → Type 0
Is g session plan = (branches : Branches) × Represents session branches × (plan ≡ Serves g session.table branches)

answers_by : (g : Grammar) (t : TableData) (bs after : Branches) (line : Text) (r : Result (Vec ℕ Global) Memory) → IfOk r (λ text. AnswersLine g t bs line text.items after) → IfOk r (λ text. Answers (Serves g t bs) line text.items (Serves g t after))
answers_by g t bs after line (Ok text) is = (after, is, refl)
answers_by g t bs after line (Err e) is = tt

serves_line : (g : Grammar) (line : Text) (old new : SessionState) (r : Result (Vec ℕ Global) Memory) → IsLineAnswered g line old new r → new.table ≡ old.table → (plan : Plan) → Is g old plan → (next : Plan) × Is g new next × IfOk r (λ text. Answers plan line text.items next)
serves_line g line old new r told same plan is =
    let t = told is.0 is.1 in
    let next : Plan = Serves g old.table t.0 in (
      next,
      (t.0, t.1, ap (λ (u : TableData). Serves g u t.0) (sym same)),
      subst (λ (p : Plan). IfOk r (λ text. Answers p line text.items next)) (sym is.2) (answers_by g old.table is.0 t.0 line r t.2),
    )

pub returns : goal.returns
returns c =
    serves_line c.args.self.now.grammar.now c.args.line.now c.args.self.now.session c.answer_line.new.session c.answer_line.result c.answer_line.ensures.answered
    c.answer_line.ensures.table
