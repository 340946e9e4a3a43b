-- The answer to one line in the text that answers many lines.
use Rattle.std.specs.Prelude.{◌≡◌, List, ◌++◌}
use Rattle.mh_grammar.specs.Text.{Text}
use Rattle.mh_top_plans.specs.Verdicts.{VerdictContext, IsAnswerToLine}
use Rattle.mh_top_plans.specs.Plan.{Plan, Judges, Answers, plan_behavior}
use Rattle.mh_top_drive.specs.ModeBehavior.{AnswersAll}

-- The text is the answers to the lines before, the answer to this line, and the answers to the lines after.
pub record IsAnsweredAt (plan : Plan) (before : List Text) (line : Text) (after : List Text) (text : Text) (last : Plan) : Type 0 where
  pub text_before : Text
  pub answer : Text
  pub text_after : Text
  pub plan_at_line : Plan
  pub next : Plan
  pub all_before : AnswersAll plan_behavior plan before text_before plan_at_line
  pub answers : Answers plan_at_line line answer next
  pub all_after : AnswersAll plan_behavior next after text_after last
  pub text_is : text ≡ text_before ++ (answer ++ text_after)

-- The text has the answer to this line at its place, and the answer depends on this line alone.
pub record HasVerdictAt (by : VerdictContext) (before : List Text) (line : Text) (after : List Text) (text : Text) : Type 0 where
  pub text_before : Text
  pub answer : Text
  pub text_after : Text
  pub all_before : AnswersAll plan_behavior (Judges by) before text_before (Judges by)
  pub answers : IsAnswerToLine by line answer
  pub text_is : text ≡ text_before ++ (answer ++ text_after)
