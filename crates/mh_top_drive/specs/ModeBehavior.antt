-- The behavior of a mode, which lines of the input it asks for, how it answers each and how it ends; and the outcome of
-- a mode on an input.
use Rattle.std.specs.Prelude.{◌≡◌, ℕ, Bool, true, false, List, [], ◌∷◌, ◌++◌, length, take, Option, None, Some, ⊤}
use Rattle.mh_grammar.specs.Text.{Text}
use Rattle.mh_top_drive.specs.InputLines.{lines_of_input, lines_within_limits, are_within_limits, input_after_lines}
use Rattle.mh_top_drive.specs.declared.driving.Asks.{Asks}
use Rattle.mh_top_drive.specs.declared.driving.Asks.TheVariants.{NoLine, FirstLine, EachLine}
use Rattle.mh_top_drive.specs.Limits.{line_limit, line_count_limit}
use Rattle.mh_top_drive.specs.declared.stop.Cause.{Cause}
use Rattle.mh_top_drive.specs.declared.stop.Cause.TheVariants.{LongInput}

-- The end of a mode: the text on out after the answers, and the cause if the mode stops the work.
pub record ModeEnd : Type 0 where
  pub cause : Option Cause
  pub out : Text

-- The behavior of a mode, by its state between two lines: `asks_of` says which lines the mode asks for, `Answers`
-- relates a state and a line to the answer and the next state, and `EndsWith` relates the last state to the end.
pub record ModeBehavior (State : Type 0) : Type 1 where
  pub asks_of : State → Asks
  pub Answers : State → Text → Text → State → Type 0
  pub EndsWith : State → ModeEnd → Type 0

-- ---- The requested lines.

-- The highest number of lines that a mode may ask for.
abbrev pub max_lines : Asks → ℕ
max_lines NoLine = 0
max_lines FirstLine = 1
max_lines EachLine = line_count_limit

-- The requested part of the remaining lines, if the mode may ask for n more lines.
abbrev pub requested_lines : Asks → ℕ → List Text → List Text
requested_lines NoLine n lines = []
requested_lines FirstLine n lines = take n lines
requested_lines EachLine n lines = lines

-- The lines of an input that a mode requests and that can be read.
abbrev pub asked_lines : Asks → Text → List Text
asked_lines asks input = lines_within_limits line_limit (max_lines asks) (requested_lines asks (max_lines asks) (lines_of_input input))

-- The lines are the requested ones that can be read. `whole` is true if these are all the requested ones: no line is
-- too long, and there are not too many lines. If the input is not known, any lines are possible.
abbrev pub AreAskedLines : Asks → Option Text → List Text → Bool → Type 0
AreAskedLines NoLine input lines whole = (lines ≡ []) × (whole ≡ true)
AreAskedLines asks None lines whole = ⊤
AreAskedLines asks (Some input) lines whole = (asked_lines asks input ≡ lines) × (are_within_limits line_limit (max_lines asks) (requested_lines asks (max_lines asks) (lines_of_input input)) ≡ whole)

-- The input after the lines, if they are all the requested ones. Nothing is said of the input otherwise.
abbrev pub input_left : Option Text → Bool → List Text → Option Text
input_left (Some input) true lines = Some (input_after_lines (length lines) input)
input_left input whole lines = None

-- ---- The outcome of a mode.

-- The outcome of a mode: the cause if the work ends early, the text on out, and the rest of the input if it is known.
pub record Outcome : Type 0 where
  pub cause : Option Cause
  pub out : Text
  pub left : Option Text

-- The text is the answers to the lines, one after the other, and `next` is the state of the mode after them.
abbrev pub AnswersAll : {State : Type 0} → ModeBehavior State → State → List Text → Text → State → Type 0
AnswersAll behavior plan [] text next = (text ≡ []) × (next ≡ plan)
AnswersAll {State} behavior plan (line ∷ lines) text next = (first rest : Text) × (mid : State) × behavior.Answers plan line first mid × AnswersAll behavior mid lines rest next × (text ≡ first ++ rest)

-- The cause and the whole text of a mode after its answers. If all requested lines can be read, the mode ends;
-- otherwise the input is too big, and nothing follows the answers.
abbrev pub EndsAfterAnswers : {State : Type 0} → ModeBehavior State → Bool → State → Text → Option Cause → Text → Type 0
EndsAfterAnswers behavior true plan text cause out = (e : ModeEnd) × behavior.EndsWith plan e × (cause ≡ e.cause) × (out ≡ text ++ e.out)
EndsAfterAnswers behavior false plan text cause out = (cause ≡ Some LongInput) × (out ≡ text)

-- An outcome of a mode on an input: the requested lines are answered, and then the mode ends.
pub record HasOutcome {State : Type 0} (behavior : ModeBehavior State) (plan : State) (input : Option Text) (o : Outcome) : Type 0 where
  pub lines : List Text
  pub complete : Bool
  pub asks : AreAskedLines (behavior.asks_of plan) input lines complete
  pub text : Text
  pub last : State
  pub answers : AnswersAll behavior plan lines text last
  pub ends : EndsAfterAnswers behavior complete last text o.cause o.out
  pub left_is : o.left ≡ input_left input complete lines
