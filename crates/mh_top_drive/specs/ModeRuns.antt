-- The effect of a mode on the input and on out, after the warnings: for a mode that ran to its end, and for a mode that
-- was cut short by a fault.
use Rattle.std.specs.Prelude.{◌≡◌, ◌⊎◌, ℕ, suc, true, List, [], ◌∷◌, ◌++◌, length, Option, None, Some, ⊤}
use Rattle.std.specs.Io.KnownBytes.{Appends}
use Rattle.mh_outside.specs.Lines.{LosesBytes}
use Rattle.mh_outside.specs.Sink.{IsPrefix}
use Rattle.mh_grammar.specs.Text.{Text}
use Rattle.mh_top_drive.specs.InputLines.{input_after_lines}
use Rattle.mh_top_drive.specs.ModeBehavior.{AnswersAll, AreAskedLines, ModeEnd, Outcome, ModeBehavior, HasOutcome, asked_lines}
use Rattle.mh_top_drive.specs.declared.driving.Asks.{Asks}
use Rattle.mh_top_drive.specs.declared.driving.Asks.TheVariants.{NoLine}
use Rattle.mh_top_drive.specs.declared.stop.Cause.{Cause}

-- The lines are a prefix of the lines that are asked for. This is always true of an input that is not known.
abbrev pub AreFirstLines : Asks → Option Text → List Text → Type 0
AreFirstLines asks None lines = ⊤
AreFirstLines asks (Some input) lines = (more : List Text) × (asked_lines asks input ≡ lines ++ more)

-- Exactly the first n lines of the input were read. A mode that asks for no line reads nothing.
abbrev pub TookLines : Asks → Option Text → Option Text → ℕ → Type 0
TookLines NoLine old new n = new ≡ old
TookLines asks None new n = ⊤
TookLines asks (Some input) new n = new ≡ Some (input_after_lines n input)

-- The first n lines of the input and some bytes of the next line were read.
abbrev pub TookPartOfNext : Asks → Option Text → Option Text → ℕ → Type 0
TookPartOfNext NoLine old new n = new ≡ old
TookPartOfNext asks None new n = ⊤
TookPartOfNext asks (Some input) new n = LosesBytes (Some (input_after_lines n input)) new (λ size. ⊤)

-- The input is what was said to be left of it, if anything was said.
abbrev pub LeavesInput : Option Text → Option Text → Type 0
LeavesInput None left = ⊤
LeavesInput (Some said) left = left ≡ Some said

module _ {Plan : Type 0} (behavior : ModeBehavior Plan) where
  -- The lines are the first that the mode asks for, the text has their answers, and `next` is the state of the mode
  -- after them.
  pub record HasAnswered (plan : Plan) (input : Option Text) (lines : List Text) (text : Text) (next : Plan) : Type 0 where
    pub answers : AnswersAll behavior plan lines text next
    pub first : AreFirstLines (behavior.asks_of plan) input lines

  -- The text is a prefix of the answer to the line after the given lines.
  pub record IsAnswerPrefix (plan : Plan) (input : Option Text) (lines : List Text) (next : Plan) (front : Text) : Type 0 where
    pub line : Text
    pub answer : Text
    pub after : Plan
    pub answers : behavior.Answers next line answer after
    pub first : AreFirstLines (behavior.asks_of plan) input (lines ++ line ∷ [])
    pub is_prefix : IsPrefix front answer

  -- All lines that are asked for were answered, and the text is a prefix of the text that the mode writes at its end.
  pub record IsEndPrefix (plan : Plan) (input : Option Text) (lines : List Text) (next : Plan) (front : Text) : Type 0 where
    pub all : AreAskedLines (behavior.asks_of plan) input lines true
    pub ending : ModeEnd
    pub ends : behavior.EndsWith next ending
    pub is_prefix : IsPrefix front ending.out

  -- A write failed, either in the answer to a line, which is then the last line that was read, or in the text at the
  -- end of the mode.
  abbrev pub WriteFailsAt : Plan → Option Text → Option Text → List Text → Plan → Text → Type 0
  WriteFailsAt plan old new lines next front = (IsAnswerPrefix plan old lines next front × TookLines (behavior.asks_of plan) old new (suc (length lines))) ⊎ (IsEndPrefix plan old lines next front × TookLines (behavior.asks_of plan) old new (length lines))

  -- A read of the input failed, and out has whole answers only.
  abbrev pub ReadFailsAt : Plan → Option Text → Option Text → List Text → Plan → Text → Type 0
  ReadFailsAt plan old new lines next front = (front ≡ []) × TookPartOfNext (behavior.asks_of plan) old new (length lines)

  -- Memory ran out: for a line, for its answer, or at the end of the mode. Only at the end may a prefix of the text
  -- have been written.
  abbrev pub LacksMemoryAt : Plan → Option Text → Option Text → List Text → Plan → Text → Type 0
  LacksMemoryAt plan old new lines next front =
      ((front ≡ []) × (TookPartOfNext (behavior.asks_of plan) old new (length lines) ⊎ TookLines (behavior.asks_of plan) old new (length lines) ⊎ TookLines (behavior.asks_of plan) old new (suc (length lines))))
      ⊎ (IsEndPrefix plan old lines next front × TookLines (behavior.asks_of plan) old new (length lines))

  -- Out has the answers to the first lines, and then the text `prefix`, for which `At` is true.
  pub record IsPartialRun (plan : Plan) (input old new : Option Text) (At : List Text → Plan → Text → Type 0) : Type 0 where
    pub lines : List Text
    pub text : Text
    pub next : Plan
    pub prefix : Text
    pub answered : HasAnswered plan input lines text next
    pub at : At lines next prefix
    pub on_out : Appends old new (text ++ prefix)

  -- The mode ran to its end, and its outcome has this cause.
  pub record IsCompleteRun (plan : Plan) (in0 in1 out0 out1 : Option Text) (cause : Option Cause) : Type 0 where
    pub outcome : Outcome
    pub yields : HasOutcome behavior plan in0 outcome
    pub cause_is : outcome.cause ≡ cause
    pub on_out : Appends out0 out1 outcome.out
    pub left_is : LeavesInput outcome.left in1
