-- The contracts of the calls that run a mode. Each relates the input and out before and after the call to its result.
use Rattle.std.specs.Prelude.{◌≡◌, ◌⊎◌, ℕ, ◌+◌, ◌≤◌, Bool, true, false, List, length, Option, None, Some, Result, Ok, Err, ⊤, Vec}
use Rattle.std.specs.declared.alloc.Global.{Global}
use Rattle.std.specs.Io.KnownBytes.{Appends, Keeps, IsAtEnd}
use Rattle.mh_outside.specs.Faults.{HasRisen}
use Rattle.mh_outside.specs.Lines.{HasNoLF, LosesBytes, TakesLine, after_line}
use Rattle.mh_outside.specs.Sink.{AppendsPrefix}
use Rattle.mh_outside.specs.declared.lines.LineFault.{LineFault}
use Rattle.mh_outside.specs.declared.lines.LineFault.TheVariants as faults
use Rattle.mh_grammar.specs.Text.{Text}
use Rattle.mh_top_drive.specs.ModeBehavior.{AnswersAll, AreAskedLines, ModeEnd, ModeBehavior}
use Rattle.mh_top_drive.specs.Limits.{line_limit}
use Rattle.mh_top_drive.specs.declared.stop.Cause.TheVariants.{LongInput}
use Rattle.mh_top_drive.specs.declared.stop.Stop.{Stop}
use Rattle.mh_top_drive.specs.declared.stop.Stop.TheVariants.{Halted, ShelfFailed, InputFailed, WriteFailed, OutOfMemory}
use Rattle.mh_top_drive.specs.ModeRuns.{WriteFailsAt, IsCompleteRun, ReadFailsAt, IsPartialRun, TookLines, LacksMemoryAt}

-- The end of a mode was written whole; or a write failed after a prefix; or memory ran out before or after a prefix.
abbrev pub EndIsWritten : (ModeEnd → Type 0) → Option Text → Option Text → Result (Unit {0}) Stop → Type 0
EndIsWritten Is out0 out1 (Ok _) = (e : ModeEnd) × Is e × (e.cause ≡ None) × Appends out0 out1 e.out
EndIsWritten Is out0 out1 (Err (Halted cause)) = (e : ModeEnd) × Is e × (e.cause ≡ Some cause) × Appends out0 out1 e.out
EndIsWritten Is out0 out1 (Err WriteFailed) = (e : ModeEnd) × Is e × AppendsPrefix out0 out1 e.out
EndIsWritten Is out0 out1 (Err OutOfMemory) = (out1 ≡ out0) ⊎ ((e : ModeEnd) × Is e × AppendsPrefix out0 out1 e.out)
EndIsWritten Is out0 out1 (Err _) = ⊥

-- The counts of faults of out before and after a call: the count rose exactly if the call reports a failed write.
abbrev pub OutCounts : {T : Type 0} → ℕ → ℕ → Result T Stop → Type 0
OutCounts before now (Err WriteFailed) = (before ≤ now) × HasRisen before now
OutCounts before now _ = now ≡ before

-- The input now holds the bytes after its first line.
abbrev pub IsAfterFirstLine : Option Text → Option Text → Type 0
IsAfterFirstLine None new = ⊤
IsAfterFirstLine (Some bytes) new = new ≡ Some (after_line bytes)

-- A whole line was read, and it is within the limit.
abbrev pub TookLine : Option Text → Option Text → Text → Type 0
TookLine old new line = TakesLine old new line × HasNoLF line × (length line ≤ line_limit) × IsAfterFirstLine old new

-- The next line was read, or the input is at its end, or the line could not be read for the given reason.
abbrev pub NextLineIsRead : Option Text → Option Text → Result (Option (Vec ℕ Global)) Stop → Type 0
NextLineIsRead old new (Ok None) = IsAtEnd old × Keeps old new
NextLineIsRead old new (Ok (Some line)) = TookLine old new line.items
NextLineIsRead old new (Err (Halted cause)) = (cause ≡ LongInput) × LosesBytes old new (λ n. n ≡ line_limit + 1)
NextLineIsRead old new (Err InputFailed) = LosesBytes old new (λ n. ⊤)
NextLineIsRead old new (Err OutOfMemory) = LosesBytes old new (λ n. ⊤)
NextLineIsRead old new (Err _) = ⊥

-- The counts of faults of the input and of out before and after a call: a count rose exactly if the call reports a
-- fault of its device.
abbrev pub InputAndOutCounts : {T : Type 0} → ℕ → ℕ → ℕ → ℕ → Result T Stop → Type 0
InputAndOutCounts in0 in1 out0 out1 (Err InputFailed) = (in0 ≤ in1) × HasRisen in0 in1 × (out1 ≡ out0)
InputAndOutCounts in0 in1 out0 out1 (Err WriteFailed) = (in1 ≡ in0) × (out0 ≤ out1) × HasRisen out0 out1
InputAndOutCounts in0 in1 out0 out1 _ = (in1 ≡ in0) × (out1 ≡ out0)

-- The reason to stop the work for a fault of the input.
abbrev pub IsStopForLineFault : LineFault → Stop → Type 0
IsStopForLineFault faults.Failed stop = stop ≡ InputFailed
IsStopForLineFault faults.TooBig stop = stop ≡ Halted LongInput
IsStopForLineFault faults.Memory stop = stop ≡ OutOfMemory

-- The text was written whole, or a write failed after a prefix.
abbrev pub TextIsWritten : Text → Option Text → Option Text → Result (Unit {0}) Stop → Type 0
TextIsWritten text out0 out1 (Ok _) = Appends out0 out1 text
TextIsWritten text out0 out1 (Err WriteFailed) = AppendsPrefix out0 out1 text
TextIsWritten text out0 out1 (Err _) = ⊥

-- The input is at its end; or it has a further line, so that it is too long; or a read failed or memory ran out.
abbrev pub NoLineIsLeft : Option Text → Option Text → Result (Unit {0}) Stop → Type 0
NoLineIsLeft old new (Ok _) = IsAtEnd old × Keeps old new
NoLineIsLeft old new (Err (Halted cause)) = (cause ≡ LongInput) × (LosesBytes old new (λ n. n ≡ 0 + 1) ⊎ ((line : Text) × TakesLine old new line × HasNoLF line))
NoLineIsLeft old new (Err InputFailed) = LosesBytes old new (λ n. ⊤)
NoLineIsLeft old new (Err OutOfMemory) = LosesBytes old new (λ n. ⊤)
NoLineIsLeft old new (Err _) = ⊥

-- The counts of faults of the input before and after a call: the count rose exactly if the call reports a failed read.
abbrev pub InputCounts : {T : Type 0} → ℕ → ℕ → Result T Stop → Type 0
InputCounts before now (Err InputFailed) = (before ≤ now) × HasRisen before now
InputCounts before now _ = now ≡ before

-- The counts of faults of the shelf before and after a mode: the count rose if the shelf failed, and is unchanged
-- otherwise, except that it may have risen where memory ran out.
abbrev pub ModeShelfCounts : {T : Type 0} → ℕ → ℕ → Result T Stop → Type 0
ModeShelfCounts before now (Err (ShelfFailed name)) = (before ≤ now) × HasRisen before now
ModeShelfCounts before now (Err OutOfMemory) = before ≤ now
ModeShelfCounts before now _ = now ≡ before

module _ {Plan : Type 0} (behavior : ModeBehavior Plan) where
  -- The mode ran to its end, or was cut short by a failed read, a failed write or lack of memory.
  abbrev pub ModeRan : Plan → Option Text → Option Text → Option Text → Option Text → Result (Unit {0}) Stop → Type 0
  ModeRan plan in0 in1 out0 out1 (Ok _) = IsCompleteRun behavior plan in0 in1 out0 out1 None
  ModeRan plan in0 in1 out0 out1 (Err (Halted cause)) = IsCompleteRun behavior plan in0 in1 out0 out1 (Some cause)
  ModeRan plan in0 in1 out0 out1 (Err (ShelfFailed name)) = ⊥
  ModeRan plan in0 in1 out0 out1 (Err InputFailed) = IsPartialRun behavior plan in0 out0 out1 (ReadFailsAt behavior plan in0 in1)
  ModeRan plan in0 in1 out0 out1 (Err WriteFailed) = IsPartialRun behavior plan in0 out0 out1 (WriteFailsAt behavior plan in0 in1)
  ModeRan plan in0 in1 out0 out1 (Err OutOfMemory) = IsPartialRun behavior plan in0 out0 out1 (LacksMemoryAt behavior plan in0 in1)

  -- All lines that are asked for were read and answered.
  pub record AllLinesAreAnswered (plan : Plan) (in0 in1 out0 out1 : Option Text) (next : Plan) : Type 0 where
    pub lines : List Text
    pub asks : AreAskedLines (behavior.asks_of plan) in0 lines true
    pub text : Text
    pub answers : AnswersAll behavior plan lines text next
    pub on_out : Appends out0 out1 text
    pub lines_taken : TookLines (behavior.asks_of plan) in0 in1 (length lines)

  -- All lines that are asked for were read and answered, or the mode was cut short.
  abbrev pub LinesAreAnswered : Plan → Option Text → Option Text → Option Text → Option Text → Plan → Result (Unit {0}) Stop → Type 0
  LinesAreAnswered plan in0 in1 out0 out1 next (Ok _) = AllLinesAreAnswered plan in0 in1 out0 out1 next
  LinesAreAnswered plan in0 in1 out0 out1 next (Err stop) = ModeRan plan in0 in1 out0 out1 (Err stop)

  -- The next line was read and answered; or the input is at its end; or the work stopped for the given reason.
  abbrev pub LineIsAnswered : Plan → Plan → Option Text → Option Text → Option Text → Option Text → Result Bool Stop → Type 0
  LineIsAnswered plan next in0 in1 out0 out1 (Ok false) = IsAtEnd in0 × Keeps in0 in1 × (next ≡ plan) × Keeps out0 out1
  LineIsAnswered plan next in0 in1 out0 out1 (Ok true) = (line text : Text) × TookLine in0 in1 line × behavior.Answers plan line text next × Appends out0 out1 text
  LineIsAnswered plan next in0 in1 out0 out1 (Err (Halted cause)) = (cause ≡ LongInput) × LosesBytes in0 in1 (λ n. n ≡ line_limit + 1) × Keeps out0 out1
  LineIsAnswered plan next in0 in1 out0 out1 (Err InputFailed) = LosesBytes in0 in1 (λ n. ⊤) × Keeps out0 out1
  LineIsAnswered plan next in0 in1 out0 out1 (Err WriteFailed) = (line text : Text) × TookLine in0 in1 line × (after : Plan) × behavior.Answers plan line text after × AppendsPrefix out0 out1 text
  LineIsAnswered plan next in0 in1 out0 out1 (Err OutOfMemory) = (LosesBytes in0 in1 (λ n. ⊤) ⊎ ((line : Text) × TookLine in0 in1 line)) × Keeps out0 out1
  LineIsAnswered plan next in0 in1 out0 out1 (Err (ShelfFailed name)) = ⊥

  -- The answer to a line was written whole; or a write failed after a prefix; or memory ran out before anything was
  -- written.
  abbrev pub AnswerIsWritten : Plan → Plan → Text → Option Text → Option Text → Result (Unit {0}) Stop → Type 0
  AnswerIsWritten plan next line out0 out1 (Ok _) = (text : Text) × behavior.Answers plan line text next × Appends out0 out1 text
  AnswerIsWritten plan next line out0 out1 (Err WriteFailed) = (text : Text) × behavior.Answers plan line text next × AppendsPrefix out0 out1 text
  AnswerIsWritten plan next line out0 out1 (Err OutOfMemory) = Keeps out0 out1
  AnswerIsWritten plan next line out0 out1 (Err _) = ⊥
