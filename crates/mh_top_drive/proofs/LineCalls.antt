-- Lemmas on the contracts of the calls that read one line and write its answer.
use Rattle.std.proofs.Common.{◌≡◌, inl, inr, ◌<◌, ◌≤◌, ℕ, true, false, [], Option, None, Some, refl, sym, subst, Vec}
use Rattle.std.proofs.KnownBytes.{Appends-nil}
use Rattle.std.specs.Prelude.{Ok, Err, Result}
use Rattle.std.specs.declared.alloc.Global.{Global}
use Rattle.std.specs.Io.KnownBytes.{Appends, Keeps}
use Rattle.mh_outside.specs.Lines.{FindsLine, LosesBytes, ReadsLine}
use Rattle.mh_outside.specs.Sink.{AppendsPrefix}
use Rattle.mh_outside.specs.declared.lines.LineFault.{LineFault}
use Rattle.mh_outside.specs.declared.lines.LineFault.TheVariants as faults
use Rattle.mh_grammar.specs.Text.{Text}
use Rattle.mh_top_drive.specs.ModeBehavior.{ModeEnd, ModeBehavior}
use Rattle.mh_top_drive.specs.Limits.{line_limit}
use Rattle.mh_top_drive.specs.code.ModeCalls.{AnswerIsWritten, EndIsWritten, IsAfterFirstLine, LineIsAnswered, NextLineIsRead, NoLineIsLeft, IsStopForLineFault, TookLine, TextIsWritten}
use Rattle.mh_top_drive.specs.declared.stop.Stop.{Stop}
use Rattle.mh_top_drive.specs.declared.stop.Stop.TheVariants.{Halted, ShelfFailed, InputFailed, WriteFailed, OutOfMemory}

next_so : (old new : Option Text) (v : Vec ℕ Global) → FindsLine line_limit old new (Ok (Some v)) → IsAfterFirstLine old new
next_so None new v finds = tt
next_so (Some bytes) new v finds = finds.1

pub took_line : (old new : Option Text) (v : Vec ℕ Global) → ReadsLine line_limit old new (Ok (Some v)) → FindsLine line_limit old new (Ok (Some v)) → TookLine old new v.items
took_line old new v reads finds = (reads.0, reads.1, reads.2, next_so old new v finds)

Keeps-same : (out : Option Text) → Keeps out out
Keeps-same None = tt
Keeps-same (Some out) = refl

loses_some : (in1 in2 : Option Text) (Size : ℕ → Type 0) → LosesBytes in1 in2 Size → LosesBytes in1 in2 (λ n. Unit {0})
loses_some in1 in2 Size loses = (loses.0, loses.1, loses.2, tt)

pub next_fault : (in0 in1 : Option Text) (fault : LineFault) (stop : Stop) → IsStopForLineFault fault stop → ReadsLine line_limit in0 in1 (Err fault) → NextLineIsRead in0 in1 (Err stop)
next_fault in0 in1 faults.Failed stop is reads = subst (λ (s : Stop). NextLineIsRead in0 in1 (Err s)) (sym is) (loses_some in0 in1 (λ n. n ≤ line_limit) reads)
next_fault in0 in1 faults.TooBig stop is reads = subst (λ (s : Stop). NextLineIsRead in0 in1 (Err s)) (sym is) (refl, reads)
next_fault in0 in1 faults.Memory stop is reads = subst (λ (s : Stop). NextLineIsRead in0 in1 (Err s)) (sym is) (loses_some in0 in1 (λ n. (0 < n) × (n ≤ line_limit)) reads)

pub next_taken : (in0 in1 : Option Text) (line : Option (Vec ℕ Global)) → ReadsLine line_limit in0 in1 (Ok line) → FindsLine line_limit in0 in1 (Ok line) → NextLineIsRead in0 in1 (Ok line)
next_taken in0 in1 None reads finds = reads
next_taken in0 in1 (Some v) reads finds = took_line in0 in1 v reads finds

pub past_fault : (in0 in1 : Option Text) (fault : LineFault) (stop : Stop) → IsStopForLineFault fault stop → ReadsLine 0 in0 in1 (Err fault) → NoLineIsLeft in0 in1 (Err stop)
past_fault in0 in1 faults.Failed stop is reads = subst (λ (s : Stop). NoLineIsLeft in0 in1 (Err s)) (sym is) (loses_some in0 in1 (λ n. n ≤ 0) reads)
past_fault in0 in1 faults.TooBig stop is reads = subst (λ (s : Stop). NoLineIsLeft in0 in1 (Err s)) (sym is) (refl, inl reads)
past_fault in0 in1 faults.Memory stop is reads = subst (λ (s : Stop). NoLineIsLeft in0 in1 (Err s)) (sym is) (loses_some in0 in1 (λ n. (0 < n) × (n ≤ 0)) reads)

-- ---- The end of a mode, written in one piece.

pub text_ran : (Is : ModeEnd → Type 0) (text given : Text) (out0 out1 : Option Text) (r : Result (Unit {0}) Stop) → Is (record { cause = None; out = text }) → given ≡ text → TextIsWritten given out0 out1 r → EndIsWritten Is out0 out1 r
text_ran Is text given out0 out1 (Ok u) is same wrote = (_, is, refl, subst (Appends out0 out1) same wrote)
text_ran Is text given out0 out1 (Err WriteFailed) is same wrote = (_, is, subst (AppendsPrefix out0 out1) same wrote)
text_ran Is text given out0 out1 (Err (Halted cause)) is same wrote = absurd wrote
text_ran Is text given out0 out1 (Err (ShelfFailed name)) is same wrote = absurd wrote
text_ran Is text given out0 out1 (Err InputFailed) is same wrote = absurd wrote
text_ran Is text given out0 out1 (Err OutOfMemory) is same wrote = absurd wrote

-- ---- One line, for any behavior of a mode.

module _ {Plan : Type 0} (behavior : ModeBehavior Plan) where
  pub answer_ran : (plan next : Plan) (line text given : Text) (out0 out1 : Option Text) (r : Result (Unit {0}) Stop) → given ≡ text → behavior.Answers plan line text next → TextIsWritten given out0 out1 r → AnswerIsWritten behavior plan next line out0 out1 r
  answer_ran plan next line text given out0 out1 (Ok u) same is wrote = (text, is, subst (Appends out0 out1) same wrote)
  answer_ran plan next line text given out0 out1 (Err WriteFailed) same is wrote = (text, is, subst (AppendsPrefix out0 out1) same wrote)
  answer_ran plan next line text given out0 out1 (Err (Halted cause)) same is wrote = absurd wrote
  answer_ran plan next line text given out0 out1 (Err (ShelfFailed name)) same is wrote = absurd wrote
  answer_ran plan next line text given out0 out1 (Err InputFailed) same is wrote = absurd wrote
  answer_ran plan next line text given out0 out1 (Err OutOfMemory) same is wrote = absurd wrote

  pub line_none : (plan : Plan) (in0 in1 out : Option Text) → NextLineIsRead in0 in1 (Ok None) → LineIsAnswered behavior plan plan in0 in1 out out (Ok false)
  line_none plan in0 in1 out ran = (ran.0, ran.1, refl, Keeps-same out)

  pub line_stop : (plan : Plan) (in0 in1 out : Option Text) (stop : Stop) → NextLineIsRead in0 in1 (Err stop) → LineIsAnswered behavior plan plan in0 in1 out out (Err stop)
  line_stop plan in0 in1 out (Halted cause) ran = (ran.0, ran.1, Keeps-same out)
  line_stop plan in0 in1 out InputFailed ran = (ran, Keeps-same out)
  line_stop plan in0 in1 out OutOfMemory ran = (inl ran, Keeps-same out)
  line_stop plan in0 in1 out (ShelfFailed name) ran = absurd ran
  line_stop plan in0 in1 out WriteFailed ran = absurd ran

  module _ (plan next : Plan) (in0 in1 out0 out1 : Option Text) (line given : Text) (same : given ≡ line) (took : TookLine in0 in1 line) where
    pub line_ok : AnswerIsWritten behavior plan next given out0 out1 (Ok tt) → LineIsAnswered behavior plan next in0 in1 out0 out1 (Ok true)
    line_ok ran = (line, ran.0, took, subst (λ (l : Text). behavior.Answers plan l ran.0 next) same ran.1, ran.2)

    pub line_err : (stop : Stop) → AnswerIsWritten behavior plan next given out0 out1 (Err stop) → LineIsAnswered behavior plan next in0 in1 out0 out1 (Err stop)
    line_err WriteFailed ran = (line, ran.0, took, next, subst (λ (l : Text). behavior.Answers plan l ran.0 next) same ran.1, ran.2)
    line_err OutOfMemory ran = (inr (line, took), ran)
    line_err (Halted cause) ran = absurd ran
    line_err (ShelfFailed name) ran = absurd ran
    line_err InputFailed ran = absurd ran

  -- A mode whose end is empty has ended with nothing written.
  pub nothing_ends : (mode plan : Plan) (out : Option Text) → behavior.EndsWith mode (record { cause = None; out = [] }) → plan ≡ mode → EndIsWritten (behavior.EndsWith plan) out out (Ok tt)
  nothing_ends mode plan out ends is = (record { cause = None; out = [] }, subst (λ (l : Plan). behavior.EndsWith l (record { cause = None; out = [] })) (sym is) ends, refl, Appends-nil out)
