-- Lemmas on the contracts of writing the last line on err.
use Rattle.std.proofs.Common.{◌≡◌, inl, inr, ℕ, ◌++◌, Option, refl, sym, ◌∙◌, ap, subst, append_assoc}
use Rattle.std.specs.Prelude.{Ok, Err, Result}
use Rattle.std.specs.Io.KnownBytes.{Appends}
use Rattle.mh_outside.specs.Sink.{AppendsPrefix, WritesWhole}
use Rattle.mh_outside.specs.declared.sink.WriteFault.{WriteFault}
use Rattle.mh_outside.proofs.Consumes.{Appends-append}
use Rattle.mh_grammar.specs.Text.{Text}
use Rattle.mh_top_drive.specs.Statuses.{status_of_cause, line_of_cause}
use Rattle.mh_top_prepare.specs.code.LastLine.{IsLastLine, ReportsStop, Said, Silent, Failed, WritesLastLine}
use Rattle.mh_top_drive.specs.declared.stop.Cause.{Cause}
use Rattle.mh_top_drive.specs.declared.stop.Stop.{Stop}
use Rattle.mh_top_drive.specs.declared.stop.Stop.TheVariants.{WriteFailed}

pub reported : (stop stop' : Stop) (status : ℕ) (line given : Text) (err0 err1 : Option Text) (n m result : ℕ) → stop ≡ stop' → IsLastLine stop' status line → given ≡ line → WritesLastLine status given err0 err1 n m result → ReportsStop stop err0 err1 n m result
reported stop stop' status line given err0 err1 n m result is last same (inl h) =
    Said line (subst (λ (s : Stop). IsLastLine s result line) (sym is) (subst (λ (k : ℕ). IsLastLine stop' k line) (sym h.0) last)) (subst (λ (t : Text). Appends err0 err1 t) same h.1) h.2
reported stop stop' status line given err0 err1 n m result is last same (inr h) =
    Failed line status (subst (λ (s : Stop). IsLastLine s status line) (sym is) last) h.0 (subst (λ (t : Text). AppendsPrefix err0 err1 t) same h.1) h.2

-- The line for a cause, written by an equal cause.
pub cause_reported : (cause cause' : Cause) (given : Text) (err0 err1 : Option Text) (n m status result : ℕ) → cause ≡ cause' → status ≡ status_of_cause cause → given ≡ line_of_cause cause' → WritesLastLine status given err0 err1 n m result → WritesLastLine (status_of_cause cause) (line_of_cause cause) err0 err1 n m result
cause_reported cause cause' given err0 err1 n m status result is code line says =
    subst (λ (k : ℕ). WritesLastLine k (line_of_cause cause) err0 err1 n m result) code (subst (λ (t : Text). WritesLastLine status t err0 err1 n m result) (line ∙ ap line_of_cause (sym is)) says)

-- Nothing is written after a failed write.
pub write_failure_reported : (stop : Stop) (err : Option Text) (n : ℕ) → stop ≡ WriteFailed → ReportsStop stop err err n n 4
write_failure_reported stop err n is = Silent is refl refl refl

-- A whole text and then a prefix of a line are a prefix of both together.
pub AppendsPrefix-after : (a b c : Option Text) (front line : Text) → Appends a b front → AppendsPrefix b c line → AppendsPrefix a c (front ++ line)
AppendsPrefix-after a b c front line p q = (front ++ q.0, Appends-append a b c front q.0 p q.1, (q.2.0, ap (λ (l : Text). front ++ l) q.2.1 ∙ sym (append_assoc front q.0 q.2.0)))

-- The first part was written; then both were written if the second was, and else a prefix of both.
pub both_written : (a b c : Option Text) (first second : Text) (r : Result (Unit {0}) WriteFault) → Appends a b first → WritesWhole b c second r → WritesWhole a c (first ++ second) r
both_written a b c first second (Ok u) p q = Appends-append a b c first second p q
both_written a b c first second (Err fault) p q = AppendsPrefix-after a b c first second p q

pub first_cut : (a b : Option Text) (first second : Text) → AppendsPrefix a b first → AppendsPrefix a b (first ++ second)
first_cut a b first second p = (p.0, p.1, (p.2.0 ++ second, ap (λ (t : Text). t ++ second) p.2.1 ∙ append_assoc p.0 p.2.0 second))
