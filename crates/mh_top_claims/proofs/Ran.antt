-- A run of the program, from the work before its last line and the writing of this line.
use Rattle.std.proofs.Common.{◌≡◌, inl, inr, ℕ, List, [], ◌++◌, Option, sym, ◌∙◌, ap, subst}
use Rattle.std.proofs.lemmas.List.{append-nil}
use Rattle.std.specs.Prelude.{Ok, Err}
use Rattle.std.specs.Io.KnownBytes.{Appends}
use Rattle.mh_outside.specs.Faults.{HasRisen}
use Rattle.mh_outside.specs.Sink.{AppendsPrefix}
use Rattle.mh_outside.proofs.Consumes.{Appends-append}
use Rattle.mh_grammar.specs.Text.{Text}
use Rattle.mh_top_drive.specs.Text.{cannot_read, cannot_read_input, out_of_memory}
use Rattle.mh_top_drive.specs.Statuses.{line_of_cause, last_line_of, status_of}
use Rattle.mh_top_claims.specs.Work.{Work}
use Rattle.mh_top_prepare.specs.Warnings.{warnings_of}
use Rattle.mh_top_claims.specs.Run.{World, Ran, Finished, CannotReadFile, CannotReadInput, CannotWarn, CannotWrite, CannotSay, NoMemory, AfterWarnings, AppendsThenPrefix, DoneSoFar, Nothing, Warned, Begun, OfCause, OfFile, OfInput, OfMemory, KeepsFaultCounts}
use Rattle.mh_top_prepare.specs.code.LastLine.{IsLastLine, ReportsStop, Said, Silent, Failed}
use Rattle.mh_top_claims.specs.code.WorkBeforeLastLine.{IsWorkBeforeLastLine}
use Rattle.mh_top_drive.specs.declared.stop.Cause.{Cause}
use Rattle.mh_top_drive.specs.declared.stop.Stop.{Stop}
use Rattle.mh_top_drive.specs.declared.stop.Stop.TheVariants.{Halted, ShelfFailed, InputFailed, WriteFailed, OutOfMemory}

rose_later : (a b c : ℕ) → b ≡ a → HasRisen b c → HasRisen a c
rose_later a b c is rose = subst (λ (x : ℕ). HasRisen x c) is rose

AfterWarnings-weaker : (words : List Text) (b : World) (At : Work → Type 0) (P Q : Text → Type 0) → ((front : Text) → P front → Q front) → AfterWarnings words b At P → AfterWarnings words b At Q
AfterWarnings-weaker words b At P Q on h = record { work = h.work; is_asked = h.is_asked; at = h.at; on_err = on h.work.warnings h.on_err }

module _ (words : List Text) (b m : World) (err : Option Text) (n result : ℕ) where
  abbrev a : World
  a = record m { err = err; err_faults = n }

  done_on : (P Q : Text → Type 0) → ((front : Text) → P front → Q front) → DoneSoFar words b m P → DoneSoFar words b a Q
  done_on P Q on (Nothing still at) = Nothing (record { out = still.out; left = still.left; input_faults = still.input_faults; out_faults = still.out_faults }) (on [] at)
  done_on P Q on (Warned needs p is still at) = Warned needs p is (record { out = still.out; left = still.left; input_faults = still.input_faults; out_faults = still.out_faults }) (on _ at)
  done_on P Q on (Begun h) = Begun (AfterWarnings-weaker words b _ P Q on h)

  lined : (line : Text) → Appends m.err err line → (front : Text) → Appends b.err m.err front → Appends b.err err (front ++ line)
  lined line app front on = Appends-append b.err m.err err front line on app

  cut : (line : Text) → AppendsPrefix m.err err line → (front : Text) → Appends b.err m.err front → AppendsThenPrefix b.err err front line
  cut line app front on = (app.0, Appends-append b.err m.err err front app.0 on app.1, app.2)

  fault_counts_kept : n ≡ m.err_faults → KeepsFaultCounts b m → KeepsFaultCounts b a
  fault_counts_kept calm quiet = record { shelf = quiet.shelf; input = quiet.input; out = quiet.out; err = calm ∙ quiet.err }

  pub done : IsWorkBeforeLastLine words b m (Ok tt) → result ≡ 0 → err ≡ m.err → n ≡ m.err_faults → Ran words b a result
  done worked is same calm = Finished (fault_counts_kept calm worked.0) (record {
    work = worked.1.work;
    is_asked = worked.1.is_asked;
    outcome = worked.1.at.outcome;
    yields = worked.1.at.yields;
    status_is = is ∙ ap status_of (sym worked.1.at.cause_is);
    on_out = worked.1.at.on_out;
    on_err = subst (λ (t : Text). Appends b.err err t) (sym (append-nil worked.1.work.warnings) ∙ ap (λ c. worked.1.work.warnings ++ last_line_of c) (sym worked.1.at.cause_is)) (subst (λ x. Appends b.err x worked.1.work.warnings) (sym same) worked.1.on_err);
    left_is = worked.1.at.left_is;
  })

  halted : (cause : Cause) (line : Text) → IsWorkBeforeLastLine words b m (Err (Halted cause)) → IsLastLine (Halted cause) result line → Appends m.err err line → n ≡ m.err_faults → Ran words b a result
  halted cause line worked last app calm = Finished (fault_counts_kept calm worked.0) (record {
    work = worked.1.work;
    is_asked = worked.1.is_asked;
    outcome = worked.1.at.outcome;
    yields = worked.1.at.yields;
    status_is = last.0 ∙ ap status_of (sym worked.1.at.cause_is);
    on_out = worked.1.at.on_out;
    on_err = subst (λ (t : Text). Appends b.err err t) (ap (λ (l : Text). worked.1.work.warnings ++ l) last.1 ∙ ap (λ c. worked.1.work.warnings ++ last_line_of c) (sym worked.1.at.cause_is)) (lined line app worked.1.work.warnings worked.1.on_err);
    left_is = worked.1.at.left_is;
  })

  pub ran : (stop : Stop) → IsWorkBeforeLastLine words b m (Err stop) → ReportsStop stop m.err err m.err_faults n result → Ran words b a result
  ran (Halted cause) worked (Said line last app calm) = halted cause line worked last app calm
  ran (Halted cause) worked (Silent is four same calm) = absurd (cc)
  ran (Halted cause) worked (Failed line k last four app rose) =
      CannotSay four worked.0.out (rose_later b.err_faults m.err_faults n worked.0.err rose) (OfCause cause (AfterWarnings-weaker words b _ _ _ (cut (line_of_cause cause) (subst (λ (t : Text). AppendsPrefix m.err err t) last.1 app)) worked.1))
  ran (ShelfFailed name) worked (Said line last app calm) =
      CannotReadFile last.0 worked.0 (record { out = worked.1.out; err = calm ∙ worked.1.err }) worked.2.0 name worked.2.1 (record { out = worked.2.2.out; left = worked.2.2.left; input_faults = worked.2.2.input_faults; out_faults = worked.2.2.out_faults })
      (lined (cannot_read name) (subst (λ (t : Text). Appends m.err err t) last.1 app) worked.2.0 worked.2.3)
  ran (ShelfFailed name) worked (Silent is four same calm) = absurd (cc)
  ran (ShelfFailed name) worked (Failed line k last four app rose) =
      CannotSay four worked.1.out (rose_later b.err_faults m.err_faults n worked.1.err rose) (OfFile worked.2.0 name worked.2.1 (record { out = worked.2.2.out; left = worked.2.2.left; input_faults = worked.2.2.input_faults; out_faults = worked.2.2.out_faults })
      (cut (cannot_read name) (subst (λ (t : Text). AppendsPrefix m.err err t) last.1 app) worked.2.0 worked.2.3))
  ran InputFailed worked (Said line last app calm) =
      CannotReadInput last.0 worked.0 (record { out = worked.1.out; err = calm ∙ worked.1.err }) (AfterWarnings-weaker words b _ _ _ (lined cannot_read_input (subst (λ (t : Text). Appends m.err err t) last.1 app)) worked.2)
  ran InputFailed worked (Silent is four same calm) = absurd (cc)
  ran InputFailed worked (Failed line k last four app rose) =
      CannotSay four worked.1.out (rose_later b.err_faults m.err_faults n worked.1.err rose) (OfInput (AfterWarnings-weaker words b _ _ _ (cut cannot_read_input (subst (λ (t : Text). AppendsPrefix m.err err t) last.1 app)) worked.2))
  ran WriteFailed worked (Said line last app calm) = absurd last
  ran WriteFailed (inl h) (Silent is four same calm) = CannotWarn four (subst (λ (k : ℕ). HasRisen b.err_faults k) (sym calm) h.0) (record {
    needs = h.1.needs;
    prepared = h.1.prepared;
    is_asked = h.1.is_asked;
    unchanged = record { out = h.1.unchanged.out; left = h.1.unchanged.left; input_faults = h.1.unchanged.input_faults; out_faults = h.1.unchanged.out_faults };
    on_err = subst (λ x. AppendsPrefix b.err x (warnings_of h.1.prepared)) (sym same) h.1.on_err;
  })
  ran WriteFailed (inr h) (Silent is four same calm) = CannotWrite four h.0 h.1 (calm ∙ h.2) (AfterWarnings-weaker words b _ _ _ (λ front on. subst (λ x. Appends b.err x front) (sym same) on) h.3)
  ran WriteFailed worked (Failed line k last four app rose) = absurd last
  ran OutOfMemory worked (Said line last app calm) = NoMemory last.0 (record { out = worked.0.out; err = calm ∙ worked.0.err }) worked.1 (done_on _ _ (lined out_of_memory (subst (λ (t : Text). Appends m.err err t) last.1 app)) worked.2)
  ran OutOfMemory worked (Silent is four same calm) = absurd (cc)
  ran OutOfMemory worked (Failed line k last four app rose) =
      CannotSay four worked.0.out (rose_later b.err_faults m.err_faults n worked.0.err rose) (OfMemory (done_on _ _ (cut out_of_memory (subst (λ (t : Text). AppendsPrefix m.err err t) last.1 app)) worked.2))
