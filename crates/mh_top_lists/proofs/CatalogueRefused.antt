-- If the table has no catalogue, the modes that need one end with its refusal, or for lack of memory.
use Rattle.std.proofs.Common.{◌≡◌, ℕ, [], Option, Some, refl, sym, ap, subst, inl}
use Rattle.std.proofs.KnownBytes.{Appends-nil}
use Rattle.std.specs.Prelude.{Err}
use Rattle.mh_grammar.specs.Text.{Text}
use Rattle.mh_tables_core.specs.Table.{TableData}
use Rattle.mh_tables_core.specs.Failing.{TooLongAt}
use Rattle.mh_catalogue.specs.declared.rows.CatalogueFault.{CatalogueFault}
use Rattle.mh_catalogue.specs.declared.rows.CatalogueFault.TheVariants as faults
use Rattle.mh_msgfile.specs.declared.loose.LooseFile.{LooseFile}
use Rattle.mh_lint_messages.specs.declared.errors.ErrorsFault.{ErrorsFault}
use Rattle.mh_lint_messages.specs.declared.errors.ErrorsFault.TheVariants as examining
use Rattle.mh_msgfile.specs.declared.blocks.LooseBlocks.{LooseBlocks}
use Rattle.mh_rebase.specs.declared.rebasing.RebaseFault.{RebaseFault}
use Rattle.mh_rebase.specs.declared.rebasing.RebaseFault.TheVariants as rebasing
use Rattle.mh_top_drive.specs.code.StageCalls.{StopsWith}
use Rattle.mh_top_drive.specs.code.ModeCalls.{EndIsWritten, OutCounts}
use Rattle.mh_top_drive.specs.ModeBehavior.{ModeEnd}
use Rattle.mh_top_drive.specs.declared.stop.Cause.TheVariants.{Refused}
use Rattle.mh_top_drive.specs.declared.stop.Stop.{Stop}
use Rattle.mh_top_drive.specs.declared.stop.Stop.TheVariants.{Halted, ShelfFailed, InputFailed, WriteFailed, OutOfMemory}
use Rattle.mh_top_drive.specs.Shapes.{Prepared}
use Rattle.mh_top_plans.specs.Listing.{too_long}
use Rattle.mh_top_plans.specs.Listing as lists
use Rattle.mh_top_plans.specs.Plan.{IsFinalOutput, Checked, Errors, Rebased, Sampled}
use Rattle.mh_top_plans.specs.ErrorsChecked as checks
use Rattle.mh_top_plans.specs.Rebased as rebases
use Rattle.mh_top_plans.specs.Sampled as samples
use Rattle.mh_top_lists.specs.code.CatalogueFaultStops.{IsStopForCatalogueFault, IsStopForErrorsFault, IsStopForRebaseFault}

-- A mode with the possible ends `Is`, one of which is the refusal for a sentence that is too long.
module _ (t : TableData) (Is : ModeEnd → Type 0) (refuses : (s : ℕ) → TooLongAt t s → (e : ModeEnd) → e.cause ≡ Some (Refused (too_long s)) → e.out ≡ [] → Is e) (out : Option Text) where
  refused : (s : ℕ) → TooLongAt t s → (stop : Stop) → StopsWith (Refused (too_long s)) stop → EndIsWritten Is out out (Err stop)
  refused s is (Halted cause) same = let e : ModeEnd = record { cause = Some cause; out = [] } in (e, refuses s is e (ap Some same) refl, refl, Appends-nil out)
  refused s is OutOfMemory same = inl refl
  refused s is (ShelfFailed name) same = absurd same
  refused s is InputFailed same = absurd same
  refused s is WriteFailed same = absurd same

  stops : (fault : CatalogueFault) (stop : Stop) → IsStopForCatalogueFault fault stop → ((s : ℕ) → fault ≡ faults.TooLong s → TooLongAt t s) → EndIsWritten Is out out (Err stop)
  stops (faults.TooLong s) stop is long = refused s (long s refl) stop is
  stops faults.Memory stop is long = subst (λ (x : Stop). EndIsWritten Is out out (Err x)) (sym is) (inl refl)

module _ (p : Prepared) (out : Option Text) (fault : CatalogueFault) (stop : Stop) (is : IsStopForCatalogueFault fault stop) (long : (s : ℕ) → fault ≡ faults.TooLong s → TooLongAt p.tabled.halting s) where
  pub list_stops : EndIsWritten (IsFinalOutput (Errors p)) out out (Err stop)
  list_stops = stops p.tabled.halting (IsFinalOutput (Errors p)) (λ s at e cause none. lists.ListsErrors.TooLong s at cause none) out fault stop is long

  pub sample_stops : (number : ℕ) → EndIsWritten (IsFinalOutput (Sampled number p)) out out (Err stop)
  sample_stops number = stops p.tabled.halting (IsFinalOutput (Sampled number p)) (λ s at e cause none. samples.CountsSample.TooLong s at cause none) out fault stop is long

module _ (p : Prepared) (file : LooseFile) (out : Option Text) where
  pub rebase_stops : (fault : RebaseFault) (stop : Stop) → IsStopForRebaseFault fault stop → ((s : ℕ) → fault ≡ rebasing.TooLong s → TooLongAt p.tabled.halting s) → EndIsWritten (IsFinalOutput (Rebased file p)) out out (Err stop)
  rebase_stops (rebasing.TooLong s) stop is long = refused p.tabled.halting (IsFinalOutput (Rebased file p)) (λ r at e cause none. rebases.RebasesFile.TooLong r at cause none) out s (long s refl) stop is
  rebase_stops rebasing.Memory stop is long = subst (λ (x : Stop). EndIsWritten (IsFinalOutput (Rebased file p)) out out (Err x)) (sym is) (inl refl)

module _ (p : Prepared) (name : Text) (blocks : LooseBlocks) (out : Option Text) where
  pub errors_stop : (fault : ErrorsFault) (stop : Stop) → IsStopForErrorsFault fault stop → ((s : ℕ) → fault ≡ examining.TooLong s → TooLongAt p.tabled.halting s) → EndIsWritten (IsFinalOutput (Checked name blocks p)) out out (Err stop)
  errors_stop (examining.TooLong s) stop is long = refused p.tabled.halting (IsFinalOutput (Checked name blocks p)) (λ r at e cause none. checks.ChecksErrors.TooLong r at cause none) out s (long s refl) stop is
  errors_stop examining.Memory stop is long = subst (λ (x : Stop). EndIsWritten (IsFinalOutput (Checked name blocks p)) out out (Err x)) (sym is) (inl refl)

-- ---- The count of faults of out stays as it was.

OutCounts-refusal : (n s : ℕ) (stop : Stop) → StopsWith (Refused (too_long s)) stop → OutCounts {T = Unit {0}} n n (Err stop)
OutCounts-refusal n s (Halted cause) is = refl
OutCounts-refusal n s OutOfMemory is = refl
OutCounts-refusal n s (ShelfFailed name) is = absurd is
OutCounts-refusal n s InputFailed is = absurd is
OutCounts-refusal n s WriteFailed is = absurd is

pub OutCounts-catalogue_fault : (n : ℕ) (fault : CatalogueFault) (stop : Stop) → IsStopForCatalogueFault fault stop → OutCounts {T = Unit {0}} n n (Err stop)
OutCounts-catalogue_fault n (faults.TooLong s) stop is = OutCounts-refusal n s stop is
OutCounts-catalogue_fault n faults.Memory stop is = subst (λ (x : Stop). OutCounts {T = Unit {0}} n n (Err x)) (sym is) refl

pub OutCounts-rebase_fault : (n : ℕ) (fault : RebaseFault) (stop : Stop) → IsStopForRebaseFault fault stop → OutCounts {T = Unit {0}} n n (Err stop)
OutCounts-rebase_fault n (rebasing.TooLong s) stop is = OutCounts-refusal n s stop is
OutCounts-rebase_fault n rebasing.Memory stop is = subst (λ (x : Stop). OutCounts {T = Unit {0}} n n (Err x)) (sym is) refl

pub OutCounts-errors_fault : (n : ℕ) (fault : ErrorsFault) (stop : Stop) → IsStopForErrorsFault fault stop → OutCounts {T = Unit {0}} n n (Err stop)
OutCounts-errors_fault n (examining.TooLong s) stop is = OutCounts-refusal n s stop is
OutCounts-errors_fault n examining.Memory stop is = subst (λ (x : Stop). OutCounts {T = Unit {0}} n n (Err x)) (sym is) refl
