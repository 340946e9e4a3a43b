-- Writing the line of counts is the end of the mode that counts a sample.
use Rattle.std.proofs.Common.{◌≡◌, ℕ, List, length, Option, None, refl, subst, inl}
use Rattle.std.specs.Prelude.{Result, Ok, Err}
use Rattle.mh_grammar.specs.Text.{Text}
use Rattle.mh_tables_core.specs.Failing.{CatalogueRow, Catalogue, TooLongAt}
use Rattle.mh_sample.specs.Counts.{IsSampleLine}
use Rattle.mh_top_drive.specs.code.ModeCalls.{EndIsWritten}
use Rattle.mh_top_drive.specs.declared.stop.Stop.{Stop}
use Rattle.mh_top_drive.specs.declared.stop.Stop.TheVariants.{Halted, ShelfFailed, InputFailed, WriteFailed, OutOfMemory}
use Rattle.mh_top_drive.specs.Shapes.{Prepared}
use Rattle.mh_top_plans.specs.Plan.{IsFinalOutput, Sampled}
use Rattle.mh_top_plans.specs.Sampled.{Counts}
use Rattle.mh_top_lists.specs.code.Entries.{WritesWholeText}

module _ (p : Prepared) (number : ℕ) (none : (s : ℕ) → TooLongAt p.tabled.halting s → ⊥) (rows : List CatalogueRow) (is : Catalogue p.tabled.halting rows) (listed : ℕ) (all : listed ≡ length rows) (out0 out1 : Option Text) where
  counts_of : (text : Text) → IsSampleLine p.grammar p.tabled.halting number listed text → IsFinalOutput (Sampled number p) (record { cause = None; out = text })
  counts_of text line = Counts none refl (record { rows = rows; catalogue = is; line = subst (λ (n : ℕ). IsSampleLine p.grammar p.tabled.halting number n text) all line })

  pub counts_ran : (r : Result (Unit {0}) Stop) → WritesWholeText (IsSampleLine p.grammar p.tabled.halting number listed) out0 out1 r → EndIsWritten (IsFinalOutput (Sampled number p)) out0 out1 r
  counts_ran (Ok u) ran = (record { cause = None; out = ran.0 }, counts_of ran.0 ran.1, refl, ran.2)
  counts_ran (Err WriteFailed) ran = (record { cause = None; out = ran.0 }, counts_of ran.0 ran.1, ran.2)
  counts_ran (Err OutOfMemory) ran = inl ran
  counts_ran (Err (Halted cause)) ran = absurd ran
  counts_ran (Err (ShelfFailed name)) ran = absurd ran
  counts_ran (Err InputFailed) ran = absurd ran
