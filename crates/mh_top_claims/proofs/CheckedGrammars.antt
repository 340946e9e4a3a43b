-- Proves the claim on examined grammar files from the definition of a run.
use Rattle.std.proofs.Common.{◌≡◌, ◌⊎◌, ◌↔◌, inl, inr, ℕ, Bool, true, false, List, [], ◌∷◌, ◌++◌, map, None, Some, refl, sym, ◌∙◌, ap, subst}
use Rattle.std.specs.Prelude.{if◌then◌else◌}
use Rattle.std.specs.Io.KnownBytes.{Appends}
use Rattle.mh_grammar.proofs.Lists.{nil_parts}
use Rattle.mh_grammar.specs.Text.{Text}
use Rattle.mh_join_names.specs.Faults.{first}
use Rattle.mh_lint.proofs.NoWarnings.{no_lines_exactly}
use Rattle.mh_lint.specs.NoWarnings.{HasNoWarning}
use Rattle.mh_lint_faults.proofs.FaultLinesUnique.{accepted_faultless, accepted_once}
use Rattle.mh_lint_faults.proofs.JoinFaultsHaveLines.{no_join_fault}
use Rattle.mh_lint_faults.specs.FaultLines.{AreFaultLines}
use Rattle.mh_lint_faults.specs.FaultLines as faults
use Rattle.mh_lint_faults.specs.Stages.{Stages}
use Rattle.mh_lint_findings.specs.Lines.{Line, line_text, lines_text}
use Rattle.mh_lint_findings.specs.Positions.{position_text}
use Rattle.mh_lint_findings.specs.declared.findings.GrammarFile.{GrammarFile}
use Rattle.mh_opts.specs.declared.order.Order.{Order}
use Rattle.mh_outside.specs.Shelf.{Files}
use Rattle.mh_top_check.specs.Examination.{AreExamined, Examined, IsExamination, built_of, faulty, meanings_of, plan_of_check, refused, warned}
use Rattle.mh_top_claims.specs.CheckedGrammars.{AsksForCheckedGrammar, ChecksGrammarExactly, IsCheckedGrammarOutcome, IsClean}
use Rattle.mh_top_claims.specs.Run.{World, DoesWork}
use Rattle.mh_top_claims.specs.Run as runs
use Rattle.mh_top_claims.specs.Work.{Examining, IsCheckWork, IsWork, WithTable, Work}
use Rattle.mh_top_claims.proofs.Claims.{does_work_without_fault}
use Rattle.mh_top_claims.proofs.ExaminedUnique.{examined_once, prepared_same}
use Rattle.mh_top_claims.proofs.FinalOutputOutcome.{yields_end}
use Rattle.mh_top_drive.specs.ModeBehavior.{HasOutcome}
use Rattle.mh_top_drive.specs.StageResults.{AfterStage, Gives, Go, Halt, StageResult, Then}
use Rattle.mh_top_drive.specs.Statuses.{last_line_of, status_of}
use Rattle.mh_top_drive.specs.declared.stop.Cause.TheVariants.{Refused}
use Rattle.mh_top_plans.specs.GrammarChecked.{WritesFindings, cause_of_findings}
use Rattle.mh_top_plans.specs.Plan.{Ends, Findings, Plan, plan_behavior}
use Rattle.mh_top_drive.specs.Shapes.{Prepared}

-- A line has some text.
some_text : (found : List GrammarFile) (lines : List Line) → lines_text found lines ≡ [] → lines ≡ []
some_text found [] e = refl
some_text found (x ∷ xs) e =
    let first = (nil_parts (line_text found x) (lines_text found xs) e).0 in
    let rest = (nil_parts (position_text found x.at) (x.text ++ 10 ∷ []) first).1 in
    let never = (nil_parts x.text (10 ∷ []) rest).1 in
    absurd cc

-- Faults have lines.
some_faults : (prelude : Bool) (found : List GrammarFile) (lines : List Line) → AreFaultLines prelude found lines → lines ≡ [] → ⊥
some_faults prelude found lines (faults.AreFaultLines.syntax x xs are) e = cc
some_faults prelude found lines (faults.AreFaultLines.names placed fault read is) e =
    let none = no_join_fault prelude found placed read e in
    let never : first [] ≡ Some fault = subst (λ fs. first fs ≡ Some fault) none is in
    cc
some_faults prelude found lines (faults.AreFaultLines.instances placed joined fault at are is place) e = cc

module _ (files : Files) (order : Order) (found : List GrammarFile) where
  abbrev names : List Text
  names = map (λ (f : GrammarFile). f.name) found

  clean_if_silent : (are_faults : Bool) (lines : List Line) → IsExamination (Some files) order found (Go (are_faults, lines)) → lines ≡ [] → IsClean files order found
  clean_if_silent are_faults lines (faulty xs is) e = absurd (some_faults order.stdlib found xs is e)
  clean_if_silent are_faults lines (refused s a whole bare halt line) e = absurd cc
  clean_if_silent are_faults lines (warned s p a made xs is) e =
      record { stages = s; accepted = a; prepared = p; has_table = made; no_warning = (no_lines_exactly names s (built_of p) (meanings_of order s) xs is).0 e }

  -- The stages and the table of clean files are those of their examination.
  no_warning_of : (s t : Stages) (p q : Prepared) → s ≡ t → p ≡ q → HasNoWarning names t (built_of q) (meanings_of order t) → HasNoWarning names s (built_of p) (meanings_of order s)
  no_warning_of s t p q stages prepared clean =
      let at : HasNoWarning names s (built_of q) (meanings_of order s) = subst (λ (k : Stages). HasNoWarning names k (built_of q) (meanings_of order k)) (sym stages) clean in
      subst (λ (r : Prepared). HasNoWarning names s (built_of r) (meanings_of order s)) (sym prepared) at

  silent_if_clean : (are_faults : Bool) (lines : List Line) → IsExamination (Some files) order found (Go (are_faults, lines)) → IsClean files order found → lines ≡ []
  silent_if_clean are_faults lines (faulty xs is) clean = absurd (accepted_faultless order.stdlib found clean.stages xs clean.accepted is)
  silent_if_clean are_faults lines (refused s a whole bare halt line) clean =
      let never : Halt (Refused whole) ≡ Go clean.prepared = prepared_same files order found s clean.stages a clean.accepted (Halt (Refused whole)) (Go clean.prepared) halt clean.has_table in
      absurd cc
  silent_if_clean are_faults lines (warned s p a made xs is) clean =
      let same : Go p ≡ Go clean.prepared = prepared_same files order found s clean.stages a clean.accepted (Go p) (Go clean.prepared) made clean.has_table in
      let one : p ≡ clean.prepared = cc in
      (no_lines_exactly names s (built_of p) (meanings_of order s) xs is).1 (no_warning_of s clean.stages p clean.prepared (accepted_once order.stdlib found s clean.stages a clean.accepted) one clean.no_warning)

  silent_exactly : (are_faults : Bool) (lines : List Line) → IsExamination (Some files) order found (Go (are_faults, lines)) → (lines_text found lines ≡ []) ↔ IsClean files order found
  silent_exactly are_faults lines is = (
    λ e. clean_if_silent are_faults lines is (some_text found lines e),
    λ clean. ap (lines_text found) (silent_if_clean are_faults lines is clean),
  )

-- The examination of the files of an order is that of the files that are found.
examination_of : (files : Files) (order : Order) (x : Examined) → AreExamined (Some files) order (Go x) → IsExamination (Some files) order x.0 (Go (x.1.0, x.1.1))
examination_of files order x are = at are.0 are.2
  where
    of_result : (found : List GrammarFile) (s : StageResult (Bool × List Line)) → IsExamination (Some files) order found s → AfterStage {B = Examined} s (λ result. Gives (found, result)) (Go x) → IsExamination (Some files) order x.0 (Go (x.1.0, x.1.1))
    of_result found (Go result) is same =
        let one : x ≡ (found, result) = cc in
        subst (λ (y : Examined). IsExamination (Some files) order y.0 (Go (y.1.0, y.1.1))) (sym one) is
    of_result found (Halt cause) is same = absurd cc

    at : (s : StageResult (List GrammarFile)) → AfterStage {B = Examined} s (λ found. Then (IsExamination (Some files) order found) (λ result. Gives (found, result))) (Go x) → IsExamination (Some files) order x.0 (Go (x.1.0, x.1.1))
    at (Go found) rest = of_result found rest.0 rest.1 rest.2
    at (Halt cause) same = absurd cc

-- The cause of the end has no line on err.
no_line_if : (strict : Bool) → last_line_of (if strict then Some (Refused []) else None) ≡ []
no_line_if true = refl
no_line_if false = refl

no_last_line : (strict are_faults : Bool) (lines : List Line) → last_line_of (cause_of_findings strict are_faults lines) ≡ []
no_last_line strict true lines = refl
no_last_line strict false [] = refl
no_last_line strict false (x ∷ xs) = no_line_if strict

module _ (words : List Text) (files : Files) (order : Order) (x : Examined) (asks : AsksForCheckedGrammar words files order x) where
  abbrev plan : Plan
  plan = Ends (Findings x.0 order.strict x.1.0 x.1.1)

  check_work : (w : Work) → IsWork words (Some files) w → IsCheckWork order (Some files) w
  check_work w (WithTable needs is) = absurd (needs order asks.order_is asks.job)
  check_work w (Examining other on job is) =
      let same : Go other ≡ Go order = sym on ∙ asks.order_is in
      let one : other ≡ order = cc in
      subst (λ (o : Order). IsCheckWork o (Some files) w) one is

  plan_is : (w : Work) → IsCheckWork order (Some files) w → w.plan ≡ plan
  plan_is w is = is.plan.2 ∙ ap (plan_of_check order) (examined_once order files is.plan.0 (Go x) is.plan.1 asks.is_examined)

  module _ (b a : World) (status : ℕ) where
    done : b.files ≡ Some files → DoesWork words b a status → IsCheckedGrammarOutcome files order x b a status
    done known does =
        let work = check_work does.work (subst (λ f. IsWork words f does.work) known does.is_asked) in
        let yields : HasOutcome plan_behavior plan b.left does.outcome = subst (λ (l : Plan). HasOutcome plan_behavior l b.left does.outcome) (plan_is does.work work) does.yields in
        let end : WritesFindings x.0 order.strict x.1.0 x.1.1 does.outcome.cause does.outcome.out = yields_end (Findings x.0 order.strict x.1.0 x.1.1) b.left does.outcome yields in
        let last : last_line_of does.outcome.cause ≡ [] = ap last_line_of end.cause_is ∙ no_last_line order.strict x.1.0 x.1.1 in
        let err : Appends b.err a.err ([] ++ last_line_of does.outcome.cause) = subst (λ (t : Text). Appends b.err a.err (t ++ last_line_of does.outcome.cause)) work.warnings does.on_err in
        record {
          status_is = does.status_is ∙ ap status_of end.cause_is;
          on_out = subst (λ (t : Text). Appends b.out a.out t) end.written does.on_out;
          silent = silent_exactly files order x.0 x.1.0 x.1.1 (examination_of files order x asks.is_examined);
          on_err = subst (λ (t : Text). Appends b.err a.err t) last err;
        }

module _ (words : List Text) (b a : World) (status : ℕ) where
  pub checks_grammar_exactly : runs.Ran words b a status → ChecksGrammarExactly words b a status
  checks_grammar_exactly ran calm files known order x asks = or (does_work_without_fault words b a status ran calm)
    where
      or : (status ≡ 6) ⊎ DoesWork words b a status → (status ≡ 6) ⊎ IsCheckedGrammarOutcome files order x b a status
      or (inl six) = inl six
      or (inr does) = inr (done words files order x asks b a status known does)
