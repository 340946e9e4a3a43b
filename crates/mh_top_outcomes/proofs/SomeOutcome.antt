-- Proves, as a double negation, that each work has an outcome on each input: each plan that is made for a job answers
-- each line and ends.
use Rattle.std.proofs.Common.{◌≡◌, ℕ, inl, inr, Bool, true, false, List, [], ◌∷◌, ◌++◌, length, Option, Some, None, refl, sym, ap, subst}
use Rattle.std.specs.Prelude.{◌&&◌}
use Rattle.mh_outside.specs.Shelf.{Files}
use Rattle.mh_grammar.specs.Text.{Text}
use Rattle.mh_grammar.specs.declared.types.Grammar.{Grammar}
use Rattle.mh_grammar.specs.Plain.{plain_of}
use Rattle.mh_grammar.proofs.Lists.{recursion-from}
use Rattle.mh_resolve_cells.specs.Conflicts.{IsConflictOf}
use Rattle.mh_grammar.specs.NotLacking.{NotLacking}
use Rattle.mh_grammar.proofs.NotLacking.{given, chain, decided}
use Rattle.mh_check.specs.Compiling.{missing}
use Rattle.mh_check.specs.Texts.{compiled_text}
use Rattle.mh_msgfile.specs.FileTexts.{echo_text}
use Rattle.mh_msgfile.specs.declared.blocks.LooseBlocks.{LooseBlocks}
use Rattle.mh_msgfile.specs.declared.loose.LooseFile.{LooseFile}
use Rattle.mh_opts.specs.declared.jobs.Job.{Job}
use Rattle.mh_opts.specs.declared.jobs.Job.TheVariants as jobs
use Rattle.mh_opts.specs.declared.order.Order.{Order}
use Rattle.mh_lint_findings.specs.Lines.{Line, lines_text}
use Rattle.mh_lint_findings.specs.declared.findings.GrammarFile.{GrammarFile}
use Rattle.mh_top_check.specs.Examination.{Examined, plan_of_check}
use Rattle.mh_sample.proofs.SampleLineUnique.{some_line}
use Rattle.mh_session_branches.specs.Answers.{Branches}
use Rattle.mh_tables_core.specs.Table.{TableData}
use Rattle.mh_tables_core.specs.Failing.{TooLongAt}
use Rattle.mh_tables_core.specs.Halting.{HaltingFacts}
use Rattle.mh_top_drive.specs.StageResults.{StageResult, Go, Halt}
use Rattle.mh_top_drive.specs.ModeBehavior.{ModeEnd, Outcome, HasOutcome, AnswersAll, AreAskedLines, input_left}
use Rattle.mh_top_drive.specs.declared.driving.Asks.{Asks}
use Rattle.mh_top_drive.specs.declared.driving.Asks.TheVariants.{NoLine, FirstLine, EachLine}
use Rattle.mh_top_drive.specs.declared.stop.Cause.TheVariants.{LongInput, Refused}
use Rattle.mh_top_drive.specs.Shapes.{Prepared}
use Rattle.mh_top_prepare.specs.Warnings.{has_warning}
use Rattle.mh_top_plans.specs.Compared.{comparison_result}
use Rattle.mh_top_plans.specs.FinalText.{end_of_final_text}
use Rattle.mh_top_plans.specs.declared.at_end.FinalText.{FinalText}
use Rattle.mh_top_plans.specs.declared.at_end.FinalText.TheVariants.{Written}
use Rattle.mh_top_plans.specs.ErrorsChecked.{Checks, TooLong as TooLongToCheck, cause_of_lines}
use Rattle.mh_top_plans.specs.GrammarChecked.{cause_of_findings}
use Rattle.mh_top_plans.specs.Listing.{Lists, TooLong, too_long}
use Rattle.mh_top_plans.specs.Rebased.{Rebases, TooLong as TooLongToRebase}
use Rattle.mh_top_plans.specs.Sampled.{Counts, TooLong as TooLongToCount}
use Rattle.mh_top_plans.specs.Plan.{FinalOutput, Known, Automaton, Errors, Rebased, Checked, Sampled, Shortest, Random, Conflicts, Findings, IsFinalOutput, Plan, Ends, Judges, Explains, Serves, Answers, EndsWith, asks_of, plan_behavior, plan_of_stage, table_file_text, writing_plan, judging_plan, IsPlanOfJob}
use Rattle.mh_top_plans.specs.Verdicts.{VerdictContext}
use Rattle.mh_top_plans.proofs.FilesOfMode.{PreparedFacts}
use Rattle.mh_top_claims.specs.Preparing.{IsPrepared}
use Rattle.mh_top_claims.specs.Work.{Examining, WithTable, Work, IsPlanUnlessRefused, IsWork, IsWorkOf}
use Rattle.mh_top_claims.proofs.VerdictClaims.{prepared_runs}
use Rattle.mh_top_outcomes.proofs.SomeCatalogue.{some_catalogue}
use Rattle.mh_top_outcomes.proofs.SomeEntries.{some_entries}
use Rattle.mh_top_outcomes.proofs.SomeAutomatonText.{some_automaton_text}
use Rattle.mh_top_outcomes.proofs.SomeShortest.{some_shortest_text}
use Rattle.mh_top_outcomes.proofs.SomeRandom.{some_drawn}
use Rattle.mh_top_outcomes.proofs.SomeRebased.{some_rebased}
use Rattle.mh_top_outcomes.proofs.SomeExplanations.{some_explanations}
use Rattle.mh_top_outcomes.proofs.SomeErrorText.{some_error_text}
use Rattle.mh_top_outcomes.proofs.SomeAnswer.{AreBranchesOf, no_branches, some_verdict, some_explanation, some_reply}

-- ---- The ends of modes that ask for no line.

abbrev HasEnd : FinalOutput → Type 0
HasEnd output = NotLacking ((e : ModeEnd) × IsFinalOutput output e)

-- The end of a mode that writes this text, and of one that refuses a state.
abbrev writes : Text → ModeEnd
writes text = record { cause = None; out = text }

abbrev refuses : ℕ → ModeEnd
refuses s = record { cause = Some (Refused (too_long s)); out = [] }

module _ (p : Prepared) (facts : PreparedFacts p) where
  abbrev IsTooLong : Type 0
  IsTooLong = (s : ℕ) × TooLongAt p.tabled.halting s

  errors_end : HasEnd (Errors p)
  errors_end = chain (decided IsTooLong) (λ d. elim d [
    | inl long ↦ given (refuses long.0, TooLong long.0 long.1 refl refl)
    | inr none ↦ chain (some_catalogue p.tabled.halting facts.halts.facts) (λ c.
        let entries = some_entries p.order.comment_expected p.grammar p.tabled.automaton p.tabled.mode p.tabled.halting facts.halts facts.consistent.automaton facts.consistent.table c.0 c.1.each in
        given (writes entries.0, Lists (λ s long. none (s, long)) refl (record { rows = c.0; catalogue = c.1; entries = entries.1 })))
  ])

  sample_end : (number : ℕ) → HasEnd (Sampled number p)
  sample_end number = chain (decided IsTooLong) (λ d. elim d [
    | inl long ↦ given (refuses long.0, TooLongToCount long.0 long.1 refl refl)
    | inr none ↦ chain (some_catalogue p.tabled.halting facts.halts.facts) (λ c.
        let line = some_line p.tabled.halting facts.halts p.grammar facts.consistent.table.grammar number (length c.0) in
        given (writes line.0, Counts (λ s long. none (s, long)) refl (record { rows = c.0; catalogue = c.1; line = line.1 })))
  ])

  rebased_end : (file : LooseFile) → HasEnd (Rebased file p)
  rebased_end file = chain (decided IsTooLong) (λ d. elim d [
    | inl long ↦ given (refuses long.0, TooLongToRebase long.0 long.1 refl refl)
    | inr none ↦ chain (some_rebased p.order.comment_expected p.grammar p.tabled.automaton p.tabled.mode p.tabled.halting facts.halts facts.consistent.automaton facts.consistent.table file) (λ x.
        given (writes x.0, Rebases (λ s long. none (s, long)) refl x.1))
  ])

  checked_end : (name : Text) (blocks : LooseBlocks) → HasEnd (Checked name blocks p)
  checked_end name blocks = chain (decided IsTooLong) (λ d. elim d [
    | inl long ↦ given (refuses long.0, TooLongToCheck long.0 long.1 refl refl)
    | inr none ↦ chain (some_error_text p.grammar p.tabled.halting facts.halts facts.consistent.table.grammar name blocks) (λ x.
        given (record { cause = cause_of_lines x.0; out = x.0 }, Checks (λ s long. none (s, long)) refl x.1))
  ])

  automaton_end : HasEnd (Automaton p)
  automaton_end = chain (some_automaton_text p.grammar p.tabled.automaton p.tabled.halting p.tabled.mode) (λ x. given (writes x.0, (refl, x.1)))

  shortest_end : HasEnd (Shortest p)
  shortest_end = chain (some_shortest_text p.grammar) (λ x. given (writes x.0, (refl, x.1)))

  random_end : (seed n : ℕ) → HasEnd (Random seed n p)
  random_end seed n = chain (some_drawn p.grammar seed n) (λ x. given (end_of_final_text x.0, (x.0, x.1, refl)))

  conflicts_end : HasEnd (Conflicts p)
  conflicts_end =
      chain (some_explanations p.grammar p.tabled.automaton p.tabled.halting facts.halts.facts facts.consistent.range facts.consistent.automaton p.tabled.conflicts (recursion-from (IsConflictOf p.grammar p.tabled.automaton) p.tabled.conflicts (λ c has. (facts.consistent.conflicts.members c).0 has)))
      (λ x. given (writes x.0, (refl, x.1)))

-- ---- Plans that answer and end.

-- What a plan needs to answer each line and to end.
data Fits : Plan → Type 0 where
  FitsEnd : {output : FinalOutput} → HasEnd output → Fits (Ends output)
  FitsJudge : {by : VerdictContext} → HaltingFacts by.table → by.table.grammar ≡ plain_of by.grammar → Fits (Judges by)
  FitsExplain : {p : Prepared} {line : Text} → PreparedFacts p → Fits (Explains p line)
  FitsServe : {g : Grammar} {t : TableData} {branches : Branches} → HaltingFacts t → t.grammar ≡ plain_of g → AreBranchesOf t branches → Fits (Serves g t branches)

answer : (plan : Plan) → Fits plan → (line : Text) → NotLacking ((text : Text) × (next : Plan) × Answers plan line text next × Fits next)
answer (Ends output) (FitsEnd has) line = given ([], Ends output, (refl, refl), FitsEnd has)
answer (Judges by) (FitsJudge h same) line = chain (some_verdict by h same line) (λ x. given (x.0, Judges by, (x.1, refl), FitsJudge h same))
answer (Explains p old) (FitsExplain facts) line = given ([], Explains p line, (refl, refl), FitsExplain facts)
answer (Serves g t branches) (FitsServe h same all) line = chain (some_reply t h branches all g same line) (λ x. given (x.0, Serves g t x.1, (x.1, x.2, refl), FitsServe h same x.3))

answers : (lines : List Text) (plan : Plan) → Fits plan → NotLacking ((text : Text) × (last : Plan) × AnswersAll plan_behavior plan lines text last × Fits last)
answers [] plan fits = given ([], plan, (refl, refl), fits)
answers (line ∷ lines) plan fits = chain (answer plan fits line) (λ a. chain (answers lines a.1 a.3) (λ r. given (a.0 ++ r.0, r.1, (a.0, r.0, a.1, a.2, r.2, refl), r.3)))

end : (plan : Plan) → Fits plan → NotLacking ((e : ModeEnd) × EndsWith plan e)
end (Ends output) (FitsEnd has) = has
end (Judges by) (FitsJudge h same) = given (writes [], refl)
end (Explains p line) (FitsExplain facts) = let made = some_explanation p facts line in given (end_of_final_text made.0, (made.0, made.1, refl))
end (Serves g t branches) (FitsServe h same all) = given (writes [], refl)

asked : (asks : Asks) (input : Option Text) → (lines : List Text) × (complete : Bool) × AreAskedLines asks input lines complete
asked NoLine input = ([], true, (refl, refl))
asked FirstLine None = ([], true, tt)
asked FirstLine (Some input) = (_, _, (refl, refl))
asked EachLine None = ([], true, tt)
asked EachLine (Some input) = (_, _, (refl, refl))

module _ (plan : Plan) (input : Option Text) (lines : List Text) (text : Text) (last : Plan) (all : AnswersAll plan_behavior plan lines text last) where
  ended : (complete : Bool) → AreAskedLines (asks_of plan) input lines complete → (e : ModeEnd) → EndsWith last e → (o : Outcome) × HasOutcome plan_behavior plan input o
  ended true asks e ends = (
    record { cause = e.cause; out = text ++ e.out; left = input_left input true lines },
    record { lines = lines; complete = true; asks = asks; text = text; last = last; answers = all; ends = (e, ends, refl, refl); left_is = refl },
  )
  ended false asks e ends = (
    record { cause = Some LongInput; out = text; left = input_left input false lines },
    record { lines = lines; complete = false; asks = asks; text = text; last = last; answers = all; ends = (refl, refl); left_is = refl },
  )

outcome : (plan : Plan) → Fits plan → (input : Option Text) → NotLacking ((o : Outcome) × HasOutcome plan_behavior plan input o)
outcome plan fits input =
    let a = asked (asks_of plan) input in
    chain (answers a.0 plan fits) (λ r. chain (end r.1 r.3) (λ e. given (ended plan input a.0 r.0 r.1 r.2 a.1 a.2 e.0 e.1)))

-- ---- The plan for each job has what it needs to answer each line and to end (`Fits`).

known : (e : ModeEnd) → Fits (Ends (Known e))
known e = FitsEnd (given (e, refl))

of_stage : {A : Type 0} (plan : A → Plan) → ((x : A) → Fits (plan x)) → (s : StageResult A) → Fits (plan_of_stage plan s)
of_stage plan each (Go x) = each x
of_stage plan each (Halt cause) = known (record { cause = Some cause; out = [] })

of_text : {A : Type 0} (made : A → FinalText) → (s : StageResult A) → Fits (plan_of_stage (λ x. writing_plan (made x)) s)
of_text made s = of_stage (λ x. writing_plan (made x)) (λ x. known (end_of_final_text (made x))) s

-- The lines on grammar files.
findings_end : (found : List GrammarFile) (strict faulty : Bool) (lines : List Line) → HasEnd (Findings found strict faulty lines)
findings_end found strict faulty lines = given (record { cause = cause_of_findings strict faulty lines; out = lines_text found lines }, record { cause_is = refl; written = refl })

fits_check : (order : Order) (s : StageResult Examined) → Fits (plan_of_check order s)
fits_check order (Go x) = FitsEnd (findings_end x.0 order.strict x.1.0 x.1.1)
fits_check order (Halt cause) = known (record { cause = Some cause; out = [] })

module _ (files : Option Files) (p : Prepared) (facts : PreparedFacts p) where
  fits_job : (job : Job) (plan : Plan) → IsPlanOfJob job files p plan → Fits plan
  fits_job jobs.Check plan is = absurd is
  fits_job jobs.Interpret plan (s, of, is) = subst Fits (sym is) (of_stage (judging_plan p) (λ messages. FitsJudge facts.halts facts.consistent.table.grammar) s)
  fits_job jobs.InterpretError plan is = subst Fits (sym is) (FitsExplain facts)
  fits_job jobs.Session plan is = subst Fits (sym is) (FitsServe facts.halts facts.consistent.table.grammar (no_branches p.tabled.halting))
  fits_job jobs.ShowAutomaton plan is = subst Fits (sym is) (FitsEnd (automaton_end p facts))
  fits_job jobs.WriteTables plan is = subst Fits (sym is) (known (end_of_final_text (Written (table_file_text p))))
  fits_job jobs.ListErrors plan is = subst Fits (sym is) (FitsEnd (errors_end p facts))
  fits_job (jobs.Sample number) plan is = subst Fits (sym is) (FitsEnd (sample_end p facts number))
  fits_job jobs.ShortestSentences plan is = subst Fits (sym is) (FitsEnd (shortest_end p facts))
  fits_job (jobs.RandomSentence seed n) plan is = subst Fits (sym is) (FitsEnd (random_end p facts seed n))
  fits_job jobs.Explain plan is = subst Fits (sym is) (FitsEnd (conflicts_end p facts))
  fits_job (jobs.CompileErrors file) plan (s, of, is) = subst Fits (sym is) (of_text (λ messages. Written (compiled_text messages)) s)
  fits_job (jobs.EchoErrors file) plan (s, of, is) = subst Fits (sym is) (of_text (λ spelled. Written (echo_text p.grammar spelled)) s)
  fits_job (jobs.UpdateErrors file) plan (s, of, is) = subst Fits (sym is) (of_text (λ text. Written text) s)
  fits_job (jobs.RebaseErrors file) plan (s, of, is) = subst Fits (sym is) (of_stage (λ loose. Ends (Rebased loose p)) (λ loose. FitsEnd (rebased_end p facts loose)) s)
  fits_job (jobs.CheckErrors file) plan (s, of, is) = subst Fits (sym is) (of_stage (λ blocks. Ends (Checked file blocks p)) (λ blocks. FitsEnd (checked_end p facts file blocks)) s)
  fits_job (jobs.CompareErrors first second) plan (s, of, is) = subst Fits (sym is) (of_text (λ both. comparison_result first second (missing both.0 both.1)) s)

  fits_unless_refused : (refused : Bool) (plan : Plan) → IsPlanUnlessRefused refused files p plan → Fits plan
  fits_unless_refused true plan is = subst Fits (sym is) (known (record { cause = Some (Refused []); out = [] }))
  fits_unless_refused false plan is = fits_job p.order.job plan is

module _ (words : List Text) (files : Option Files) (w : Work) where
  fits_work : (s : StageResult Prepared) → IsPrepared words files s → IsWorkOf files s w → Fits w.plan
  fits_work (Go p) prepared is = fits_unless_refused files p (prepared_runs words files p prepared) (p.order.strict && has_warning p.tabled.conflicts) w.plan is.1
  fits_work (Halt cause) prepared is = subst Fits (sym (ap (λ (v : Work). v.plan) is)) (known (record { cause = Some cause; out = [] }))

  fits_asked : IsWork words files w → Fits w.plan
  fits_asked (WithTable needs is) = fits_work is.0 is.1 is.2
  fits_asked (Examining order on job is) = subst Fits (sym is.plan.2) (fits_check order is.plan.0)

  pub some_outcome : IsWork words files w → (input : Option Text) → NotLacking ((o : Outcome) × HasOutcome plan_behavior w.plan input o)
  some_outcome is input = outcome w.plan (fits_asked is) input
