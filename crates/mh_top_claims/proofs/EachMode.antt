-- All lemmas that have one case for each job, for each end and for each plan.
use Rattle.std.proofs.Common.{◌≡◌, ◌∷◌, ℕ, List, Option, None, Some, [], sym, ◌∙◌, ap, subst, refl}
use Rattle.std.specs.Bool.{⊤}
use Rattle.std.specs.Prelude.{Bool, true, false, if◌then◌else◌}
use Rattle.mh_lint_findings.specs.Lines.{Line}
use Rattle.mh_top_plans.specs.GrammarChecked.{cause_of_findings}
use Rattle.mh_grammar.specs.declared.types.Grammar.{Grammar}
use Rattle.mh_opts.specs.declared.jobs.Job.{Job}
use Rattle.mh_opts.specs.declared.jobs.Job.TheVariants.{Interpret, InterpretError, Session, ShowAutomaton, WriteTables, ListErrors, CompareErrors, CompileErrors, EchoErrors, UpdateErrors, RebaseErrors, Check, CheckErrors, Sample, ShortestSentences, RandomSentence, Explain}
use Rattle.mh_outside.specs.Shelf.{Files, FileFound}
use Rattle.mh_report.proofs.OneAutomatonText.{text_once}
use Rattle.mh_session_branches.proofs.OneAnswer.{answer_once as line_once}
use Rattle.mh_session_branches.specs.Answers.{Branches}
use Rattle.mh_tables_core.specs.Table.{TableData}
use Rattle.mh_check.specs.Compiling.{missing}
use Rattle.mh_check.specs.Texts.{compiled_text}
use Rattle.mh_msgfile.specs.FileTexts.{echo_text}
use Rattle.mh_explain.proofs.ExplanationsUnique.{explanations_once}
use Rattle.mh_sample.proofs.ShortestTextUnique.{shortest_text_once}
use Rattle.mh_grammar.specs.Text.{Text}
use Rattle.mh_top_drive.specs.StageResults.{StageResult, Go, Halt}
use Rattle.mh_top_drive.specs.ModeBehavior.{ModeEnd}
use Rattle.mh_top_drive.specs.declared.stop.Cause.{Cause}
use Rattle.mh_top_drive.specs.declared.stop.Cause.TheVariants.{Refused}
use Rattle.mh_top_drive.proofs.Then.{IsOne}
use Rattle.mh_top_drive.specs.FileContents.{IsFileContent, IsFound, loaded}
use Rattle.mh_top_drive.specs.Shapes.{Prepared}
use Rattle.mh_top_plans.specs.FinalText.{end_of_final_text}
use Rattle.mh_top_plans.specs.Compared.{comparison_result}
use Rattle.mh_top_plans.specs.Files.{files_of_job, optional_file}
use Rattle.mh_top_plans.specs.Listing.{ListsErrors, Lists, TooLong, too_long}
use Rattle.mh_top_plans.specs.MessagesFiles.{AreMessagesOfBoth, AreMessages, AreLooseBlocks, IsLooseFile, IsMessagesFile, IsUpdatedFile, Messages}
use Rattle.mh_top_plans.proofs.FileBlocks.{blocks_facts, some_blocks}
use Rattle.mh_top_plans.proofs.LooseFiles.{loose_facts, some_loose}
use Rattle.mh_top_plans.specs.Plan.{Answers, Automaton, FinalOutput, Ends, IsFinalOutput, EndsWith, Errors, Explains, IsPlanOfJob, Judges, Known, AreOptionalMessages, Plan, Serves, halts, judging_plan, plan_of_stage, table_file_text, writing_plan, Checked, Findings, Rebased, Sampled, Shortest, Random, Conflicts}
use Rattle.mh_top_plans.specs.Verdicts.{VerdictContext}
use Rattle.mh_top_plans.specs.declared.at_end.FinalText.{FinalText}
use Rattle.mh_top_plans.specs.declared.at_end.FinalText.TheVariants.{Written, Refusal}
use Rattle.mh_top_claims.proofs.IsAnswerToLine.{answer_to_line_once}
use Rattle.mh_top_plans.proofs.MessagesFileLines.{messages_facts, messages_halt_if_unread, messages_for_once, messages_stop_allowed, named_turn, some_checked, some_messages_for, some_spelled, messages_file_facts}
use Rattle.mh_top_claims.proofs.AreMessagesOfBoth.{two_files}
use Rattle.mh_top_claims.proofs.IsUpdatedFile.{one_updated}
use Rattle.mh_top_plans.proofs.FilesOfMode.{ReadFacts, PreparedFacts, StopsAllowed, one_file}
use Rattle.mh_top_plans.proofs.IsNextFileOfJob.{IsNextOfMode, no_turn, turn_of_named}
use Rattle.mh_top_claims.proofs.ErrorListUnique.{list_cause_once, list_out_once}
use Rattle.mh_top_claims.proofs.IsDrawn.{drawn_once}
use Rattle.mh_top_claims.proofs.ChecksErrors.{checked_cause_allowed, checked_cause_once, checked_out_once}
use Rattle.mh_top_claims.proofs.RebasesFile.{rebased_cause_once, rebased_out_once, rebased_right}
use Rattle.mh_top_claims.proofs.IsExplained.{final_once}
use Rattle.mh_top_claims.proofs.CountsSample.{counts_cause_once, counts_out_once, counts_right}

-- ---- The allowed causes of a mode.

module _ (Right : Cause → Type 0) where
  abbrev pub IsAllowed : Option Cause → Type 0
  IsAllowed None = ⊤
  IsAllowed (Some cause) = Right cause

  -- The mode, if it ends at once with a given end, has an allowed cause.
  abbrev pub EndsAllowed : Plan → Type 0
  EndsAllowed (Ends (Known e)) = IsAllowed e.cause
  EndsAllowed plan = ⊤

final_right : (Right : Cause → Type 0) → ((line : Text) → Right (Refused line)) → (told : FinalText) → IsAllowed Right (end_of_final_text told).cause
final_right Right may (Written text) = tt
final_right Right may (Refusal line) = may line

-- ---- The plan of a job exists, and is unique if the files are known.

-- The facts on the plans of a job that reads these files.
pub record ModeFacts (p : Prepared) (names : List Text) (Is : Option Files → Plan → Type 0) : Type 1 where
  pub some : (files : Option Files) → PreparedFacts p → (plan : Plan) × Is files plan
  pub unique : (files : Files) → IsOne (Is (Some files))
  -- If the next file to read is missing or too long, the plan ends at once with this cause.
  pub unread : (files : Files) (name : Text) (what : FileFound) (cause : Cause) (plan : Plan) → IsNextOfMode p names (Some files) name → IsFound (Some files) name what → loaded name what ≡ Halt cause → Is (Some files) plan → plan ≡ halts cause
  -- A plan that answers lines with verdicts does so by the prepared grammar and table.
  pub judged : (Has : Grammar → TableData → Type 0) (files : Option Files) (by : VerdictContext) → Has p.grammar p.tabled.halting → Is files (Judges by) → Has by.grammar by.table
  -- The causes of the plan are allowed, if refusals are, and the causes of files that cannot be read.
  pub allowed : (Right : Cause → Type 0) → ((line : Text) → Right (Refused line)) → (files : Option Files) (plan : Plan) → ((name : Text) (what : FileFound) (cause : Cause) → IsNextOfMode p names files name → IsFound files name what → loaded name what ≡ Halt cause → Right cause) → Is files plan → EndsAllowed Right plan

module _ (p : Prepared) where
  -- The facts for a plan that reads no file and gives no verdicts.
  fixed : (plan : Plan) → ((by : VerdictContext) → Judges by ≡ plan → ⊥) → ((Right : Cause → Type 0) → EndsAllowed Right plan) → ModeFacts p [] (λ files other. other ≡ plan)
  fixed plan never ends = record {
    some = λ files runs. (plan, refl);
    unique = λ files x y is so. is ∙ sym so;
    unread = λ files name what cause other turn found halt is. absurd (no_turn p (Some files) name turn);
    judged = λ Has files by has is. absurd (never by is);
    allowed = λ Right may files other of_file is. subst (EndsAllowed Right) (sym is) (ends Right);
  }

  -- The facts for a plan that reads files and gives no verdicts.
  module _ {A : Type 0} (names : List Text) (Has : Option Files → StageResult A → Type 0) (read : ReadFacts p names Has) (plan : A → Plan) (never : (x : A) (by : VerdictContext) → Judges by ≡ plan x → ⊥) (ends : (Right : Cause → Type 0) → ((line : Text) → Right (Refused line)) → (x : A) → EndsAllowed Right (plan x)) where
    judges_not : (s : StageResult A) (by : VerdictContext) → Judges by ≡ plan_of_stage plan s → ⊥
    judges_not (Go x) by is = never x by is
    judges_not (Halt cause) by is = cc

    ends_so : (Right : Cause → Type 0) → ((line : Text) → Right (Refused line)) → (s : StageResult A) → StopsAllowed Right s → EndsAllowed Right (plan_of_stage plan s)
    ends_so Right may (Go x) right = ends Right may x
    ends_so Right may (Halt cause) right = right

    reading : ModeFacts p names (λ files other. (s : StageResult A) × Has files s × (other ≡ plan_of_stage plan s))
    reading = record {
      some = λ files runs. let s = read.some files runs in (plan_of_stage plan s.0, (s.0, s.1, refl));
      unique = λ files x y is so. is.2 ∙ ap (plan_of_stage plan) (read.unique files is.0 so.0 is.1 so.1) ∙ sym so.2;
      unread = λ files name what cause other turn found halt is. is.2 ∙ ap (plan_of_stage plan) (read.unread files name what cause is.0 turn found halt is.1);
      judged = λ Has files by has is. absurd (judges_not is.0 by is.2);
      allowed = λ Right may files other of_file is. subst (EndsAllowed Right) (sym is.2) (ends_so Right may is.0 (read.allowed Right may files is.0 of_file is.1));
    }

  -- The facts for a plan that gives verdicts.
  module _ (Has : Grammar → TableData → Type 0) where
    judged_by : (x by : VerdictContext) → Judges by ≡ Judges x → Has x.grammar x.table → Has by.grammar by.table
    judged_by x by e has = let same : x ≡ by = cc in subst (λ (y : VerdictContext). Has y.grammar y.table) same has

    judges_has : (s : StageResult (Option Messages)) (by : VerdictContext) → Judges by ≡ plan_of_stage (judging_plan p) s → Has p.grammar p.tabled.halting → Has by.grammar by.table
    judges_has (Go messages) by is has = judged_by (record { trees = p.order.show_cst; expected = p.order.show_expected; grammar = p.grammar; table = p.tabled.halting; messages = messages }) by is has
    judges_has (Halt cause) by is has = absurd (cc)

  judges_right : (Right : Cause → Type 0) (s : StageResult (Option Messages)) → StopsAllowed Right s → EndsAllowed Right (plan_of_stage (judging_plan p) s)
  judges_right Right (Go messages) right = tt
  judges_right Right (Halt cause) right = right

  judging : (file : Option Text) → ModeFacts p (optional_file file) (λ files plan. (s : StageResult (Option Messages)) × AreOptionalMessages file files p s × (plan ≡ plan_of_stage (judging_plan p) s))
  judging file = record {
    some = λ files runs. let s = some_messages_for p runs.halts runs.consistent.table.grammar file files in (plan_of_stage (judging_plan p) s.0, (s.0, s.1, refl));
    unique = λ files x y is so. is.2 ∙ ap (plan_of_stage (judging_plan p)) (messages_for_once p file files is.0 so.0 is.1 so.1) ∙ sym so.2;
    unread = λ files name what cause plan turn found halt is. is.2 ∙ ap (plan_of_stage (judging_plan p)) (messages_halt_if_unread p file files name what cause is.0 (turn_of_named p (Some files) name file turn) found halt is.1);
    judged = λ Has files by has is. judges_has Has is.0 by is.2 has;
    allowed = λ Right may files plan of_file is.
        subst (EndsAllowed Right) (sym is.2) (judges_right Right is.0 (messages_stop_allowed p Right may file files is.0 (λ name what cause same found halt. of_file name what cause (named_turn p files file name same) found halt) is.1));
  }

-- The facts are true of a stage that reads one messages file and checks the file against the table.
one_checked : (p : Prepared) (file : Text) → ReadFacts p (file ∷ []) (λ files. IsFileContent files (AreMessages p.grammar p.tabled.halting) file)
one_checked p file = one_file p file (AreMessages p.grammar p.tabled.halting) (messages_facts p.grammar p.tabled.halting) (λ runs. some_checked p.grammar p.tabled.halting runs.halts runs.consistent.table.grammar)

pub mode_facts : (job : Job) → (job ≡ Check → ⊥) → (p : Prepared) → ModeFacts p (files_of_job job p.order) (λ files. IsPlanOfJob job files p)
mode_facts Interpret other p = judging p p.order.messages
mode_facts InterpretError other p = fixed p (Explains p []) (λ by is. cc) (λ Right. tt)
mode_facts Session other p = fixed p (Serves p.grammar p.tabled.halting []) (λ by is. cc) (λ Right. tt)
mode_facts ShowAutomaton other p = fixed p (Ends (Automaton p)) (λ by is. cc) (λ Right. tt)
mode_facts WriteTables other p = fixed p (writing_plan (Written (table_file_text p))) (λ by is. cc) (λ Right. tt)
mode_facts ListErrors other p = fixed p (Ends (Errors p)) (λ by is. cc) (λ Right. tt)
mode_facts (Sample number) other p = fixed p (Ends (Sampled number p)) (λ by is. cc) (λ Right. tt)
mode_facts ShortestSentences other p = fixed p (Ends (Shortest p)) (λ by is. cc) (λ Right. tt)
mode_facts (RandomSentence seed n) other p = fixed p (Ends (Random seed n p)) (λ by is. cc) (λ Right. tt)
mode_facts Explain other p = fixed p (Ends (Conflicts p)) (λ by is. cc) (λ Right. tt)
mode_facts (CompileErrors file) other p = reading p (file ∷ []) (λ files. IsFileContent files (AreMessages p.grammar p.tabled.halting) file) (one_checked p file) (λ messages. writing_plan (Written (compiled_text messages))) (λ messages by is. cc) (λ Right may messages. tt)
mode_facts (EchoErrors file) other p =
    reading p (file ∷ []) (λ files. IsFileContent files (IsMessagesFile p.grammar) file) (one_file p file (IsMessagesFile p.grammar) (messages_file_facts p.grammar) (λ runs name bytes short. some_spelled p.grammar name bytes)) (λ spelled. writing_plan (Written (echo_text p.grammar spelled))) (λ spelled by is. cc)
    (λ Right may spelled. tt)
mode_facts (UpdateErrors file) other p = reading p (file ∷ []) (λ files. IsUpdatedFile files p file) (one_updated p file) (λ text. writing_plan (Written text)) (λ text by is. cc) (λ Right may text. tt)
mode_facts (RebaseErrors file) other p = reading p (file ∷ []) (λ files. IsFileContent files IsLooseFile file) (one_file p file IsLooseFile loose_facts (λ runs name bytes short. some_loose name bytes)) (λ loose. Ends (Rebased loose p)) (λ loose by is. cc) (λ Right may loose. tt)
mode_facts (CheckErrors file) other p = reading p (file ∷ []) (λ files. IsFileContent files AreLooseBlocks file) (one_file p file AreLooseBlocks blocks_facts (λ runs name bytes short. some_blocks name bytes)) (λ blocks. Ends (Checked file blocks p)) (λ blocks by is. cc) (λ Right may blocks. tt)
-- The mode that examines grammar files has no plan after the warnings.
mode_facts Check other p = absurd (other refl)
mode_facts (CompareErrors first second) other p =
    reading p (first ∷ second ∷ []) (λ files. AreMessagesOfBoth files p first second) (two_files p first second) (λ both. writing_plan (comparison_result first second (missing both.0 both.1))) (λ both by is. cc) (λ Right may both. final_right Right may (comparison_result first second (missing both.0 both.1)))

-- ---- The end of a mode that asks for no line is unique.

pub record EndFacts (end : FinalOutput) : Type 1 where
  pub cause : (x y : ModeEnd) → IsFinalOutput end x → IsFinalOutput end y → x.cause ≡ y.cause
  pub out : (x y : ModeEnd) → IsFinalOutput end x → IsFinalOutput end y → x.out ≡ y.out
  pub allowed : (Right : Cause → Type 0) → ((line : Text) → Right (Refused line)) → (e : ModeEnd) → EndsAllowed Right (Ends end) → IsFinalOutput end e → IsAllowed Right e.cause

list_right : (p : Prepared) (Right : Cause → Type 0) → ((line : Text) → Right (Refused line)) → (e : ModeEnd) → ListsErrors p.order.comment_expected p.grammar p.tabled.automaton p.tabled.halting e.cause e.out → IsAllowed Right e.cause
list_right p Right may e (Lists none cause list) = subst (IsAllowed Right) (sym cause) tt
list_right p Right may e (TooLong s long cause out) = subst (IsAllowed Right) (sym cause) (may (too_long s))

random_once : (p : Prepared) (seed n : ℕ) (x y : ModeEnd) → IsFinalOutput (Random seed n p) x → IsFinalOutput (Random seed n p) y → x ≡ y
random_once p seed n x y is so = is.2 ∙ ap end_of_final_text (drawn_once p.grammar seed n is.0 so.0 is.1 so.1) ∙ sym so.2

if_strict_right : (Right : Cause → Type 0) → ((line : Text) → Right (Refused line)) → (strict : Bool) → IsAllowed Right (if strict then Some (Refused []) else None)
if_strict_right Right may true = may []
if_strict_right Right may false = tt

findings_right : (Right : Cause → Type 0) → ((line : Text) → Right (Refused line)) → (strict faulty : Bool) (lines : List Line) → IsAllowed Right (cause_of_findings strict faulty lines)
findings_right Right may strict true lines = may []
findings_right Right may strict false [] = tt
findings_right Right may strict false (x ∷ xs) = if_strict_right Right may strict

pub end_facts : (end : FinalOutput) → EndFacts end
end_facts (Known end) = record {
  cause = λ x y is so. ap (λ (e : ModeEnd). e.cause) (is ∙ sym so);
  out = λ x y is so. ap (λ (e : ModeEnd). e.out) (is ∙ sym so);
  allowed = λ Right may e right is. subst (IsAllowed Right) (sym (ap (λ (x : ModeEnd). x.cause) is)) right;
}
end_facts (Automaton p) = record {
  cause = λ x y is so. is.0 ∙ sym so.0;
  out = λ x y is so. text_once p.grammar p.tabled.automaton p.tabled.mode p.tabled.halting x.out y.out is.1 so.1;
  allowed = λ Right may e right is. subst (IsAllowed Right) (sym is.0) tt;
}
end_facts (Errors p) = record {
  cause = λ x y is so. list_cause_once p.order.comment_expected p.grammar p.tabled.automaton p.tabled.halting x.cause y.cause x.out y.out is so;
  out = λ x y is so. list_out_once p.order.comment_expected p.grammar p.tabled.automaton p.tabled.halting x.cause y.cause x.out y.out is so;
  allowed = λ Right may e right is. list_right p Right may e is;
}
end_facts (Rebased file p) = record {
  cause = λ x y is so. rebased_cause_once p.order.comment_expected p.grammar p.tabled.automaton p.tabled.halting file x.cause y.cause x.out y.out is so;
  out = λ x y is so. rebased_out_once p.order.comment_expected p.grammar p.tabled.automaton p.tabled.halting file x.cause y.cause x.out y.out is so;
  allowed = λ Right may e right is. rebased_right p.order.comment_expected p.grammar p.tabled.automaton p.tabled.halting file (IsAllowed Right) may tt e.cause e.out is;
}
end_facts (Checked name blocks p) = record {
  cause = λ x y is so. checked_cause_once p.grammar p.tabled.halting name blocks x.cause y.cause x.out y.out is so;
  out = λ x y is so. checked_out_once p.grammar p.tabled.halting name blocks x.cause y.cause x.out y.out is so;
  allowed = λ Right may e right is. checked_cause_allowed p.grammar p.tabled.halting name blocks (IsAllowed Right) may tt e.cause e.out is;
}
end_facts (Findings found strict faulty lines) = record {
  cause = λ x y is so. is.cause_is ∙ sym so.cause_is;
  out = λ x y is so. is.written ∙ sym so.written;
  allowed = λ Right may e right is. subst (IsAllowed Right) (sym is.cause_is) (findings_right Right may strict faulty lines);
}
end_facts (Sampled number p) = record {
  cause = λ x y is so. counts_cause_once p.grammar p.tabled.halting number x.cause y.cause x.out y.out is so;
  out = λ x y is so. counts_out_once p.grammar p.tabled.halting number x.cause y.cause x.out y.out is so;
  allowed = λ Right may e right is. counts_right p.grammar p.tabled.halting number (IsAllowed Right) may tt e.cause e.out is;
}
end_facts (Shortest p) = record {
  cause = λ x y is so. is.0 ∙ sym so.0;
  out = λ x y is so. shortest_text_once p.grammar x.out y.out is.1 so.1;
  allowed = λ Right may e right is. subst (IsAllowed Right) (sym is.0) tt;
}
end_facts (Random seed n p) = record {
  cause = λ x y is so. ap (λ (e : ModeEnd). e.cause) (random_once p seed n x y is so);
  out = λ x y is so. ap (λ (e : ModeEnd). e.out) (random_once p seed n x y is so);
  allowed = λ Right may e right is. subst (IsAllowed Right) (sym (ap (λ (x : ModeEnd). x.cause) is.2)) (final_right Right may is.0);
}
end_facts (Conflicts p) = record {
  cause = λ x y is so. is.0 ∙ sym so.0;
  out = λ x y is so. explanations_once p.grammar p.tabled.automaton p.tabled.halting p.tabled.conflicts x.out y.out is.1 so.1;
  allowed = λ Right may e right is. subst (IsAllowed Right) (sym is.0) tt;
}

-- ---- The answer to a line and the end of a mode are unique.

module _ (line : Text) where
  pub answer_once : (plan : Plan) (a c : Text) (x y : Plan) → Answers plan line a x → Answers plan line c y → (a ≡ c) × (x ≡ y)
  answer_once (Ends e) a c x y p q = (p.0 ∙ sym q.0, p.1 ∙ sym q.1)
  answer_once (Judges by) a c x y p q = (answer_to_line_once by line a c p.0 q.0, p.1 ∙ sym q.1)
  answer_once (Explains from old) a c x y p q = (p.0 ∙ sym q.0, p.1 ∙ sym q.1)
  answer_once (Serves g t branches) a c x y p q =
      let same = line_once g t branches line a c p.0 q.0 p.1 q.1 in (same.0, p.2 ∙ ap (λ (after : Branches). Serves g t after) same.1 ∙ sym q.2)

explained_once : (p : Prepared) (line : Text) (x y : ModeEnd) → EndsWith (Explains p line) x → EndsWith (Explains p line) y → x ≡ y
explained_once p line x y is so = is.2 ∙ ap end_of_final_text (final_once p line is.0 so.0 is.1 so.1) ∙ sym so.2

pub cause_once : (plan : Plan) (x y : ModeEnd) → EndsWith plan x → EndsWith plan y → x.cause ≡ y.cause
cause_once (Ends end) x y is so = (end_facts end).cause x y is so
cause_once (Judges by) x y is so = ap (λ (end : ModeEnd). end.cause) (is ∙ sym so)
cause_once (Explains p line) x y is so = ap (λ (end : ModeEnd). end.cause) (explained_once p line x y is so)
cause_once (Serves g t branches) x y is so = ap (λ (end : ModeEnd). end.cause) (is ∙ sym so)

pub out_once : (plan : Plan) (x y : ModeEnd) → EndsWith plan x → EndsWith plan y → x.out ≡ y.out
out_once (Ends end) x y is so = (end_facts end).out x y is so
out_once (Judges by) x y is so = ap (λ (end : ModeEnd). end.out) (is ∙ sym so)
out_once (Explains p line) x y is so = ap (λ (end : ModeEnd). end.out) (explained_once p line x y is so)
out_once (Serves g t branches) x y is so = ap (λ (end : ModeEnd). end.out) (is ∙ sym so)

-- ---- A mode ends only with allowed causes.

module _ (Right : Cause → Type 0) (may_refuse : (line : Text) → Right (Refused line)) where
  pub answer_right : (plan : Plan) (line text : Text) (next : Plan) → Answers plan line text next → EndsAllowed Right plan → EndsAllowed Right next
  answer_right (Ends e) line text next is right = subst (EndsAllowed Right) (sym is.1) right
  answer_right (Judges by) line text next is right = subst (EndsAllowed Right) (sym is.1) tt
  answer_right (Explains p old) line text next is right = subst (EndsAllowed Right) (sym is.1) tt
  answer_right (Serves g t branches) line text next is right = subst (EndsAllowed Right) (sym is.2) tt

  pub ends_right : (plan : Plan) (e : ModeEnd) → EndsAllowed Right plan → EndsWith plan e → IsAllowed Right e.cause
  ends_right (Ends end) e right is = (end_facts end).allowed Right may_refuse e right is
  ends_right (Judges by) e right is = subst (IsAllowed Right) (sym (ap (λ (x : ModeEnd). x.cause) is)) tt
  ends_right (Explains p line) e right is = subst (IsAllowed Right) (sym (ap (λ (x : ModeEnd). x.cause) is.2)) (final_right Right may_refuse is.0)
  ends_right (Serves g t branches) e right is = subst (IsAllowed Right) (sym (ap (λ (x : ModeEnd). x.cause) is)) tt
