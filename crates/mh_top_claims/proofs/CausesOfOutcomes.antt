-- Each cause with which the work ends is explained by the words, the files or the input; and a file that cannot be read
-- ends the work with its cause.
use Rattle.std.proofs.Common.{◌≡◌, ℕ, Bool, true, false, ◌&&◌, List, [], ◌∷◌, ◌++◌, Option, None, Some, refl, sym, ◌∙◌, ap, subst}
use Rattle.std.specs.Bool.{⊤}
use Rattle.std.specs.List.{All}
use Rattle.std.proofs.lemmas.List.Elements.{All-head, All-tail}
use Rattle.mh_outside.specs.Shelf.{Files, FileFound, NoFile, Long, Bytes}
use Rattle.mh_rules.specs.declared.modules.Module.{Module}
use Rattle.mh_sample.specs.Texts.{grammar_text}
use Rattle.mh_opts.specs.Orders as spelled
use Rattle.mh_opts.specs.declared.jobs.Job.TheVariants.{Check}
use Rattle.mh_opts.specs.declared.order.Order.{Order}
use Rattle.mh_lint_findings.specs.Lines.{Line}
use Rattle.mh_lint_findings.specs.declared.findings.GrammarFile.{GrammarFile}
use Rattle.mh_top_check.specs.Examination.{AreExamined, Examined, IsExamination, IsGrammarFile, IsNextOfCheck, front_of, plan_of_check, stopped}
use Rattle.mh_top_check.specs.Examination as examination
use Rattle.mh_top_claims.proofs.PreparedWork.{job_needs, tabled_work}
use Rattle.mh_opts.specs.declared.order.UsageFault.{UsageFault}
use Rattle.std.specs.Prelude.{Result, Ok, Err}
use Rattle.mh_grammar.specs.Text.{Text}
use Rattle.mh_top_load.specs.Texts.{usage_line}
use Rattle.mh_top_drive.specs.StageResults.{StageResult, Go, Halt, AfterStage, Then, Gives}
use Rattle.mh_top_drive.specs.Statuses.{last_line_of}
use Rattle.mh_top_load.specs.Order.{staged_order, order_result}
use Rattle.mh_top_drive.specs.FileContents.{AreFileContents, IsFileContent, IsFound, IsLoaded, loaded}
use Rattle.mh_top_load.specs.GrammarFile.{IsModule}
use Rattle.mh_top_load.specs.Modules.{AreModules, AreModulesBy, grammar_files, names_to_read, sample_file, sample_of}
use Rattle.mh_top_drive.specs.NextFile.{HasContent, IsNextFile}
use Rattle.mh_top_claims.specs.NextTableFile.{IsTableFileNext}
use Rattle.mh_top_load.specs.GrammarStage.{IsGrammarStage}
use Rattle.mh_tabfile_form.specs.declared.types.RawTable.{RawTable}
use Rattle.mh_top_prepare.specs.TableFileContent.{IsTableFile}
use Rattle.mh_top_prepare.specs.TableStage.{IsAutomatonStage, IsTableStage, mode_of}
use Rattle.mh_top_prepare.specs.ResolvedStage.{IsResolvedStage}
use Rattle.mh_top_prepare.specs.AutomatonSources.{IsAutomatonSource, IsAutomatonSourceBy}
use Rattle.mh_top_drive.specs.ModeBehavior.{ModeEnd, AnswersAll, AreAskedLines, EndsAfterAnswers, Outcome, HasOutcome}
use Rattle.mh_top_plans.specs.Plan.{Plan, EndsWith, asks_of, halts, plan_behavior}
use Rattle.mh_top_claims.specs.Work.{Examining, IsCheckWork, NeedsTable, WithTable, Work, IsPlanUnlessRefused, IsWork, IsWorkOf}
use Rattle.mh_top_prepare.specs.Warnings.{has_warning, warnings_of}
use Rattle.mh_top_load.specs.OrderAndGrammar.{IsOrderAndGrammar}
use Rattle.mh_top_claims.specs.Preparing.{IsPrepared}
use Rattle.mh_top_prepare.specs.PreparedStage.{IsPreparedFromSource, IsPreparedFromFiles}
use Rattle.mh_top_claims.specs.Run.{text_on_err, IsNextToRead, OfCheck, OfGrammar, OfTables, OfMode, IsNextAfterWarnings, IsNextUnlessRefused}
use Rattle.mh_top_claims.specs.Claims.{AsksLines, NextFileIs, IsInputOverLimit}
use Rattle.mh_top_drive.specs.declared.driving.Asks.{Asks}
use Rattle.mh_top_drive.specs.declared.driving.Asks.TheVariants.{NoLine, FirstLine, EachLine}
use Rattle.mh_top_drive.specs.declared.front.OrderAndGrammar.{OrderAndGrammar}
use Rattle.mh_top_drive.specs.Shapes.{Prepared, TabledAutomaton}
use Rattle.mh_top_drive.specs.declared.stop.Cause.{Cause}
use Rattle.mh_top_drive.specs.declared.stop.Cause.TheVariants.{Refused, Misused, Missing, LongFile, LongInput}
use Rattle.mh_top_prepare.specs.declared.sources.AutomatonSource.{AutomatonSource}
use Rattle.mh_top_prepare.specs.declared.sources.AutomatonSource.TheVariants.{Canonical, File, Merged}
use Rattle.mh_top_drive.proofs.ReadFilesLoop.{turn_first, turn_later}
use Rattle.mh_top_claims.proofs.PreparedUnique.{prepared_once}
use Rattle.mh_top_claims.proofs.ExaminedUnique.{examined_once}
use Rattle.mh_top_plans.proofs.IsNextFileOfJob.{nil_not_split}
use Rattle.mh_top_claims.proofs.EachMode.{EndsAllowed, IsAllowed, answer_right, ends_right, mode_facts}

-- The cause is a refusal, which needs no explanation here.
abbrev IsRefusal : Cause → Type 0
IsRefusal (Refused line) = ⊤
IsRefusal _ = ⊥

-- ---- A cause with which the work ends before the warnings is explained.

module _ (words : List Text) (files : Option Files) where
  -- The explanation of a cause: the words are misused, or the next file to read is absent or too long.
  abbrev pub Accounts : Cause → Type 0
  Accounts (Refused line) = ⊤
  Accounts (Misused line) = staged_order words ≡ Halt (Misused line)
  Accounts (Missing name) = NextFileIs words NoFile files
  Accounts (LongFile name) = NextFileIs words Long files
  Accounts LongInput = ⊥

  refusal_accounts : (cause : Cause) → IsRefusal cause → Accounts cause
  refusal_accounts (Refused line) is = tt
  refusal_accounts (Misused line) is = absurd is
  refusal_accounts (Missing name) is = absurd is
  refusal_accounts (LongFile name) is = absurd is
  refusal_accounts LongInput is = absurd is

  refused_so : (cause : Cause) (line : Text) → cause ≡ Refused line → Accounts cause
  refused_so cause line is = subst Accounts (sym is) tt

  usage_so : (given : Result Order UsageFault) (cause : Cause) → order_result given ≡ Halt cause → staged_order words ≡ Halt cause → Accounts cause
  usage_so (Ok order) cause is on = absurd (cc)
  usage_so (Err fault) cause is on =
      let same : Misused (usage_line fault) ≡ cause = cc in
      subst Accounts same (on ∙ ap Halt (sym same))

  -- If the next file to read is missing or too long, the cause is explained.
  of_found : (err_text name : Text) → IsNextToRead words files err_text name → (what : FileFound) → IsFound files name what → (cause : Cause) → Halt cause ≡ loaded name what → Accounts cause
  of_found err_text name turn NoFile is cause from = let same : Missing name ≡ cause = cc in subst Accounts same (err_text, name, turn, is)
  of_found err_text name turn Long is cause from = let same : LongFile name ≡ cause = cc in subst Accounts same (err_text, name, turn, is)
  of_found err_text name turn (Bytes bytes) is cause from = absurd (cc)

  -- If reading files one after another stops the work, the cause is explained. The files are of a form that may refuse
  -- a file.
  module _ {A : Type 0} (Spelled : Text → Text → StageResult A → Type 0) (refuses : (name bytes : Text) (cause : Cause) → Spelled name bytes (Halt cause) → Accounts cause) where
    of_read : (name : Text) → IsNextToRead words files [] name → (read : StageResult Text) → IsLoaded files name read → (cause : Cause) → AfterStage read (Spelled name) (Halt cause) → Accounts cause
    of_read name turn (Go bytes) told cause fault = refuses name bytes cause fault
    of_read name turn (Halt cause') told cause is =
        let same : cause' ≡ cause = cc in subst Accounts same (of_found [] name turn told.0 told.1 cause' told.2)

    of_files : (names : List Text) → ((name : Text) → IsNextFile files Spelled names name → IsNextToRead words files [] name) → (cause : Cause) → AreFileContents files Spelled names (Halt cause) → Accounts cause
    of_files [] turn cause is = absurd (cc)
    of_files (name ∷ names) turn cause is = at (λ inner halt are. of_files names inner halt are) is.0 is.1 is.2
      where
        after_first : (((next : Text) → IsNextFile files Spelled names next → IsNextToRead words files [] next) → (halt : Cause) → AreFileContents files Spelled names (Halt halt) → Accounts halt) → (x : A) → IsFileContent files Spelled name (Go x) → (rest : StageResult (List A)) → AreFileContents files Spelled names rest → AfterStage rest (λ xs. Gives (x ∷ xs)) (Halt cause) → Accounts cause
        after_first again x spelled (Go xs) are same = absurd (cc)
        after_first again x spelled (Halt cause') are same =
            let one : cause' ≡ cause = cc in
            subst Accounts one (again (λ next later. turn next (turn_later files Spelled name names next (x, spelled) later)) cause' are)

        at : (((next : Text) → IsNextFile files Spelled names next → IsNextToRead words files [] next) → (halt : Cause) → AreFileContents files Spelled names (Halt halt) → Accounts halt) → (first : StageResult A) → IsFileContent files Spelled name first → AfterStage first (λ x. Then (AreFileContents files Spelled names) (λ xs. Gives (x ∷ xs))) (Halt cause) → Accounts cause
        at again (Go x) spelled rest = after_first again x spelled rest.0 rest.1 rest.2
        at again (Halt cause') stage same =
            let one : cause' ≡ cause = cc in
            subst Accounts one (of_read name (turn name (turn_first files Spelled name names)) stage.0 stage.1 cause' stage.2)

  refused_module : (name bytes : Text) (cause : Cause) → IsModule name bytes (Halt cause) → Accounts cause
  refused_module name bytes cause fault = refused_so cause _ fault.cause_is

  refused_table : (name bytes : Text) (cause : Cause) → IsTableFile name bytes (Halt cause) → Accounts cause
  refused_table name bytes cause fault = refused_so cause _ fault.cause_is

  -- If the table file or the automaton of a grammar stops the work, the cause is explained.
  of_automaton : (source : AutomatonSource) (g : _) (s : _) → IsAutomatonStage source g s → (cause : Cause) → AfterStage s (IsResolvedStage (mode_of source) g) (Halt cause) → Accounts cause
  of_automaton source g (Go a) stage cause first = refused_so cause _ first.cause_is
  of_automaton Merged g (Halt cause') stage cause same = let one : cause' ≡ cause = cc in subst Accounts one (refused_so cause' _ stage.1)
  of_automaton Canonical g (Halt cause') stage cause same = let one : cause' ≡ cause = cc in subst Accounts one (refused_so cause' _ stage.1)
  of_automaton (File name raw) g (Halt cause') stage cause same = let one : cause' ≡ cause = cc in subst Accounts one (refused_so cause' _ stage.cause_is)

  of_table : (front : OrderAndGrammar) (source : AutomatonSource) (s : StageResult TabledAutomaton) → IsTableStage source front.grammar s → (cause : Cause) → AfterStage {B = Prepared} s (λ tabled. Gives (record { order = front.order; grammar = front.grammar; tabled = tabled })) (Halt cause) → Accounts cause
  of_table front source (Go tabled) stage cause same = absurd (cc)
  of_table front source (Halt cause') stage cause same = let one : cause' ≡ cause = cc in subst Accounts one (of_automaton source front.grammar stage.0 stage.1 cause' stage.2)

  of_source_by : (tables : Option Text) (canonical : Bool) → ((name : Text) → tables ≡ Some name → IsNextToRead words files [] name) → (cause : Cause) → IsAutomatonSourceBy tables canonical files (Halt cause) → Accounts cause
  of_source_by None canonical turn cause is = absurd (cc)
  of_source_by (Some name) canonical turn cause is = at is.0 is.1 is.2
    where
      at : (s : StageResult RawTable) → IsFileContent files IsTableFile name s → AfterStage s (λ raw. Gives (File name raw)) (Halt cause) → Accounts cause
      at (Go raw) file same = absurd (cc)
      at (Halt cause') file same = let one : cause' ≡ cause = cc in subst Accounts one (of_read IsTableFile refused_table name (turn name refl) file.0 file.1 cause' file.2)

  of_source : (front : OrderAndGrammar) → ((name : Text) → front.order.tables ≡ Some name → IsNextToRead words files [] name) → (s : StageResult AutomatonSource) → IsAutomatonSource files front.order s → (cause : Cause) → AfterStage s (IsPreparedFromSource front) (Halt cause) → Accounts cause
  of_source front turn (Go source) from cause rest = of_table front source rest.0 rest.1 cause rest.2
  of_source front turn (Halt cause') from cause same =
      let one : cause' ≡ cause = cc in
      subst Accounts one (of_source_by front.order.tables front.order.canonical turn cause' from)

  module _ (needs : NeedsTable words) where
    module _ (order : Order) (on : staged_order words ≡ Go order) where
      of_grammar : (modules : List Module) (s : StageResult _) → IsGrammarStage order.stdlib modules s → (cause : Cause) → AfterStage {B = OrderAndGrammar} s (λ grammar. Gives (record { order = order; grammar = grammar })) (Halt cause) → Accounts cause
      of_grammar modules (Go g) stage cause same = absurd (cc)
      of_grammar modules (Halt cause') stage cause same = let one : cause' ≡ cause = cc in subst Accounts one (refused_so cause' _ stage.2)

      -- If reading the modules of an order, from its sample or its files, stops the work, the cause is explained
      -- (`Accounts`).
      by_sample : (sample : Option ℕ) → ((name : Text) → IsNextFile files IsModule (names_to_read sample order.grammars) name → IsNextToRead words files [] name) → (cause : Cause) → AreModulesBy sample files order.grammars (Halt cause) → Accounts cause
      by_sample None turn cause are = of_files IsModule refused_module order.grammars turn cause are
      by_sample (Some number) turn cause are = at are.0 are.1 are.2
        where
          at : (first : StageResult Module) → IsModule sample_file (grammar_text number) first → AfterStage first (λ m. Gives (m ∷ [])) (Halt cause) → Accounts cause
          at (Go m) spells same = absurd (cc)
          at (Halt cause') fault same = let one : cause' ≡ cause = cc in subst Accounts one (refused_so cause' _ fault.cause_is)

      of_modules : (s : StageResult (List Module)) → AreModules files order s → (cause : Cause) → AfterStage {B = OrderAndGrammar} s (λ modules. Then (IsGrammarStage order.stdlib modules) (λ grammar. Gives (record { order = order; grammar = grammar }))) (Halt cause) → Accounts cause
      of_modules (Go modules) are cause rest = of_grammar modules rest.0 rest.1 cause rest.2
      of_modules (Halt cause') are cause same = let one : cause' ≡ cause = cc in subst Accounts one (by_sample (sample_of order.job) (λ name turn. OfGrammar needs order on turn refl) cause' are)

    of_front : (cause : Cause) → IsOrderAndGrammar words files (Halt cause) → Accounts cause
    of_front cause is = at (staged_order words) refl is
      where
        at : (s : StageResult Order) → staged_order words ≡ s → AfterStage {B = OrderAndGrammar} s (λ order. Then (AreModules files order) (λ modules. Then (IsGrammarStage order.stdlib modules) (λ grammar. Gives (record { order = order; grammar = grammar })))) (Halt cause) → Accounts cause
        at (Go order) on rest = of_modules order on rest.0 rest.1 cause rest.2
        at (Halt cause') on same = let one : cause' ≡ cause = cc in subst Accounts one (usage_so (spelled.order_of words) cause' on on)

    of_prepared : (cause : Cause) → IsPrepared words files (Halt cause) → Accounts cause
    of_prepared cause is = at is.0 is.1 is.2
      where
        at : (s : StageResult OrderAndGrammar) → IsOrderAndGrammar words files s → AfterStage s (IsPreparedFromFiles files) (Halt cause) → Accounts cause
        at (Go front) here rest = of_source front (λ name named. OfTables needs (front, here, named) refl) rest.0 rest.1 cause rest.2
        at (Halt cause') here same = let one : cause' ≡ cause = cc in subst Accounts one (of_front cause' here)

    -- ---- A cause with which the work ends after the warnings is explained.

    of_mode : (p : Prepared) (name : Text) (what : FileFound) (cause : Cause) → IsPrepared words files (Go p) → IsNextAfterWarnings files p name → IsFound files name what → loaded name what ≡ Halt cause → Accounts cause
    of_mode p name what cause prepared turn found halt = of_found (warnings_of p) name (OfMode needs p prepared turn refl) what found cause (sym halt)

    plan_right : (refused : Bool) (p : Prepared) (plan : Plan) → IsPrepared words files (Go p) → refused ≡ (p.order.strict && has_warning p.tabled.conflicts) → IsPlanUnlessRefused refused files p plan → EndsAllowed Accounts plan
    plan_right true p plan prepared test is = subst (EndsAllowed Accounts) (sym is) tt
    plan_right false p plan prepared test is = (mode_facts p.order.job (job_needs words files p prepared needs) p).allowed Accounts (λ line. tt) files plan (λ name what cause turn found halt. of_mode p name what cause prepared (subst (λ (b : Bool). IsNextUnlessRefused b files p name) test turn) found halt) is

    work_right : (s : StageResult Prepared) (w : Work) → IsPrepared words files s → IsWorkOf files s w → EndsAllowed Accounts w.plan
    work_right (Go p) w prepared is = plan_right (p.order.strict && has_warning p.tabled.conflicts) p w.plan prepared refl is.1
    work_right (Halt cause) w prepared is = subst (λ (x : Work). EndsAllowed Accounts x.plan) (sym is) (of_prepared cause prepared)

  -- If the examination of the grammar files stops the work, the cause is explained (`Accounts`).
  of_examination : (order : Order) → staged_order words ≡ Go order → order.job ≡ Check → (found : List GrammarFile) → AreFileContents files IsGrammarFile order.grammars (Go found) → (cause : Cause) → IsExamination files order found (Halt cause) → Accounts cause
  of_examination order on job found contents cause (stopped s accepted halt is other) =
      let rest : IsPreparedFromFiles files (front_of order s) (Halt cause) = is in
      of_source (front_of order s) (λ name named. OfCheck order on job (examination.IsNextOfCheck.OfTables found s contents accepted named) refl) rest.0 rest.1 cause rest.2

  check_stops : (order : Order) → staged_order words ≡ Go order → order.job ≡ Check → (cause : Cause) → AreExamined files order (Halt cause) → Accounts cause
  check_stops order on job cause are = at are.0 are.1 are.2
    where
      after_files : (found : List GrammarFile) → AreFileContents files IsGrammarFile order.grammars (Go found) → (s : StageResult (Bool × List Line)) → IsExamination files order found s → AfterStage {B = Examined} s (λ result. Gives (found, result)) (Halt cause) → Accounts cause
      after_files found contents (Go result) is same = absurd (cc)
      after_files found contents (Halt cause') is same = let one : cause' ≡ cause = cc in subst Accounts one (of_examination order on job found contents cause' is)

      at : (s : StageResult (List GrammarFile)) → AreFileContents files IsGrammarFile order.grammars s → AfterStage {B = Examined} s (λ found. Then (IsExamination files order found) (λ result. Gives (found, result))) (Halt cause) → Accounts cause
      at (Go found) contents rest = after_files found contents rest.0 rest.1 rest.2
      at (Halt cause') contents same =
          let one : cause' ≡ cause = cc in
          subst Accounts one (of_files IsGrammarFile (λ name bytes halt none. absurd none) order.grammars (λ name turn. OfCheck order on job (examination.IsNextOfCheck.OfGrammar turn) refl) cause' contents)

  check_right : (order : Order) → staged_order words ≡ Go order → order.job ≡ Check → (s : StageResult Examined) → AreExamined files order s → EndsAllowed Accounts (plan_of_check order s)
  check_right order on job (Go x) are = tt
  check_right order on job (Halt cause) are = check_stops order on job cause are

  asked_right : (w : Work) → IsWork words files w → EndsAllowed Accounts w.plan
  asked_right w (WithTable needs is) = work_right needs is.0 w is.1 is.2
  asked_right w (Examining order on job is) = subst (EndsAllowed Accounts) (sym is.plan.2) (check_right order on job is.plan.0 is.plan.1)

  answers_right : (plan : Plan) (lines : List Text) (text : Text) (next : Plan) → AnswersAll plan_behavior plan lines text next → EndsAllowed Accounts plan → EndsAllowed Accounts next
  answers_right plan [] text next all right = subst (EndsAllowed Accounts) (sym all.1) right
  answers_right plan (line ∷ lines) text next all right = answers_right all.2 lines all.1 next all.4 (answer_right Accounts (λ words. tt) plan line all.0 all.2 all.3 right)

  -- The explanation of the cause of an outcome: one of those above, or the input is over a limit.
  abbrev pub AccountsOn : Work → Option Text → Option Cause → Type 0
  AccountsOn w input None = ⊤
  AccountsOn w input (Some LongInput) = AsksLines w.plan × IsInputOverLimit (asks_of w.plan) input
  AccountsOn w input (Some cause) = Accounts cause

  on_input : (w : Work) (input : Option Text) (cause : Option Cause) → IsAllowed Accounts cause → AccountsOn w input cause
  on_input w input None is = tt
  on_input w input (Some (Refused line)) is = is
  on_input w input (Some (Misused line)) is = is
  on_input w input (Some (Missing name)) is = is
  on_input w input (Some (LongFile name)) is = is
  on_input w input (Some LongInput) is = absurd is

  past_asks : (asks : Asks) (input : Option Text) (lines : List Text) → AreAskedLines asks input lines false → asks ≡ NoLine → ⊥
  past_asks NoLine input lines is none = let same : false ≡ true = is.1 in absurd (cc)
  past_asks FirstLine input lines is none = absurd (cc)
  past_asks EachLine input lines is none = absurd (cc)

  past_input : (asks : Asks) (input : Option Text) (lines : List Text) → AreAskedLines asks input lines false → IsInputOverLimit asks input
  past_input asks None lines is = tt
  past_input NoLine (Some input) lines is = let same : false ≡ true = is.1 in absurd (cc)
  past_input FirstLine (Some input) lines is = is.1
  past_input EachLine (Some input) lines is = is.1

  outcome_right : (w : Work) (input : Option Text) (lines : List Text) (whole : Bool) (text : Text) (last : Plan) (cause : Option Cause) (out : Text) → AreAskedLines (asks_of w.plan) input lines whole → EndsAllowed Accounts last → EndsAfterAnswers plan_behavior whole last text cause out → AccountsOn w input cause
  outcome_right w input lines true text last cause out asks right ends = subst (AccountsOn w input) (sym ends.2) (on_input w input ends.0.cause (ends_right Accounts (λ line. tt) last ends.0 right ends.1))
  outcome_right w input lines false text last cause out asks right ends = subst (AccountsOn w input) (sym ends.0) (past_asks (asks_of w.plan) input lines asks, past_input (asks_of w.plan) input lines asks)

  pub ended : (w : Work) (input : Option Text) (o : Outcome) → IsWork words files w → HasOutcome plan_behavior w.plan input o → AccountsOn w input o.cause
  ended w input o asked yields =
      outcome_right w input yields.lines yields.complete yields.text yields.last o.cause o.out yields.asks
      (answers_right w.plan yields.lines yields.text yields.last yields.answers (asked_right w asked)) yields.ends

  -- If the words are misused, there are no warnings before the line that says so.
  misused_work : (line : Text) → staged_order words ≡ Halt (Misused line) → (s : StageResult Prepared) → IsPrepared words files s → (w : Work) → IsWorkOf files s w → w.warnings ≡ []
  misused_work line on (Halt cause) prepared w is = ap (λ (x : Work). x.warnings) is
  misused_work line on (Go p) prepared w is = absurd (no_front prepared.0 prepared.1 prepared.2)
    where
      no_order : (s : StageResult Order) → staged_order words ≡ s → (front : OrderAndGrammar) → AfterStage {B = OrderAndGrammar} s (λ order. Then (AreModules files order) (λ modules. Then (IsGrammarStage order.stdlib modules) (λ grammar. Gives (record { order = order; grammar = grammar })))) (Go front) → ⊥
      no_order (Go order) at front rest = let same : Halt (Misused line) ≡ Go order = sym on ∙ at in absurd (cc)
      no_order (Halt cause) at front rest = absurd (cc)

      no_front : (s : StageResult OrderAndGrammar) → IsOrderAndGrammar words files s → AfterStage s (IsPreparedFromFiles files) (Go p) → ⊥
      no_front (Go front) is rest = no_order (staged_order words) refl front is
      no_front (Halt cause) is rest = absurd (cc)

  pub misused_says : (w : Work) (o : Outcome) (line : Text) → staged_order words ≡ Halt (Misused line) → o.cause ≡ Some (Misused line) → IsWork words files w → text_on_err w o ≡ line
  misused_says w o line on cause (WithTable needs asked) =
      ap (λ (t : Text). t ++ last_line_of o.cause) (misused_work line on asked.0 asked.1 w asked.2) ∙ ap last_line_of cause
  misused_says w o line on cause (Examining order at job is) = (let never : Halt (Misused line) ≡ Go order = sym on ∙ at in absurd (cc))

-- ---- Files that cannot be read.

-- The outcome of a plan that ends at once has the cause of the plan.
halts_gives : (cause : Cause) (input : Option Text) (lines : List Text) (whole : Bool) (text : Text) (last : Plan) (given : Option Cause) (out : Text) → AreAskedLines NoLine input lines whole → AnswersAll plan_behavior (halts cause) lines text last → EndsAfterAnswers plan_behavior whole last text given out → given ≡ Some cause
halts_gives cause input [] true text last given out asks all ends =
    let end : EndsWith (halts cause) ends.0 = subst (λ (l : Plan). EndsWith l ends.0) all.1 ends.1 in
    ends.2 ∙ ap (λ (e : ModeEnd). e.cause) end
halts_gives cause input [] false text last given out asks all ends = let same : false ≡ true = asks.1 in absurd (cc)
halts_gives cause input (line ∷ lines) whole text last given out asks all ends = let same : line ∷ lines ≡ [] = asks.0 in absurd (cc)

yields_halts : (cause : Cause) (input : Option Text) (o : Outcome) → HasOutcome plan_behavior (halts cause) input o → o.cause ≡ Some cause
yields_halts cause input o y = halts_gives cause input y.lines y.complete y.text y.last o.cause o.out y.asks y.answers y.ends

module _ (words : List Text) (files : Files) where
  told : Option Files
  told = Some files

  module _ {A : Type 0} (Spelled : Text → Text → StageResult A → Type 0) where
    files_halt : (name : Text) (after : List Text) (cause : Cause) → IsFileContent (Some files) Spelled name (Halt cause) → (before : List Text) → All (HasContent (Some files) Spelled) before → AreFileContents (Some files) Spelled (before ++ name ∷ after) (Halt cause)
    files_halt name after cause is [] spelled = (Halt cause, is, refl)
    files_halt name after cause is (first ∷ before) spelled =
        let here : HasContent (Some files) Spelled first = All-head (HasContent (Some files) Spelled) first before spelled in
        (Go here.0, here.1, (Halt cause, files_halt name after cause is before (All-tail (HasContent (Some files) Spelled) first before spelled), refl))

    next_halts : (names : List Text) (name : Text) → IsNextFile (Some files) Spelled names name → (cause : Cause) → IsFileContent (Some files) Spelled name (Halt cause) → AreFileContents (Some files) Spelled names (Halt cause)
    next_halts names name turn cause is = subst (λ (l : List Text). AreFileContents (Some files) Spelled l (Halt cause)) (sym turn.names_are) (files_halt name turn.after cause is turn.before turn.spelled)

  -- If one of the grammar files stops the work, so do the modules.
  modules_halt : (sample : Option ℕ) (names : List Text) (name : Text) → IsNextFile (Some files) IsModule (names_to_read sample names) name → (cause : Cause) → IsFileContent (Some files) IsModule name (Halt cause) → AreModulesBy sample (Some files) names (Halt cause)
  modules_halt None names name turn cause is = next_halts IsModule names name turn cause is
  modules_halt (Some number) names name turn cause is = absurd (nil_not_split turn.before turn.after name turn.names_are)

  prepared_halts : (order : Order) → staged_order words ≡ Go order → (name : Text) → IsNextFile (Some files) IsModule (grammar_files order) name → (cause : Cause) → IsFileContent (Some files) IsModule name (Halt cause) → IsPrepared words (Some files) (Halt cause)
  prepared_halts order on name turn cause is =
      let are : AreModules (Some files) order (Halt cause) = modules_halt (sample_of order.job) order.grammars name turn cause is in
      let front : IsOrderAndGrammar words (Some files) (Halt cause) = subst (λ (o : StageResult Order). AfterStage {B = OrderAndGrammar} o (λ x. Then (AreModules (Some files) x) (λ modules. Then (IsGrammarStage x.stdlib modules) (λ grammar. Gives (record { order = x; grammar = grammar })))) (Halt cause)) (sym on) (Halt cause, are, refl) in
      (Halt cause, front, refl)

  -- If the table file stops the work, so do the stages before the warnings.
  source_halts : (front : OrderAndGrammar) (name : Text) → front.order.tables ≡ Some name → (cause : Cause) → IsFileContent (Some files) IsTableFile name (Halt cause) → IsPreparedFromFiles (Some files) front (Halt cause)
  source_halts front name named cause is =
      let source : IsAutomatonSource (Some files) front.order (Halt cause) = subst (λ (t : Option Text). IsAutomatonSourceBy t front.order.canonical (Some files) (Halt cause)) (sym named) (Halt cause, is, refl) in
      (Halt cause, source, refl)

  tables_halt : (name : Text) → IsTableFileNext words (Some files) name → (cause : Cause) → IsFileContent (Some files) IsTableFile name (Halt cause) → IsPrepared words (Some files) (Halt cause)
  tables_halt name (front, here, named) cause is = (Go front, here, source_halts front name named cause is)

  halted_work : NeedsTable words → (cause : Cause) (w : Work) (input : Option Text) (o : Outcome) → IsPrepared words (Some files) (Halt cause) → IsWork words (Some files) w → HasOutcome plan_behavior w.plan input o → o.cause ≡ Some cause
  halted_work needs cause w input o prepared is yields =
      let asked = tabled_work words (Some files) needs w is in
      let same : asked.0 ≡ Halt cause = prepared_once words files asked.0 (Halt cause) asked.1 prepared in
      let work_is : w ≡ record { warnings = []; plan = halts cause } = subst (λ (s : StageResult Prepared). IsWorkOf (Some files) s w) same asked.2 in
      yields_halts cause input o (subst (λ (x : Work). HasOutcome plan_behavior x.plan input o) work_is yields)

  halted_mode : (refused : Bool) (p : Prepared) → (p.order.job ≡ Check → ⊥) → (plan : Plan) (name : Text) (what : FileFound) (cause : Cause) → IsNextUnlessRefused refused (Some files) p name → IsFound (Some files) name what → loaded name what ≡ Halt cause → IsPlanUnlessRefused refused (Some files) p plan → plan ≡ halts cause
  halted_mode true p other plan name what cause turn found halt is = absurd turn
  halted_mode false p other plan name what cause turn found halt is = (mode_facts p.order.job other p).unread files name what cause plan turn found halt is

  -- If the next file to read is missing or too long, the examination of the grammar files stops with this cause.
  not_refused : (name : Text) (what : FileFound) (cause : Cause) → loaded name what ≡ Halt cause → (whole : Text) → cause ≡ Refused whole → ⊥
  not_refused name NoFile cause halt whole is = absurd (cc)
  not_refused name Long cause halt whole is = absurd (cc)
  not_refused name (Bytes bytes) cause halt whole is = absurd (cc)

  check_halts : (order : Order) (name : Text) → IsNextOfCheck order (Some files) name → (what : FileFound) (cause : Cause) → IsFound (Some files) name what → loaded name what ≡ Halt cause → AreExamined (Some files) order (Halt cause)
  check_halts order name (examination.IsNextOfCheck.OfGrammar turn) what cause found halt =
      (Halt cause, next_halts IsGrammarFile order.grammars name turn cause (Halt cause, (what, found, sym halt), refl), refl)
  check_halts order name (examination.IsNextOfCheck.OfTables read s contents accepted named) what cause found halt =
      let stop : IsExamination (Some files) order read (Halt cause) = stopped s accepted cause (source_halts (front_of order s) name named cause (Halt cause, (what, found, sym halt), refl)) (not_refused name what cause halt) in
      (Go read, contents, (Halt cause, stop, refl))

  -- If the next file to read is missing or too long, this is the cause of the outcome.
  due_gives : (w : Work) (input : Option Text) (o : Outcome) (front name : Text) (what : FileFound) (cause : Cause) → HasOutcome plan_behavior w.plan input o → IsWork words (Some files) w → IsNextToRead words (Some files) front name → IsFound (Some files) name what → loaded name what ≡ Halt cause → o.cause ≡ Some cause
  due_gives w input o front name what cause yields asked (OfGrammar needs order on turn front_is) found halt =
      halted_work needs cause w input o (prepared_halts order on name turn cause (Halt cause, (what, found, sym halt), refl)) asked yields
  due_gives w input o front name what cause yields asked (OfTables needs turn front_is) found halt =
      halted_work needs cause w input o (tables_halt name turn cause (Halt cause, (what, found, sym halt), refl)) asked yields
  due_gives w input o front name what cause yields is (OfMode needs p prepared turn front_is) found halt =
      let asked = tabled_work words (Some files) needs w is in
      let same : asked.0 ≡ Go p = prepared_once words files asked.0 (Go p) asked.1 prepared in
      let of : IsWorkOf (Some files) (Go p) w = subst (λ (s : StageResult Prepared). IsWorkOf (Some files) s w) same asked.2 in
      let plan_is : w.plan ≡ halts cause = halted_mode (p.order.strict && has_warning p.tabled.conflicts) p (job_needs words (Some files) p prepared needs) w.plan name what cause turn found halt of.1 in
      yields_halts cause input o (subst (λ (x : Plan). HasOutcome plan_behavior x input o) plan_is yields)
  due_gives w input o front name what cause yields (WithTable needs asked) (OfCheck order on job turn front_is) found halt = absurd (needs order on job)
  due_gives w input o front name what cause yields (Examining other so as_check is) (OfCheck order on job turn front_is) found halt =
      let same : Go other ≡ Go order = sym so ∙ on in
      let one : other ≡ order = cc in
      let of : IsCheckWork order (Some files) w = subst (λ (x : Order). IsCheckWork x (Some files) w) one is in
      let stops : of.plan.0 ≡ Halt cause = examined_once order files of.plan.0 (Halt cause) of.plan.1 (check_halts order name turn what cause found halt) in
      yields_halts cause input o (subst (λ (x : Plan). HasOutcome plan_behavior x input o) (of.plan.2 ∙ ap (plan_of_check order) stops) yields)

  pub missing_gives : (w : Work) (input : Option Text) (o : Outcome) → HasOutcome plan_behavior w.plan input o → IsWork words (Some files) w → NextFileIs words NoFile (Some files) → (name : Text) × (o.cause ≡ Some (Missing name))
  missing_gives w input o yields asked has = (has.1, due_gives w input o has.0 has.1 NoFile (Missing has.1) yields asked has.2 has.3 refl)

  pub long_gives : (w : Work) (input : Option Text) (o : Outcome) → HasOutcome plan_behavior w.plan input o → IsWork words (Some files) w → NextFileIs words Long (Some files) → (name : Text) × (o.cause ≡ Some (LongFile name))
  long_gives w input o yields asked has = (has.1, due_gives w input o has.0 has.1 Long (LongFile has.1) yields asked has.2 has.3 refl)
