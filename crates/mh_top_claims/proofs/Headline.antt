-- Proves the headline claims on a call of the whole program from the definition of a run (`Ran`).
use Rattle.std.proofs.Common.{◌≡◌, ◌⊎◌, inl, inr, ℕ, zero, suc, ◌+◌, ◌-◌, ◌<◌, Bool, true, false, ◌&&◌, List, [], ◌∷◌, ◌++◌, flat_map, length, take, Option, None, Some, Ok, refl, sym, ◌∙◌, ap, subst, arith}
use Rattle.std.specs.Prelude.{codes, nat_le}
use Rattle.std.specs.List.{AllByRecursion, AllZip, Contains}
use Rattle.std.proofs.lemmas.List.{append-nil, length-take}
use Rattle.std.proofs.lemmas.List.Elements.{All-from_recursion, All-take, recursion_from_All}
use Rattle.std.specs.Io.KnownBytes.{Appends}
use Rattle.mh_grammar.specs.Text.{Text}
use Rattle.mh_grammar.specs.declared.types.Grammar.{Grammar}
use Rattle.mh_grammar.specs.declared.types.Sentence.{Sentence}
use Rattle.mh_grammar.proofs.Lists.{recursion_contains}
use Rattle.mh_items_kernels.specs.KernelTypes.{Automaton}
use Rattle.mh_outside.specs.Shelf.{Files, Bytes}
use Rattle.mh_opts.specs.Orders.{order_of}
use Rattle.mh_opts.specs.declared.jobs.Job.{Job}
use Rattle.mh_opts.specs.declared.jobs.Job.TheVariants.{Check, CompileErrors, Interpret, ListErrors}
use Rattle.mh_opts.specs.declared.order.Order.{Order}
use Rattle.mh_tables_core.specs.Table.{TableData}
use Rattle.mh_tables_core.specs.Run.{Ending as Ended, Accepted, Overshot, Rejected, VerdictOf}
use Rattle.mh_tables_core.specs.TreeRuns.{TreeEnding, AcceptedTree, OvershotTree, RejectedTree, DeepTree, IsTreeEnding}
use Rattle.mh_tables_core.specs.Failing.{Catalogue, CatalogueRow, Fails, FailsFirst}
use Rattle.mh_tables_core.proofs.OneTreeEnding.{one_verdict}
use Rattle.mh_tables_core.proofs.RefusalIsCut.{verdict_cut}
use Rattle.mh_msgfile.specs.Sentences.{LineResult}
use Rattle.mh_msgfile.specs.declared.messages.MsgFile.{MsgFile}
use Rattle.mh_msgfile.proofs.MsgSpells.{spelled_has_no_fault, spelled_once}
use Rattle.mh_check.specs.Checks.{IsMessage, Sound, sentences_of}
use Rattle.mh_check.specs.Compiling.{IsCompiled, message_at}
use Rattle.mh_check.specs.Texts.{compiled_text}
use Rattle.mh_check.proofs.CheckedOnce.{sound_has_no_fault}
use Rattle.mh_report.specs.CatalogueTexts.{IsCatalogueText}
use Rattle.mh_top_drive.specs.InputLines.{are_within_limits, lines_of_input, lines_within_limits}
use Rattle.mh_top_drive.specs.Limits.{line_count_limit, line_limit}
use Rattle.mh_top_drive.specs.ModeBehavior.{AnswersAll, AreAskedLines, EndsAfterAnswers, HasOutcome, ModeEnd, Outcome}
use Rattle.mh_top_drive.specs.StageResults.{StageResult, Go, Halt, AfterStage, Gives}
use Rattle.mh_top_drive.specs.Statuses.{status_of}
use Rattle.mh_top_drive.specs.FileContents.{IsFileContent, IsFound, IsLoaded}
use Rattle.mh_top_drive.proofs.LoadedUnique.{loaded_once}
use Rattle.mh_top_drive.specs.declared.driving.Asks.TheVariants.{EachLine}
use Rattle.mh_top_drive.specs.declared.stop.Cause.{Cause}
use Rattle.mh_top_drive.specs.declared.stop.Cause.TheVariants.{Refused, Misused, Missing, LongFile, LongInput}
use Rattle.mh_top_load.specs.Modules.{sample_of}
use Rattle.mh_top_load.specs.Order.{order_result}
use Rattle.mh_top_plans.specs.FinalText.{end_of_final_text}
use Rattle.mh_top_plans.specs.Listing.{ListsErrors, Lists, TooLong}
use Rattle.mh_top_plans.specs.MessagesFiles.{AreMessages, AreMessagesOf, IsMessagesFile, Messages}
use Rattle.mh_top_plans.specs.Plan.{AreOptionalMessages, Ends, EndsWith, Errors, IsPlanOfJob, Judges, Known, Plan, halts, judging_plan, plan_behavior, plan_of_stage, writing_plan}
use Rattle.mh_top_plans.specs.Verdicts.{VerdictContext, IsAnswerToFound, IsAnswerToLine, IsAnswerWithTrees, IsEndingText, IsRefusalWithTokens, IsSentenceAnswer, IsTreeText, message_or_none, refusal_text}
use Rattle.mh_top_plans.specs.declared.at_end.FinalText.TheVariants.{Written}
use Rattle.mh_top_drive.specs.Shapes.{Prepared}
use Rattle.mh_top_prepare.specs.Warnings.{has_warning}
use Rattle.mh_top_claims.specs.GivesTable.{GivesTable, IsAccepted}
use Rattle.mh_top_claims.specs.Headline.{GivesMessages, HasMessage, IsRefusedIn, IsSoundFile, ListsErrorStates, ListsErrorsOfTable, TakesSoundFiles}
use Rattle.mh_top_claims.specs.Preparing.{IsPrepared}
use Rattle.mh_top_claims.specs.Run.{World, DoesWork}
use Rattle.mh_top_claims.specs.Run as runs
use Rattle.mh_top_claims.specs.Work.{Work, IsPlanUnlessRefused, IsPreparedWork, IsWork, IsWorkOf}
use Rattle.mh_top_claims.proofs.Claims.{does_work_without_fault, done_if_status_without_fault}
use Rattle.mh_top_claims.proofs.FinalOutputOutcome.{yields_end}
use Rattle.mh_top_claims.proofs.GivesTable.{accepted, accepted_prepared, prepared_gives}
use Rattle.mh_top_claims.proofs.PreparationStages.{found_bytes, stages}
use Rattle.mh_top_claims.proofs.PreparedUnique.{prepared_once}
use Rattle.mh_top_claims.proofs.PreparedWork.{order_needs, prepared_work, tabled_work}

-- ---- States in which some sentence is refused.

module _ (t : TableData) where
  abbrev IsToken : ℕ → Type 0
  IsToken z = z < t.grammar.tokens

  -- A sentence that is refused fails at its last token without the tokens after the refused one.
  cut_fails : (start : ℕ) (w : List ℕ) (at s : ℕ) → start < length t.grammar.starts → AllByRecursion IsToken w → VerdictOf t start w (Rejected at s) → Fails t start (take (at + 1) w) s
  cut_fails start w at s known tokens verdict =
      let cut = verdict_cut t start w at s verdict in
      let within : at < length w = cut.0 in
      let size : length (take (at + 1) w) ≡ at + 1 = omega (arith, within, length-take (at + 1) w) in
      let place : at ≡ length (take (at + 1) w) - 1 = omega (arith, size) in
      record {
        sentence = record { known = known; tokens = recursion_from_All IsToken (take (at + 1) w) (All-take IsToken (at + 1) w (All-from_recursion IsToken w tokens)) };
        some_token = omega (arith, size);
        verdict = subst (λ (k : ℕ). VerdictOf t start (take (at + 1) w) (Rejected k s)) place cut.1;
      }

  module _ (rows : List CatalogueRow) (catalogue : Catalogue t rows) (s : ℕ) where
    refused_is_listed : IsRefusedIn t s → (row : CatalogueRow) × Contains rows row × (row.state ≡ s)
    refused_is_listed is = catalogue.complete s (is.0, take (is.2 + 1) is.1, cut_fails is.0 is.1 is.2 s is.3.known is.3.tokens is.4)

    listed_is_refused : (row : CatalogueRow) × Contains rows row × (row.state ≡ s) → IsRefusedIn t s
    listed_is_refused is =
        let row = is.0 in
        let first = recursion_contains (λ (r : CatalogueRow). FailsFirst t r.start r.sentence r.state) rows catalogue.each row is.1 in
        subst (IsRefusedIn t) is.2 (row.start, row.sentence, length row.sentence - 1, first.fails.sentence, first.fails.verdict)

lists_states : (expected : Bool) (g : Grammar) (a : Automaton) (t : TableData) (text : Text) → IsCatalogueText expected g a t text → ListsErrorStates expected g a t text
lists_states expected g a t text is = record {
  rows = is.rows;
  entries = is.entries;
  rising = is.catalogue.rising;
  each = is.catalogue.each;
  states = λ s. (refused_is_listed t is.rows is.catalogue s, listed_is_refused t is.rows is.catalogue s);
}

listed : (expected : Bool) (g : Grammar) (a : Automaton) (t : TableData) (cause : Option Cause) (out : Text) → ListsErrors expected g a t cause out → cause ≡ None → ListsErrorStates expected g a t out
listed expected g a t cause out (Lists none cause_is list) ended = lists_states expected g a t out list
listed expected g a t cause out (TooLong s long cause_is empty) ended = absurd (cc)

-- ---- Sound messages files.

module _ (files : Option Files) (g : Grammar) (t : TableData) (name : Text) where
  record HasCompiled (messages : Messages) : Type 0 where
    file : MsgFile
    sound : IsSoundFile files g t name file
    compiled : IsCompiled t file messages

  -- If a stage reads messages from the named file, the file is sound, and the messages are compiled from the file.
  compiled_file : (messages : Messages) → IsFileContent files (AreMessages g t) name (Go messages) → HasCompiled messages
  compiled_file messages is = at is.0 is.1 is.2
    where
      of_file : (bytes : Text) → IsFound files name (Bytes bytes) → (s : StageResult MsgFile) → IsMessagesFile g name bytes s → AfterStage s (AreMessagesOf t name) (Go messages) → HasCompiled messages
      of_file bytes found (Go file) spells compiled = record { file = file; sound = record { bytes = bytes; found = found; spells = spells; sound = compiled.sound }; compiled = compiled }
      of_file bytes found (Halt cause) fault same = absurd (cc)

      at : (read : StageResult Text) → IsLoaded files name read → AfterStage read (AreMessages g t name) (Go messages) → HasCompiled messages
      at (Go bytes) loads more = of_file bytes (found_bytes files name bytes loads) more.0 more.1 more.2
      at (Halt cause) loads same = absurd (cc)

-- A sound file is not refused.
never_refused : (files : Files) (g : Grammar) (t : TableData) (name : Text) (file : MsgFile) → IsSoundFile (Some files) g t name file → (cause : Cause) → IsFileContent (Some files) (AreMessages g t) name (Halt cause) → ⊥
never_refused files g t name file is cause content = at content.0 (loaded_once files name content.0 (Go is.bytes) content.1 (Bytes is.bytes, is.found, refl)) content.2
  where
    of_file : (s : StageResult MsgFile) → IsMessagesFile g name is.bytes s → AfterStage s (AreMessagesOf t name) (Halt cause) → ⊥
    of_file (Go other) spells fault =
        let one : file ≡ other = spelled_once g is.bytes file other is.spells spells in
        sound_has_no_fault t (sentences_of other) fault.fault (subst (λ (f : MsgFile). Sound t (sentences_of f)) one is.sound) fault.first
    of_file (Halt why) fault same = spelled_has_no_fault g is.bytes file fault.fault is.spells fault.has_fault

    at : (read : StageResult Text) → read ≡ Go is.bytes → AfterStage read (AreMessages g t name) (Halt cause) → ⊥
    at read one more = let checked : AreMessages g t name is.bytes (Halt cause) = subst (λ (r : StageResult Text). AfterStage r (AreMessages g t name) (Halt cause)) one more in of_file checked.0 checked.1 checked.2

-- ---- If the input is within the limits, each of its lines has an answer.

all_lines : (limit max : ℕ) (lines : List Text) → are_within_limits limit max lines ≡ true → lines_within_limits limit max lines ≡ lines
all_lines limit max [] fit = refl
all_lines limit zero (line ∷ lines) fit = absurd (cc)
all_lines limit (suc max) (line ∷ lines) fit = at (nat_le (length line) limit) refl fit (λ rest. all_lines limit max lines rest)
  where
    at : (b : Bool) → nat_le (length line) limit ≡ b → (b && are_within_limits limit max lines) ≡ true → (are_within_limits limit max lines ≡ true → lines_within_limits limit max lines ≡ lines) → lines_within_limits limit (suc max) (line ∷ lines) ≡ line ∷ lines
    at true short rest later = rw short (ap (λ (l : List Text). line ∷ l) (later rest))
    at false long rest later = absurd (cc)

module _ (by : VerdictContext) where
  -- The text of the answers to lines consists of one answer for each line.
  split_answers : (lines : List Text) (text : Text) (last : Plan) → AnswersAll plan_behavior (Judges by) lines text last → (answers : List Text) × AllZip (IsAnswerToLine by) lines answers × (text ≡ flat_map (λ answer. answer) answers) × (last ≡ Judges by)
  split_answers [] text last all = ([], tt, all.0, all.1)
  split_answers (line ∷ lines) text last all =
      let rest = split_answers lines all.1 last (subst (λ (m : Plan). AnswersAll plan_behavior m lines all.1 last) all.3.1 all.4) in
      (all.0 ∷ rest.0, (all.3.0, rest.1), all.5 ∙ ap (λ (t : Text). all.0 ++ t) rest.2, rest.3)

  -- The text of a mode that ended without a cause, and the lines that it answered.
  record HasAnswers (input text : Text) : Type 0 where
    answers : List Text
    each : AllZip (IsAnswerToLine by) (lines_of_input input) answers
    text_is : text ≡ flat_map (λ answer. answer) answers

  has_answers : (input : Text) (o : Outcome) → HasOutcome plan_behavior (Judges by) (Some input) o → o.cause ≡ None → HasAnswers input o.out
  has_answers input o y none = at y.complete y.asks y.ends
    where
      at : (whole : Bool) → AreAskedLines EachLine (Some input) y.lines whole → EndsAfterAnswers plan_behavior whole y.last y.text o.cause o.out → HasAnswers input o.out
      at false asks ends = let never : None ≡ Some LongInput = sym none ∙ ends.0 in absurd (cc)
      at true asks ends =
          let all = split_answers y.lines y.text y.last y.answers in
          let end : EndsWith (Judges by) ends.0 = subst (λ (m : Plan). EndsWith m ends.0) all.3 ends.1 in
          let out_is : o.out ≡ y.text = ends.3 ∙ ap (λ (e : ModeEnd). y.text ++ e.out) end ∙ append-nil y.text in
          let lines : y.lines ≡ lines_of_input input = sym asks.0 ∙ all_lines line_limit line_count_limit (lines_of_input input) asks.1 in
          record { answers = all.0; each = subst (λ (l : List Text). AllZip (IsAnswerToLine by) l all.0) lines all.1; text_is = out_is ∙ all.2 }

  module _ (order : Order) (file : MsgFile) (messages : Messages) (compiled : IsCompiled by.table file messages) (trees : by.trees ≡ order.show_cst) (bare : by.expected ≡ false) (given : by.messages ≡ Some messages) where
    module _ (s : Sentence) (at state : ℕ) (message : Text) (verdict : VerdictOf by.table s.start s.tokens (Rejected at state)) (is : IsMessage by.table file state message) where
      abbrev IsMessageText : Text → Type 0
      IsMessageText answer = answer ≡ codes "REJECT\n" ++ message

      said : (place top : ℕ) (answer : Text) → Rejected place top ≡ Rejected at state → IsRefusalWithTokens by.expected by s place top answer → IsMessageText answer
      said place top answer same text =
          let here : top ≡ state = cc in
          let plain : answer ≡ refusal_text by.messages top = subst (λ (b : Bool). IsRefusalWithTokens b by s place top answer) bare text in
          let named : message_at messages state ≡ Some message = (compiled.messages state message).1 is in
          plain ∙ ap (λ (m : Option Messages). refusal_text m top) given ∙ ap (λ (k : ℕ). refusal_text (Some messages) k) here ∙ ap (λ (m : Option Text). codes "REJECT\n" ++ message_or_none state m) named

      by_verdict : (how : Ended) (answer : Text) → VerdictOf by.table s.start s.tokens how → IsEndingText by s how answer → IsMessageText answer
      by_verdict (Accepted read) answer other text = let same : Accepted read ≡ Rejected at state = one_verdict by.table s.start s.tokens (Accepted read) (Rejected at state) other verdict in absurd (cc)
      by_verdict (Overshot top) answer other text = let same : Overshot top ≡ Rejected at state = one_verdict by.table s.start s.tokens (Overshot top) (Rejected at state) other verdict in absurd (cc)
      by_verdict (Rejected place top) answer other text = said place top answer (one_verdict by.table s.start s.tokens (Rejected place top) (Rejected at state) other verdict) text

      by_trees : (how : TreeEnding) (answer : Text) → IsTreeEnding by.table s.start s.tokens how → IsTreeText by s how answer → IsMessageText answer ⊎ (answer ≡ codes "TOODEEP\n")
      by_trees (AcceptedTree read tree) answer other text =
          let same : Accepted read ≡ Rejected at state = one_verdict by.table s.start s.tokens (Accepted read) (Rejected at state) (other.0.left.steps, other.0.left.ends) verdict in absurd (cc)
      by_trees (OvershotTree top) answer other text = let same : Overshot top ≡ Rejected at state = one_verdict by.table s.start s.tokens (Overshot top) (Rejected at state) other.0 verdict in absurd (cc)
      by_trees (RejectedTree place top) answer other text = inl (said place top answer (one_verdict by.table s.start s.tokens (Rejected place top) (Rejected at state) other.0 verdict) text)
      by_trees DeepTree answer other text = inr text

      by_choice : (shown : Bool) (answer : Text) → by.trees ≡ shown → IsAnswerWithTrees shown by s answer → IsMessageText answer ⊎ ((order.show_cst ≡ true) × (answer ≡ codes "TOODEEP\n"))
      by_choice false answer on text = inl (by_verdict text.0 answer text.1 text.2)
      by_choice true answer on text = elim (by_trees text.0 answer text.1 text.2) [ inl message_text ↦ inl message_text | inr deep ↦ inr (sym trees ∙ on, deep) ]

    has_message : (line answer : Text) → IsAnswerToLine by line answer → HasMessage order by.grammar by.table file line answer
    has_message line answer is s at state message sentence verdict names =
        by_choice s at state message verdict names by.trees answer refl (subst (λ (f : LineResult). IsAnswerToFound (IsSentenceAnswer by) f answer) sentence is)

    have_messages : (lines answers : List Text) → AllZip (IsAnswerToLine by) lines answers → AllZip (HasMessage order by.grammar by.table file) lines answers
    have_messages [] [] all = tt
    have_messages [] (answer ∷ answers) all = absurd all
    have_messages (line ∷ lines) [] all = absurd all
    have_messages (line ∷ lines) (answer ∷ answers) all = (has_message line answer all.0, have_messages lines answers all.1)

-- ---- Work that ended with status 0 ended without a cause.

no_cause : (cause : Option Cause) → status_of cause ≡ 0 → cause ≡ None
no_cause None is = refl
no_cause (Some (Refused line)) is = absurd (omega arith)
no_cause (Some (Misused line)) is = absurd (omega arith)
no_cause (Some (Missing name)) is = absurd (omega arith)
no_cause (Some (LongFile name)) is = absurd (omega arith)
no_cause (Some LongInput) is = absurd (omega arith)

-- A plan that ends at once has its cause.
has_cause : (cause : Cause) (plan : Plan) (input : Option Text) (o : Outcome) → plan ≡ halts cause → HasOutcome plan_behavior plan input o → o.cause ≡ None → ⊥
has_cause cause plan input o is yields none =
    let ends = yields_end (Known (record { cause = Some cause; out = [] })) input o (subst (λ (l : Plan). HasOutcome plan_behavior l input o) is yields) in
    let never : None ≡ Some cause = sym none ∙ ap (λ (e : ModeEnd). e.cause) ends in absurd (cc)

module _ (words : List Text) (b a : World) (status : ℕ) where
  -- The prepared table and the plan of work that ended without a cause.
  record IsDone (order : Order) : Type 0 where
    p : Prepared
    prepared : IsPrepared words b.files (Go p)
    order_is : p.order ≡ order
    plan : Plan
    is_plan : IsPlanOfJob p.order.job b.files p plan
    outcome : Outcome
    yields : HasOutcome plan_behavior plan b.left outcome
    ended : outcome.cause ≡ None
    on_out : Appends b.out a.out outcome.out

  module _ (ran : runs.Ran words b a status) where
    done : (order : Order) → order_of words ≡ Ok order → (order.job ≡ Check → ⊥) → status ≡ 0 → IsDone order
    done order asked other is = at (done_if_status_without_fault words b a status ran (inl is)).1
      where
        of_plan : (refused : Bool) (p : Prepared) (plan : Plan) (o : Outcome) → IsPlanUnlessRefused refused b.files p plan → HasOutcome plan_behavior plan b.left o → o.cause ≡ None → IsPlanOfJob p.order.job b.files p plan
        of_plan true p plan o is_plan yields none = absurd (has_cause (Refused []) plan b.left o is_plan yields none)
        of_plan false p plan o is_plan yields none = is_plan

        of_stage : (does : DoesWork words b a status) → does.outcome.cause ≡ None → (s : StageResult Prepared) → IsPrepared words b.files s → IsWorkOf b.files s does.work → IsDone order
        of_stage does none (Go p) prepared work =
            let both : Ok p.order ≡ Ok order = sym (stages words b.files p prepared).order_is ∙ asked in
            let one : p.order ≡ order = cc in
            record {
              p = p;
              prepared = prepared;
              order_is = one;
              plan = does.work.plan;
              is_plan = of_plan (p.order.strict && has_warning p.tabled.conflicts) p does.work.plan does.outcome work.1 does.yields none;
              outcome = does.outcome;
              yields = does.yields;
              ended = none;
              on_out = does.on_out;
            }
        of_stage does none (Halt cause) prepared work = absurd (has_cause cause does.work.plan b.left does.outcome (ap (λ (w : Work). w.plan) work) does.yields none)

        at : DoesWork words b a status → IsDone order
        at does =
            let needs = order_needs words order (ap order_result asked) other in
            let of : IsPreparedWork words b.files does.work = tabled_work words b.files needs does.work does.is_asked in
            of_stage does (no_cause does.outcome.cause (sym does.status_is ∙ is)) of.0 of.1 of.2

    -- The table of this work is the one that the words and the files give.
    gives : (order : Order) (d : IsDone order) → sample_of order.job ≡ None → GivesTable words b.files order d.p.grammar d.p.tabled.automaton d.p.tabled.halting
    gives order d none =
        subst (λ (o : Order). GivesTable words b.files o d.p.grammar d.p.tabled.automaton d.p.tabled.halting) d.order_is
        (prepared_gives words b.files d.p d.prepared (ap (λ (o : Order). sample_of o.job) d.order_is ∙ none))

    -- The plan is that of the job of the order.
    plan_of : (order : Order) (job : Job) → order.job ≡ job → (d : IsDone order) → IsPlanOfJob job b.files d.p d.plan
    plan_of order job is d = subst (λ (j : Job). IsPlanOfJob j b.files d.p d.plan) (ap (λ (o : Order). o.job) d.order_is ∙ is) d.is_plan

    -- ---- The claims.

    pub lists_errors : ListsErrorsOfTable words b a status
    lists_errors order asked job is =
        let d = done order asked (λ e. (let never = sym job ∙ e in cc)) is in
        let ends : d.plan ≡ Ends (Errors d.p) = plan_of order ListErrors job d in
        let list : ListsErrors d.p.order.comment_expected d.p.grammar d.p.tabled.automaton d.p.tabled.halting d.outcome.cause d.outcome.out = yields_end (Errors d.p) b.left d.outcome (subst (λ (l : Plan). HasOutcome plan_behavior l b.left d.outcome) ends d.yields) in (
          d.p.grammar,
          d.p.tabled.automaton,
          d.p.tabled.halting,
          gives order d (ap sample_of job),
          (
            d.outcome.out,
            subst (λ (o : Order). ListsErrorStates o.comment_expected d.p.grammar d.p.tabled.automaton d.p.tabled.halting d.outcome.out) d.order_is
                (listed d.p.order.comment_expected d.p.grammar d.p.tabled.automaton d.p.tabled.halting d.outcome.cause d.outcome.out list d.ended),
            d.on_out,
          ),
        )

    -- If compiling the messages did not stop the work, the named file is sound.
    taken : (order : Order) (name : Text) (d : IsDone order) → IsPlanOfJob (CompileErrors name) b.files d.p d.plan → (file : MsgFile) × IsSoundFile b.files d.p.grammar d.p.tabled.halting name file
    taken order name d is = at is.0 is.1 is.2
      where
        at : (s : StageResult Messages) → IsFileContent b.files (AreMessages d.p.grammar d.p.tabled.halting) name s → d.plan ≡ plan_of_stage (λ (messages : Messages). writing_plan (Written (compiled_text messages))) s → (file : MsgFile) × IsSoundFile b.files d.p.grammar d.p.tabled.halting name file
        at (Go messages) content plan = let c = compiled_file b.files d.p.grammar d.p.tabled.halting name messages content in (c.file, c.sound)
        at (Halt cause) content plan = absurd (has_cause cause d.plan b.left d.outcome plan d.yields d.ended)

    module _ (order : Order) (name : Text) (job : order.job ≡ CompileErrors name) (files : Files) (known : b.files ≡ Some files) (g : Grammar) (automaton : Automaton) (t : TableData) (file : MsgFile) (is : IsAccepted words (Some files) order g automaton t) (sound : IsSoundFile (Some files) g t name file) where
      abbrev subject : Prepared
      subject = accepted words (Some files) order g automaton t is

      plan_to_compile : (refused : Bool) (plan : Plan) → refused ≡ false → IsPlanUnlessRefused refused (Some files) subject plan → IsPlanOfJob (CompileErrors name) (Some files) subject plan
      plan_to_compile true plan kept is_plan = absurd (cc)
      plan_to_compile false plan kept is_plan = subst (λ (j : Job). IsPlanOfJob j (Some files) subject plan) job is_plan

      work_to_compile : (s : StageResult Prepared) (w : Work) → s ≡ Go subject → IsWorkOf (Some files) s w → IsPlanOfJob (CompileErrors name) (Some files) subject w.plan
      work_to_compile s w one work = plan_to_compile (order.strict && has_warning is.conflicts) w.plan is.kept (subst (λ (r : StageResult Prepared). IsWorkOf (Some files) r w) one work).1

      compiles : (plan : Plan) (o : Outcome) → IsPlanOfJob (CompileErrors name) (Some files) subject plan → HasOutcome plan_behavior plan b.left o → o.cause ≡ None
      compiles plan o is_plan yields = at is_plan.0 is_plan.1 is_plan.2
        where
          at : (s : StageResult Messages) → IsFileContent (Some files) (AreMessages g t) name s → plan ≡ plan_of_stage (λ (messages : Messages). writing_plan (Written (compiled_text messages))) s → o.cause ≡ None
          at (Go messages) content same = ap (λ (e : ModeEnd). e.cause) (yields_end (Known (end_of_final_text (Written (compiled_text messages)))) b.left o (subst (λ (l : Plan). HasOutcome plan_behavior l b.left o) same yields))
          at (Halt cause) content same = absurd (never_refused files g t name file sound cause content)

      takes_done : DoesWork words b a status → status ≡ 0
      takes_done does =
          let prepared = accepted_prepared words (Some files) order g automaton t is (ap sample_of job) in
          let asked = prepared_work words (Some files) subject prepared (λ e. (let never = sym job ∙ e in cc)) does.work (subst (λ (f : Option Files). IsWork words f does.work) known does.is_asked) in
          let one : asked.0 ≡ Go subject = prepared_once words files asked.0 (Go subject) asked.1 prepared in
          does.status_is ∙ ap status_of (compiles does.work.plan does.outcome (work_to_compile asked.0 does.work one asked.2) does.yields)

      takes : (status ≡ 6) ⊎ DoesWork words b a status → (status ≡ 0) ⊎ (status ≡ 6)
      takes (inl six) = inr six
      takes (inr does) = inl (takes_done does)

    pub takes_sound_files : TakesSoundFiles words b a status
    takes_sound_files order name asked job = (
      (λ is. let d = done order asked (λ e. (let never = sym job ∙ e in cc)) is in (d.p.grammar, d.p.tabled.automaton, d.p.tabled.halting, gives order d (ap sample_of job), taken order name d (plan_of order (CompileErrors name) job d))),
      (λ calm files known g automaton t file is sound. takes order name job files known g automaton t file is sound (does_work_without_fault words b a status ran calm)),
    )

    module _ (order : Order) (name input : Text) (named : order.messages ≡ Some name) (bare : order.show_expected ≡ false) (known : b.left ≡ Some input) (d : IsDone order) where
      abbrev Answered : Type 0
      Answered = (file : MsgFile) × IsSoundFile b.files d.p.grammar d.p.tabled.halting name file
          × ((answers : List Text) × AllZip (HasMessage order d.p.grammar d.p.tabled.halting file) (lines_of_input input) answers × Appends b.out a.out (flat_map (λ answer. answer) answers))

      answers_by : (messages : Messages) → IsFileContent b.files (AreMessages d.p.grammar d.p.tabled.halting) name (Go messages) → d.plan ≡ judging_plan d.p (Some messages) → Answered
      answers_by messages content plan =
          let by : VerdictContext = record { trees = d.p.order.show_cst; expected = d.p.order.show_expected; grammar = d.p.grammar; table = d.p.tabled.halting; messages = Some messages } in
          let c = compiled_file b.files d.p.grammar d.p.tabled.halting name messages content in
          let yields : HasOutcome plan_behavior (Judges by) (Some input) d.outcome = subst (λ (l : Plan). HasOutcome plan_behavior l (Some input) d.outcome) plan (subst (λ (i : Option Text). HasOutcome plan_behavior d.plan i d.outcome) known d.yields) in
          let all = has_answers by input d.outcome yields d.ended in
          let each = have_messages by order c.file messages c.compiled (ap (λ (o : Order). o.show_cst) d.order_is) (ap (λ (o : Order). o.show_expected) d.order_is ∙ bare) refl (lines_of_input input) all.answers all.each in
          (c.file, c.sound, (all.answers, each, subst (λ (t : Text). Appends b.out a.out t) all.text_is d.on_out))

      answers_by_option : (m : Option Messages) (first : StageResult Messages) → IsFileContent b.files (AreMessages d.p.grammar d.p.tabled.halting) name first → AfterStage first (λ (messages : Messages). Gives (Some messages)) (Go m) → d.plan ≡ judging_plan d.p m → Answered
      answers_by_option m (Go messages) content same plan = let one : m ≡ Some messages = cc in answers_by messages content (plan ∙ ap (judging_plan d.p) one)
      answers_by_option m (Halt cause) content same plan = absurd (cc)

      answers_by_stage : (s : StageResult (Option Messages)) → AreOptionalMessages (Some name) b.files d.p s → d.plan ≡ plan_of_stage (judging_plan d.p) s → Answered
      answers_by_stage (Go m) messages plan = answers_by_option m messages.0 messages.1 messages.2 plan
      answers_by_stage (Halt cause) messages plan = absurd (has_cause cause d.plan b.left d.outcome plan d.yields d.ended)

      answered : IsPlanOfJob Interpret b.files d.p d.plan → Answered
      answered is =
          let file_is : d.p.order.messages ≡ Some name = ap (λ (o : Order). o.messages) d.order_is ∙ named in
          answers_by_stage is.0 (subst (λ (n : Option Text). AreOptionalMessages n b.files d.p is.0) file_is is.1) is.2

    pub gives_messages : GivesMessages words b a status
    gives_messages order name input asked job named bare known is =
        let d = done order asked (λ e. (let never = sym job ∙ e in cc)) is in
        let r = answered order name input named bare known d (plan_of order Interpret job d) in
        (d.p.grammar, d.p.tabled.automaton, d.p.tabled.halting, r.0, gives order d (ap sample_of job), r.1, r.2)
