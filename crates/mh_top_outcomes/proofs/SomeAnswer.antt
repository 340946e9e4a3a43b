-- Proves, as a double negation, that each line has an answer: a line that is judged, a line that is explained, and a
-- command of a session.
use Rattle.std.proofs.Common.{◌≡◌, ℕ, ◌+◌, ◌-◌, ◌<◌, ◌≤◌, inl, inr, Bool, true, false, List, [], ◌++◌, length, take, Option, Some, None, Ok, Err, refl, sym, ap, subst, ◌∙◌, arith}
use Rattle.std.specs.Prelude.{codes}
use Rattle.std.specs.List.{All, AllByRecursion}
use Rattle.std.proofs.lemmas.Bool.{cases_eq, cond-true, cond-false}
use Rattle.std.proofs.lemmas.List.Elements.{All-nil}
use Rattle.mh_grammar.proofs.TextEquality.{same_cases, same_refl}
use Rattle.mh_grammar.specs.Text.{Text}
use Rattle.mh_grammar.specs.declared.types.Grammar.{Grammar}
use Rattle.mh_grammar.specs.declared.types.Sentence.{Sentence}
use Rattle.mh_grammar.specs.Plain.{PlainGrammar, plain_of}
use Rattle.mh_grammar.specs.NotLacking.{NotLacking}
use Rattle.mh_grammar.proofs.NotLacking.{given, chain, decided}
use Rattle.mh_tables_core.specs.Table.{TableData}
use Rattle.mh_tables_core.specs.Halting.{HaltingFacts}
use Rattle.mh_tables_core.specs.Run.{Ending, Accepted, Overshot, Rejected, VerdictOf}
use Rattle.mh_tables_core.specs.TreeRuns.{TreeEnding, AcceptedTree, OvershotTree, RejectedTree, DeepTree, IsTreeEnding, IsTooDeep}
use Rattle.mh_tables_core.proofs.RunEnds.{has_verdict}
use Rattle.mh_tables_core.proofs.IsTreeOfRead.{accepted_tree}
use Rattle.mh_check.specs.Texts.{ending_text, early_text}
use Rattle.mh_engine.specs.Branches.{Branch, new_branch, position_of, with_token, with_step}
use Rattle.mh_engine.specs.Feeding.{Feeding, phase_in, HasStopped, IsFed, IsFedTooDeep}
use Rattle.mh_engine.specs.Phases.{CanOffer, CanResume}
use Rattle.mh_engine.specs.declared.phase.Phase.{Phase}
use Rattle.mh_engine.specs.declared.phase.Phase.TheVariants as phases
use Rattle.mh_engine.proofs.BranchPosition.{HasPosition-start}
use Rattle.mh_engine.proofs.Resumed.{asking_left}
use Rattle.mh_expected.specs.Expected.{ExpectedTokens, IsExpected}
use Rattle.mh_msgfile.specs.Sentences.{LineResult, IsSentence, IsUnreadable, NamesNoStart, LacksStart, NamesUnknown, sentence_in, vocabulary_of}
use Rattle.mh_msgfile.proofs.SentenceBounds.{sentence_start, sentence_tokens}
use Rattle.mh_session_branches.specs.declared.command.Command.{Command}
use Rattle.mh_session_branches.specs.declared.command.Command.TheVariants as commands
use Rattle.mh_session_branches.specs.declared.reply.Reply.TheVariants as replies
use Rattle.mh_session_branches.specs.declared.reply.SessionFault.TheVariants as faults
use Rattle.mh_session_branches.specs.Answers.{Answer, Branches, IsCommandOf, IsAnswer, IsAnswerIfHeld, AnswersFeed, ListsExpected, AreBranchesAfter, AreBranchesAfterAnswer, AreBranchesFed, answer_to_resume, if_name_held, phase_at, step_or_deep, with_changed_branch}
use Rattle.mh_session_branches.specs.LineForms.{Form, HasForm, LineMeaning, Asks, NamesNoStart as MeansNoStart, LacksStart as MeansLackingStart, NamesNoToken, LineMeans, meaning_of_form}
use Rattle.mh_session_branches.specs.Names.{same as same_name, at_name, without_name, with_name}
use Rattle.mh_session_branches.specs.Replies.{AnswersLine, AnswersMeaning, answer_text, replied_name}
use Rattle.mh_session_branches.proofs.IsCommandOf.{command_known}
use Rattle.mh_session_branches.proofs.WithoutName.{without_self, without_other}
use Rattle.mh_top_plans.specs.Explained.{IsExplained, IsExplainedBy, IsExplainedFound, input_refusal}
use Rattle.mh_top_plans.specs.Verdicts.{VerdictContext, IsAnswerToFound, IsAnswerToLine, IsAnswerWithTrees, IsEndingText, IsRefusalWithTokens, IsSentenceAnswer, IsTreeText, expected_line, refusal_text}
use Rattle.mh_top_plans.specs.declared.at_end.FinalText.{FinalText}
use Rattle.mh_top_plans.specs.declared.at_end.FinalText.TheVariants.{Written}
use Rattle.mh_top_plans.proofs.FilesOfMode.{PreparedFacts}
use Rattle.mh_top_drive.specs.Shapes.{Prepared}
use Rattle.mh_top_outcomes.proofs.SelectedNumbers.{selected_numbers}
use Rattle.mh_top_outcomes.proofs.SomeFed.{IsBranchOf, Stops, branch_offered, branch_resumed, feeding_stops}
use Rattle.mh_top_outcomes.proofs.SomeEntries.{some_entry}
use Rattle.mh_top_outcomes.proofs.SomeDecision.{fails_at_last}

some_expected : (t : TableData) (start : ℕ) (tokens : List ℕ) → NotLacking ((list : List ℕ) × ExpectedTokens t start tokens list)
some_expected t start tokens = chain (selected_numbers (IsExpected t start tokens) t.grammar.tokens (λ z e. e.known)) (λ s. given (s.0, record { rising = s.1; exact = s.2 }))

-- The sentence of a line is in the range of a table for the grammar.
module _ (g : Grammar) (t : TableData) (same : t.grammar ≡ plain_of g) (line : Text) (s : Sentence) (is : sentence_in (vocabulary_of g) line ≡ IsSentence s) where
  start_in_range : s.start < length t.grammar.starts
  start_in_range = subst (λ (p : PlainGrammar). s.start < length p.starts) (sym same) (sentence_start g line s is)

  tokens_in_range : AllByRecursion (λ z. z < t.grammar.tokens) s.tokens
  tokens_in_range = subst (λ (p : PlainGrammar). AllByRecursion (λ z. z < p.tokens) s.tokens) (sym same) (sentence_tokens g line s is)

-- ---- A line with a sentence has an answer with a verdict.

module _ (by : VerdictContext) (h : HaltingFacts by.table) (s : Sentence) (known : s.start < length by.table.grammar.starts) (tokens : AllByRecursion (λ z. z < by.table.grammar.tokens) s.tokens) where
  some_refusal : (expected : Bool) (at state : ℕ) → NotLacking ((text : Text) × IsRefusalWithTokens expected by s at state text)
  some_refusal false at state = given (refusal_text by.messages state, refl)
  some_refusal true at state = chain (some_expected by.table s.start (take at s.tokens)) (λ e. given (refusal_text by.messages state ++ expected_line by.grammar e.0, (e.0, e.1, refl)))

  some_ending_text : (how : Ending) → NotLacking ((text : Text) × IsEndingText by s how text)
  some_ending_text (Accepted read) = given (codes "ACCEPT\n", refl)
  some_ending_text (Overshot state) = given (codes "OVERSHOOT\n", refl)
  some_ending_text (Rejected at state) = some_refusal by.expected at state

  some_tree_text : (o : TreeEnding) → NotLacking ((text : Text) × IsTreeText by s o text)
  some_tree_text (AcceptedTree read tree) = given (_, refl)
  some_tree_text (OvershotTree state) = given (codes "OVERSHOOT\n", refl)
  some_tree_text (RejectedTree at state) = some_refusal by.expected at state
  some_tree_text DeepTree = given (codes "TOODEEP\n", refl)

  shallow : (how : Ending) → VerdictOf by.table s.start s.tokens how → (IsTooDeep by.table s.start s.tokens → ⊥) → (o : TreeEnding) × IsTreeEnding by.table s.start s.tokens o
  shallow (Accepted read) v n = let tree = accepted_tree by.table h.facts s.start s.tokens read known v in (AcceptedTree read tree.0, (tree.1, n))
  shallow (Overshot state) v n = (OvershotTree state, (v, n))
  shallow (Rejected at state) v n = (RejectedTree at state, (v, n))

  some_tree_ending : NotLacking ((o : TreeEnding) × IsTreeEnding by.table s.start s.tokens o)
  some_tree_ending = chain (decided (IsTooDeep by.table s.start s.tokens)) (λ d. elim d [
    | inl deep ↦ given (DeepTree, deep)
    | inr n ↦ (let v = has_verdict by.table h s.start s.tokens known tokens in given (shallow v.0 v.1 n))
  ])

  some_sentence_answer : (trees : Bool) → NotLacking ((text : Text) × IsAnswerWithTrees trees by s text)
  some_sentence_answer false = let v = has_verdict by.table h s.start s.tokens known tokens in chain (some_ending_text v.0) (λ x. given (x.0, (v.0, v.1, x.1)))
  some_sentence_answer true = chain some_tree_ending (λ o. chain (some_tree_text o.0) (λ x. given (x.0, (o.0, o.1, x.1))))

judged_content : (by : VerdictContext) → HaltingFacts by.table → by.table.grammar ≡ plain_of by.grammar → (line : Text) (l : LineResult) → sentence_in (vocabulary_of by.grammar) line ≡ l → NotLacking ((text : Text) × IsAnswerToFound (IsSentenceAnswer by) l text)
judged_content by h same line (IsSentence s) e = some_sentence_answer by h s (start_in_range by.grammar by.table same line s e) (tokens_in_range by.grammar by.table same line s e) by.trees
judged_content by h same line IsUnreadable e = given (_, refl)
judged_content by h same line (NamesNoStart name) e = given (_, refl)
judged_content by h same line LacksStart e = given (_, refl)
judged_content by h same line (NamesUnknown name) e = given (_, refl)

pub some_verdict : (by : VerdictContext) → HaltingFacts by.table → by.table.grammar ≡ plain_of by.grammar → (line : Text) → NotLacking ((text : Text) × IsAnswerToLine by line text)
some_verdict by h same line = judged_content by h same line (sentence_in (vocabulary_of by.grammar) line) refl

-- ---- The line to explain has an explanation.

module _ (p : Prepared) (facts : PreparedFacts p) where
  module _ (s : Sentence) (known : s.start < length p.tabled.halting.grammar.starts) (tokens : AllByRecursion (λ z. z < p.tabled.halting.grammar.tokens) s.tokens) where
    explained_ending : (how : Ending) → VerdictOf p.tabled.halting s.start s.tokens how → (made : FinalText) × IsExplainedBy p s how made
    explained_ending (Accepted read) v = (input_refusal (ending_text (Accepted read)), refl)
    explained_ending (Overshot state) v = (input_refusal (ending_text (Overshot state)), refl)
    explained_ending (Rejected at state) v = elim (cases_eq (at + 1) (length s.tokens)) [
      | inl last ↦ (
          let fails = fails_at_last p.tabled.halting s.start s.tokens at state known tokens last v in
          let entry = some_entry p.order.comment_expected p.grammar p.tabled.automaton p.tabled.mode p.tabled.halting facts.halts facts.consistent.automaton facts.consistent.table s.start s.tokens state fails in
          (Written entry.0, inl (last, entry.0, entry.1, refl)))
      | inr early ↦ (input_refusal (early_text at), inr (early, refl))
    ]

  explained_content : (line : Text) (l : LineResult) → sentence_in (vocabulary_of p.grammar) line ≡ l → (made : FinalText) × IsExplainedFound p l made
  explained_content line (IsSentence s) e =
      let same = facts.consistent.table.grammar in
      let known = start_in_range p.grammar p.tabled.halting same line s e in
      let tokens = tokens_in_range p.grammar p.tabled.halting same line s e in
      let v = has_verdict p.tabled.halting facts.halts s.start s.tokens known tokens in
      let made = explained_ending s known tokens v.0 v.1 in
      (made.0, (v.0, v.1, made.1))
  explained_content line IsUnreadable e = (_, refl)
  explained_content line (NamesNoStart name) e = (_, refl)
  explained_content line LacksStart e = (_, refl)
  explained_content line (NamesUnknown name) e = (_, refl)

  pub some_explanation : (line : Text) → (made : FinalText) × IsExplained p line made
  some_explanation line = explained_content line (sentence_in (vocabulary_of p.grammar) line) refl

-- ---- Commands of a session.

-- Each branch is one of the table.
abbrev pub AreBranchesOf : TableData → Branches → Type 0
AreBranchesOf t bs = (name : Text) (b : Branch) → at_name name bs ≡ Some b → IsBranchOf t b

no_value : (b : Branch) → None ≡ Some b → ⊥
no_value b e = cc

pub no_branches : (t : TableData) → AreBranchesOf t []
no_branches t name b held = absurd (no_value b held)

module _ (t : TableData) where
  of_with_name : (bs : Branches) (name : Text) (b : Branch) → IsBranchOf t b → AreBranchesOf t bs → AreBranchesOf t (with_name name b bs)
  of_with_name bs name b of all q d e = elim (same_cases name q) [
    | inl same ↦ (
        let mine : at_name q (with_name name b bs) ≡ Some b = cond-true (same_name q name) (Some b) (at_name q (without_name name bs)) (ap (same_name q) same ∙ same_refl q) in
        let one : b ≡ d = let both = sym mine ∙ e in cc in
        subst (IsBranchOf t) one of)
    | inr differ ↦ (
        let mine : at_name q (with_name name b bs) ≡ at_name q bs = cond-false (same_name q name) (Some b) (at_name q (without_name name bs)) differ.1 ∙ without_other q name bs differ.1 in
        all q d (sym mine ∙ e))
  ]

  of_without_name : (bs : Branches) (name : Text) → AreBranchesOf t bs → AreBranchesOf t (without_name name bs)
  of_without_name bs name all q d e = elim (same_cases name q) [
    | inl same ↦ (
        let mine : at_name q (without_name name bs) ≡ None = ap (λ (k : Text). at_name q (without_name k bs)) same ∙ without_self q bs in
        let none : None ≡ Some d = sym mine ∙ e in
        absurd (no_value d none))
    | inr differ ↦ all q d (sym (without_other q name bs differ.1) ∙ e)
  ]

-- The tokens from before the feeding, the shifted tokens and the tokens still to come are all tokens of the branch.
all_counted : (all before coming left : ℕ) → left ≡ 0 → before + coming ≤ left + all → before + (all - before - coming) + coming ≡ all
all_counted all before coming left empty most = omega arith

-- The branches after a command with this answer, which are branches of the table.
abbrev HasNext : TableData → Answer → Branches → Command → Type 0
HasNext t a bs command = (after : Branches) × AreBranchesAfterAnswer t a bs command after × AreBranchesOf t after

-- An answer to a command, and the branches after it.
record Answered (t : TableData) (bs : Branches) (command : Command) : Type 0 where
  answer : Answer
  answers : IsAnswer t bs command answer
  next : HasNext t answer bs command

module _ (t : TableData) (h : HaltingFacts t) (bs : Branches) (all : AreBranchesOf t bs) where
  -- If a command that is not refused has branches after it, an answer to the command has branches after it.
  after_of : (command : Command) (a : Answer) → (after : Branches) × AreBranchesAfter t bs command after × AreBranchesOf t after → HasNext t a bs command
  after_of command (Ok reply) next = next
  after_of command (Err fault) next = (bs, refl, all)

  -- A command whose answer is computed, and that may leave the branches as they are.
  computed : (command : Command) (a : Answer) → IsAnswer t bs command a → (after : Branches) × AreBranchesAfter t bs command after × AreBranchesOf t after → NotLacking (Answered t bs command)
  computed command a is next = given (record { answer = a; answers = is; next = after_of command a next })

  changed : (name fresh : Text) (o : Option Branch) (f : Branch → Branch) → at_name name bs ≡ o → ((b : Branch) → IsBranchOf t b → IsBranchOf t (f b)) → AreBranchesOf t (with_changed_branch fresh o f bs)
  changed name fresh None f e keeps = all
  changed name fresh (Some b) f e keeps = of_with_name t bs fresh (f b) (keeps b (all name b e)) all

  listed : (b : Branch) (phase : Phase) → NotLacking ((a : Answer) × ListsExpected t b phase a)
  listed b (phases.InputNeeded s) = chain (some_expected t b.start b.offered) (λ e. given (Ok (replies.Expected e.0), (e.0, e.1, refl)))
  listed b (phases.Shifting s y) = given (_, refl)
  listed b (phases.AboutToReduce s p) = given (_, refl)
  listed b (phases.HandlingError s) = given (_, refl)
  listed b phases.Accepted = given (_, refl)
  listed b phases.Rejected = given (_, refl)

  listed_if_held : (o : Option Branch) → NotLacking ((a : Answer) × IsAnswerIfHeld o (λ b. ListsExpected t b (phase_at t b)) a)
  listed_if_held None = given (_, refl)
  listed_if_held (Some b) = listed b (phase_at t b)

  -- After a command that resumes a branch, there are next branches of the session.
  module _ (name : Text) where
    after_step : (b : Branch) → at_name name bs ≡ Some b → CanResume (phase_at t b) → HasNext t (step_or_deep t (with_step b)) bs (commands.Resume name)
    after_step b e can =
        after_of (commands.Resume name) (step_or_deep t (with_step b))
        (with_changed_branch name (at_name name bs) with_step bs, refl, subst (λ (o : Option Branch). AreBranchesOf t (with_changed_branch name o with_step bs)) (sym e) (of_with_name t bs name (with_step b) (branch_resumed t b can (all name b e)) all))

    after_resume : (b : Branch) (p : Phase) → at_name name bs ≡ Some b → phase_at t b ≡ p → HasNext t (answer_to_resume t b p) bs (commands.Resume name)
    after_resume b (phases.InputNeeded s) e is = (bs, refl, all)
    after_resume b (phases.Shifting s y) e is = after_step b e (subst CanResume (sym is) tt)
    after_resume b (phases.AboutToReduce s q) e is = after_step b e (subst CanResume (sym is) tt)
    after_resume b (phases.HandlingError s) e is = after_step b e (subst CanResume (sym is) tt)
    after_resume b phases.Accepted e is = (bs, refl, all)
    after_resume b phases.Rejected e is = (bs, refl, all)

    resumed_if_held : (o : Option Branch) → at_name name bs ≡ o → HasNext t (if_name_held o (λ b. answer_to_resume t b (phase_at t b))) bs (commands.Resume name)
    resumed_if_held None e = (bs, refl, all)
    resumed_if_held (Some b) e = after_resume b (phase_at t b) e refl

  -- A command that feeds a branch has an answer, and after it there are next branches of the session.
  module _ (name : Text) (tokens : List ℕ) (known : All (λ z. z < t.grammar.tokens) tokens) where
    module _ (b : Branch) (held : at_name name bs ≡ Some b) where
      answers_feed : (p : Phase) (a : Answer) → phase_at t b ≡ p → AnswersFeed t b tokens p a → IsAnswer t bs (commands.Feed name tokens) a
      answers_feed p a is x = subst (λ (o : Option Branch). IsAnswerIfHeld o (λ c. AnswersFeed t c tokens (phase_at t c)) a) (sym held) (subst (λ (q : Phase). AnswersFeed t b tokens q a) (sym is) x)

      refused : (p : Phase) → phase_at t b ≡ p → AnswersFeed t b tokens p (Err (faults.WrongPhase p)) → NotLacking (Answered t bs (commands.Feed name tokens))
      refused p is x = given (record { answer = Err (faults.WrongPhase p); answers = answers_feed p (Err (faults.WrongPhase p)) is x; next = (bs, refl, all) })

      -- The number of tokens that are shifted.
      abbrev shifted_to : Stops t b tokens → ℕ
      shifted_to r = length r.next.offered - length b.offered - length (position_of t r.next).left

      fed_to : (s : ℕ) → phase_at t b ≡ phases.InputNeeded s → (r : Stops t b tokens) → (IsFedTooDeep t b tokens → ⊥) → IsFed t b tokens r.next (shifted_to r)
      fed_to s is r none = record {
        moves = r.moves;
        reaches = ap (λ (f : Feeding). f.branch) r.reaches;
        stops = subst (λ (f : Feeding). HasStopped (phase_in t f) f.waiting) (sym r.reaches) r.stops;
        count = all_counted (length r.next.offered) (length b.offered) (length (position_of t r.next).left) (length (position_of t b).left) (ap length (asking_left (position_of t b) (subst CanOffer (sym is) tt))) r.count;
        fits = none;
      }

      fed : (s : ℕ) → phase_at t b ≡ phases.InputNeeded s → NotLacking (Answered t bs (commands.Feed name tokens))
      fed s is = chain (decided (IsFedTooDeep t b tokens)) (λ d. elim d [
        | inl deep ↦ given (record { answer = Err faults.TooDeep; answers = answers_feed (phases.InputNeeded s) (Err faults.TooDeep) is (inr (deep, refl)); next = (bs, refl, all) })
        | inr none ↦ (
            let r = feeding_stops t h tokens b (all name b held) known in
            let reply : Answer = Ok (replies.Fed (shifted_to r) (phase_at t r.next)) in
            let made = fed_to s is r none in
            let after : Branches = with_name name r.next bs in
            given (record {
              answer = reply;
              answers = answers_feed (phases.InputNeeded s) reply is (inl (r.next, shifted_to r, made, refl));
              next = (after, subst (λ (o : Option Branch). AreBranchesFed t name o tokens bs after) (sym held) (r.next, shifted_to r, made, refl), of_with_name t bs name r.next r.of all);
            }))
      ])

      fed_in : (p : Phase) → phase_at t b ≡ p → NotLacking (Answered t bs (commands.Feed name tokens))
      fed_in (phases.InputNeeded s) is = fed s is
      fed_in (phases.Shifting s y) is = refused (phases.Shifting s y) is refl
      fed_in (phases.AboutToReduce s p) is = refused (phases.AboutToReduce s p) is refl
      fed_in (phases.HandlingError s) is = refused (phases.HandlingError s) is refl
      fed_in phases.Accepted is = refused phases.Accepted is refl
      fed_in phases.Rejected is = refused phases.Rejected is refl

    fed_if_held : (o : Option Branch) → at_name name bs ≡ o → NotLacking (Answered t bs (commands.Feed name tokens))
    fed_if_held None e = given (record { answer = Err faults.UnknownName; answers = subst (λ (o : Option Branch). IsAnswerIfHeld o (λ b. AnswersFeed t b tokens (phase_at t b)) (Err faults.UnknownName)) (sym e) refl; next = (bs, refl, all) })
    fed_if_held (Some b) e = fed_in b e (phase_at t b) refl

  some_answer : (command : Command) → IsCommandOf t command → NotLacking (Answered t bs command)
  some_answer (commands.Begin name start) known =
      computed (commands.Begin name start) _ refl (with_name name (new_branch start) bs, refl, of_with_name t bs name (new_branch start) (record { start = known; tokens = All-nil (λ z. z < t.grammar.tokens); steps = (HasPosition-start t start).made }) all)
  some_answer (commands.Offer name token) known = computed (commands.Offer name token) _ refl (with_changed_branch name (at_name name bs) (λ b. with_token b token) bs, refl, changed name name (at_name name bs) (λ b. with_token b token) refl (λ b of. branch_offered t b token known of))
  some_answer (commands.Feed name tokens) known = fed_if_held name tokens known (at_name name bs) refl
  some_answer (commands.Resume name) known = given (record { answer = if_name_held (at_name name bs) (λ b. answer_to_resume t b (phase_at t b)); answers = refl; next = resumed_if_held name (at_name name bs) refl })
  some_answer (commands.Fork name fresh) known = computed (commands.Fork name fresh) _ refl (with_changed_branch fresh (at_name name bs) (λ b. b) bs, refl, changed name fresh (at_name name bs) (λ b. b) refl (λ b of. of))
  some_answer (commands.Show name) known = computed (commands.Show name) _ refl (bs, refl, all)
  some_answer (commands.Stack name) known = computed (commands.Stack name) _ refl (bs, refl, all)
  some_answer (commands.Tree name) known = computed (commands.Tree name) _ refl (bs, refl, all)
  some_answer (commands.Expected name) known = chain (listed_if_held (at_name name bs)) (λ x. computed (commands.Expected name) x.0 x.1 (bs, refl, all))
  some_answer (commands.Forget name) known = computed (commands.Forget name) _ refl (without_name name bs, refl, of_without_name t bs name all)

  module _ (g : Grammar) (same : t.grammar ≡ plain_of g) (line : Text) where
    answered_meaning : (said : LineMeaning) → LineMeans (vocabulary_of g) line said → NotLacking ((text : Text) × (after : Branches) × AnswersMeaning g t bs said text after × AreBranchesOf t after)
    answered_meaning (Asks command) means = chain (some_answer command (command_known g t line command same means)) (λ a. given (answer_text g (replied_name command) a.answer, a.next.0, (a.answer, a.answers, refl, a.next.1), a.next.2))
    answered_meaning (MeansNoStart name) means = given (_, bs, (refl, refl), all)
    answered_meaning MeansLackingStart means = given (_, bs, (refl, refl), all)
    answered_meaning (NamesNoToken name) means = given (_, bs, (refl, refl), all)

    pub some_reply : NotLacking ((text : Text) × (after : Branches) × AnswersLine g t bs line text after × AreBranchesOf t after)
    some_reply = chain (decided ((form : Form) × HasForm line form)) (λ d. elim d [
      | inl f ↦ (
          let said : LineMeaning = meaning_of_form (vocabulary_of g) f.0 in
          chain (answered_meaning said (f.0, f.1, refl)) (λ x. given (x.0, x.1, inl (said, (f.0, f.1, refl), x.2), x.3)))
      | inr none ↦ given (codes "error: unreadable\n", bs, inr ((λ form has. none (form, has)), refl, refl), all)
    ])
