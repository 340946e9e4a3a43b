-- Proves for each command that the session's answer is the one computed from the histories of the branches.
use Rattle.std.proofs.Common.{◌≡◌, ℕ, suc, Bool, true, false, cond, List, [], ◌∷◌, Option, Some, None, Bor, Result, Ok, Err, refl, sym, ap, subst, ◌∙◌, inl, inr}
use Rattle.std.specs.Prelude.{IfOk, IfErr, OnOk, OnErr, is_some}
use Rattle.std.specs.Option.{option_copied}
use Rattle.mh_grammar.specs.declared.types.Symbol.{Symbol}
use Rattle.mh_tables_core.specs.Table.{TableData}
use Rattle.mh_engine.specs.Positions.{Position}
use Rattle.mh_tables_core.specs.TooDeep.{too_deep}
use Rattle.mh_engine.specs.Phases.{phase_of, CanOffer, CanResume}
use Rattle.mh_engine.specs.Steps.{initial_position, offered, resumed}
use Rattle.mh_engine.specs.Branches.{Branch, HasPosition, position_of, new_branch, with_token, with_step}
use Rattle.mh_engine.specs.Feeding.{IsFed, IsFedTooDeep}
use Rattle.mh_engine.specs.StackSymbols.{stack_symbols}
use Rattle.mh_engine.specs.code.FedTokens.{FeedsTo}
use Rattle.mh_engine.specs.declared.checkpoint.Checkpoint.{Checkpoint}
use Rattle.mh_engine.specs.declared.phase.Phase.{Phase}
use Rattle.mh_engine.specs.declared.phase.Phase.TheVariants as phases
use Rattle.mh_engine.proofs.OneMoreStep.{resumed_table}
use Rattle.mh_engine.proofs.BranchPosition.{HasPosition-start, HasPosition-token, HasPosition-step}
use Rattle.mh_expected.specs.Expected.{ExpectedTokens}
use Rattle.mh_session_branches.specs.declared.command.Command.{Command}
use Rattle.mh_session_branches.specs.declared.command.Command.TheVariants as commands
use Rattle.mh_session_branches.specs.declared.reply.Reply.{Reply}
use Rattle.mh_session_branches.specs.declared.reply.Reply.TheVariants as replies
use Rattle.mh_session_branches.specs.declared.reply.SessionFault.{SessionFault}
use Rattle.mh_session_branches.specs.declared.reply.SessionFault.TheVariants as faults
use Rattle.mh_grammar.specs.Text.{Text}
use Rattle.mh_session_branches.specs.Names.{at_name, without_name, with_name}
use Rattle.mh_session.specs.SessionState.{SessionState}
use Rattle.mh_session_branches.specs.Answers.{Branches, Answer, IsAnswer, AnswersFeed, ListsExpected, IsAnswerIfHeld, AreBranchesFed, AreBranchesAfter, phase_at, phase_answer, if_name_held, if_name_free, answer_to_offer, answer_to_resume, step_or_deep, with_changed_branch}
use Rattle.mh_session.specs.Represents.{FitsBranch, Represents}
use Rattle.mh_session.specs.code.ChangesName.{ChangesName, HaveTable}
use Rattle.mh_session.specs.Served.{IsServed, IsAnswerOfBranches}
use Rattle.mh_session.proofs.ChangesName.{held_name_has_branch, free_name_has_no_branch, puts_fit, removal_fits}

-- A lookup that finds no checkpoint finds no position.
pub found_none : (o : Option (Bor Checkpoint)) (p : Option Position) → option_copied o ≡ p → is_some o ≡ false → p ≡ None
found_none None p e h = sym e
found_none (Some c) p e h = cc

-- The position of a branch is the position that the session has for it.
pub position_is : (t : TableData) (b : Branch) (c : Position) → HasPosition b c → c.table ≡ t → position_of t b ≡ c
position_is t b c at e = ap (λ (u : TableData). position_of u b) (sym e) ∙ sym at.position

phase_is : (t : TableData) (b : Branch) (c : Position) → HasPosition b c → c.table ≡ t → phase_at t b ≡ phase_of c
phase_is t b c at e = ap phase_of (position_is t b c at e)

-- The answer to the command is the phase of c, and after the command the name has a branch with the position c.
pub record GivesPosition (old : SessionState) (command : Command) (name : Text) (c : Position) (bs : Branches) : Type 0 where
  pub branch : Branch
  pub has_position : HasPosition branch c
  pub answer_is : IsAnswer old.table bs command (Ok (replies.Phase (phase_of c)))
  pub change : AreBranchesAfter old.table bs command (with_name name branch bs)

put_case : (old new : SessionState) (command : Command) (name : Text) (c : Position) (r : Answer) → ((bs : Branches) → Represents old bs → GivesPosition old command name c bs) → c.table ≡ old.table → IfOk r (λ x. x ≡ replies.Phase (phase_of c)) → IfErr r (λ f. f ≡ faults.Memory)
    → OnOk r (ChangesName old name (Some c) new) → OnErr r (new ≡ old) → IsServed old command new r
put_case old new command name c (Ok reply) gives is reply_is fault put same = (
  put.table,
  λ bs all. let g = gives bs all in subst (λ (x : Reply). IsAnswer old.table bs command (Ok x)) (sym reply_is) g.answer_is,
  λ bs all. let g = gives bs all in (with_name name g.branch bs, g.change, puts_fit old new bs name g.branch c all put g.has_position is),
)
put_case old new command name c (Err fault) gives is reply_is f put same = subst (λ (x : SessionFault). IsServed old command new (Err x)) (sym f) same

-- The contract of the session's function `put` for its result r. If r is `Ok`, it gives the phase of c, and the name
-- now has the position c; if r is `Err`, memory ran out and nothing changed.
pub record DidPut (old new : SessionState) (name : Text) (c : Position) (r : Answer) : Type 0 where
  pub reply : IfOk r (λ x. x ≡ replies.Phase (phase_of c))
  pub fault : IfErr r (λ f. f ≡ faults.Memory)
  pub name_changed : OnOk r (ChangesName old name (Some c) new)
  pub same : OnErr r (new ≡ old)

put_served : (old new : SessionState) (command : Command) (name : Text) (c : Position) (r : Answer) → ((bs : Branches) → Represents old bs → GivesPosition old command name c bs) → c.table ≡ old.table → DidPut old new name c r → IsServed old command new r
put_served old new command name c r gives is did = put_case old new command name c r gives is did.reply did.fault did.name_changed did.same

pub begin_served : (old new : SessionState) (name : Text) (start : ℕ) (c : Position) (r : Answer) → at_name name old.held ≡ None → c ≡ initial_position old.table start [] → DidPut old new name c r → IsServed old (commands.Begin name start) new r
begin_served old new name start c r free is did =
    put_served old new (commands.Begin name start) name c r
    (λ bs all. record {
      branch = new_branch start;
      has_position = subst (HasPosition (new_branch start)) (sym is) (HasPosition-start old.table start);
      answer_is = ap (λ (o : Option Branch). if_name_free o (phase_answer old.table (new_branch start))) (free_name_has_no_branch old bs name all free) ∙ ap (λ (p : Position). Ok (replies.Phase (phase_of p))) (sym is);
      change = refl;
    }) (ap (λ (p : Position). p.table) is) did

pub offer_served : (old new : SessionState) (name : Text) (z s : ℕ) (c d : Position) (r : Answer) → at_name name old.held ≡ Some c → c.table ≡ old.table → phase_of c ≡ phases.InputNeeded s → d ≡ offered c z → DidPut old new name d r → IsServed old (commands.Offer name z) new r
offer_served old new name z s c d r has of asks is did =
    put_served old new (commands.Offer name z) name d r
    (λ bs all.
    let f = held_name_has_branch old bs name c all has in
    let b : Branch = f.0 in
    let at : HasPosition (with_token b z) d = subst (HasPosition (with_token b z)) (sym is) (HasPosition-token b c z f.2) in
    let table_is : d.table ≡ old.table = ap (λ (p : Position). p.table) is ∙ of in
    record {
      branch = with_token b z;
      has_position = at;
      answer_is =
          ap (λ (o : Option Branch). if_name_held o (λ b. answer_to_offer old.table b z (phase_at old.table b))) f.1 ∙ ap (answer_to_offer old.table b z) (phase_is old.table b c f.2 of ∙ asks)
          ∙ ap (λ (p : Phase). Ok (replies.Phase p)) (phase_is old.table (with_token b z) d at table_is);
      change = sym (ap (λ (o : Option Branch). with_changed_branch name o (λ b. with_token b z) bs) f.1);
    }) (ap (λ (p : Position). p.table) is ∙ of) did

going_on : (t : TableData) (b : Branch) (p : Phase) → CanResume p → answer_to_resume t b p ≡ step_or_deep t (with_step b)
going_on t b (phases.InputNeeded s) g = absurd g
going_on t b (phases.Shifting s y) g = refl
going_on t b (phases.AboutToReduce s p) g = refl
going_on t b (phases.HandlingError s) g = refl
going_on t b phases.Accepted g = absurd g
going_on t b phases.Rejected g = absurd g

resume_theirs : (old : SessionState) (bs : Branches) (name : Text) (b : Branch) (c : Position) → at_name name bs ≡ Some b → HasPosition b c → c.table ≡ old.table → CanResume (phase_of c)
    → IsAnswer old.table bs (commands.Resume name) (cond (too_deep (resumed c).pairs.trees) (Err faults.TooDeep) (Ok (replies.Phase (phase_of (resumed c)))))
resume_theirs old bs name b c has at of g =
    ap (λ (o : Option Branch). if_name_held o (λ b. answer_to_resume old.table b (phase_at old.table b))) has
    ∙ going_on old.table b (phase_at old.table b) (subst CanResume (sym (phase_is old.table b c at of)) g)
    ∙ ap (λ (p : Position). cond (too_deep p.pairs.trees) (Err faults.TooDeep) (Ok (replies.Phase (phase_of p)))) (position_is old.table (with_step b) (resumed c) (HasPosition-step b c at g) (resumed_table c ∙ of))

pub resumed_of : (c d : Position) (t : TableData) → d ≡ resumed c → c.table ≡ t → d.table ≡ t
resumed_of c d t is of = ap (λ (p : Position). p.table) is ∙ resumed_table c ∙ of

pub resume_served : (old new : SessionState) (name : Text) (c d : Position) (r : Answer) → at_name name old.held ≡ Some c → c.table ≡ old.table → CanResume (phase_of c) → d ≡ resumed c → too_deep (resumed c).pairs.trees ≡ false → DidPut old new name d r → IsServed old (commands.Resume name) new r
resume_served old new name c d r has of g is fits did =
    put_served old new (commands.Resume name) name d r
    (λ bs all.
    let f = held_name_has_branch old bs name c all has in
    let b : Branch = f.0 in
    record {
      branch = with_step b;
      has_position = subst (HasPosition (with_step b)) (sym is) (HasPosition-step b c f.2 g);
      answer_is =
          resume_theirs old bs name b c f.1 f.2 of g ∙ ap (λ (x : Bool). cond x (Err faults.TooDeep) (Ok (replies.Phase (phase_of (resumed c))))) fits
          ∙ ap (λ (p : Position). Ok (replies.Phase (phase_of p))) (sym is);
      change = sym (ap (λ (o : Option Branch). with_changed_branch name o with_step bs) f.1);
    }) (resumed_of c d old.table is of) did

pub deep_served : (old : SessionState) (name : Text) (c : Position) → at_name name old.held ≡ Some c → c.table ≡ old.table → CanResume (phase_of c) → too_deep (resumed c).pairs.trees ≡ true → (bs : Branches) → Represents old bs → IsAnswer old.table bs (commands.Resume name) (Err faults.TooDeep)
deep_served old name c has of g deep bs all =
    let f = held_name_has_branch old bs name c all has in
    resume_theirs old bs name f.0 c f.1 f.2 of g ∙ ap (λ (x : Bool). cond x (Err faults.TooDeep) (Ok (replies.Phase (phase_of (resumed c))))) deep

pub fork_served : (old new : SessionState) (name fresh : Text) (c d : Position) (r : Answer) → at_name name old.held ≡ Some c → c.table ≡ old.table → at_name fresh old.held ≡ None → d ≡ c → DidPut old new fresh d r → IsServed old (commands.Fork name fresh) new r
fork_served old new name fresh c d r has of free is did =
    put_served old new (commands.Fork name fresh) fresh d r
    (λ bs all.
    let f = held_name_has_branch old bs name c all has in
    let b : Branch = f.0 in
    record {
      branch = b;
      has_position = subst (HasPosition b) (sym is) f.2;
      answer_is =
          ap (λ (o : Option Branch). if_name_held o (λ b. if_name_free (at_name fresh bs) (phase_answer old.table b))) f.1 ∙ ap (λ (o : Option Branch). if_name_free o (phase_answer old.table b)) (free_name_has_no_branch old bs fresh all free)
          ∙ ap (λ (p : Phase). Ok (replies.Phase p)) (phase_is old.table b c f.2 of ∙ ap phase_of (sym is));
      change = sym (ap (λ (o : Option Branch). with_changed_branch fresh o (λ b. b) bs) f.1);
    }) (ap (λ (p : Position). p.table) is ∙ of) did

pub forget_served : (old new : SessionState) (name : Text) (c : Position) → at_name name old.held ≡ Some c → ChangesName old name None new → IsServed old (commands.Forget name) new (Ok replies.Forgotten)
forget_served old new name c has put = (
  put.table,
  λ bs all. let f = held_name_has_branch old bs name c all has in ap (λ (o : Option Branch). if_name_held o (λ b. Ok replies.Forgotten)) f.1,
  λ bs all. (without_name name bs, refl, removal_fits old new bs name all put),
)

-- For a name that has a branch, the answer to `expected` is the list of expected tokens in the phase of its position.
expected_of_held : (old : SessionState) (bs : Branches) (name : Text) (c : Position) (a : Answer) → Represents old bs → at_name name old.held ≡ Some c → c.table ≡ old.table → ((b : Branch) → HasPosition b c → ListsExpected old.table b (phase_of c) a) → IsAnswer old.table bs (commands.Expected name) a
expected_of_held old bs name c a all has of lists =
    let f = held_name_has_branch old bs name c all has in
    subst (λ (o : Option Branch). IsAnswerIfHeld o (λ b. ListsExpected old.table b (phase_at old.table b)) a) (sym f.1)
    (subst (λ (p : Phase). ListsExpected old.table f.0 p a) (sym (phase_is old.table f.0 c f.2 of)) (lists f.0 f.2))

pub expected_served : (old : SessionState) (name : Text) (s : ℕ) (c : Position) (list : List ℕ) → at_name name old.held ≡ Some c → c.table ≡ old.table → phase_of c ≡ phases.InputNeeded s → ((b : Branch) → HasPosition b c → ExpectedTokens old.table b.start b.offered list)
    → IsServed old (commands.Expected name) old (Ok (replies.Expected list))
expected_served old name s c list has of asks lists = (
  refl,
  λ bs all. expected_of_held old bs name c (Ok (replies.Expected list)) all has of (λ b at. subst (λ (p : Phase). ListsExpected old.table b p (Ok (replies.Expected list))) (sym asks) (list, lists b at, refl)),
  λ bs all. (bs, refl, all),
)

-- Commands whose answer is defined by a relation between the branch and the answer, not by a function of the
-- branch, such as `Feed`.
module _ (old : SessionState) (command : Command) (name : Text) (Is : Branch → Phase → Answer → Type 0) (by : (bs : Branches) (a : Answer) → IsAnswerIfHeld (at_name name bs) (λ b. Is b (phase_at old.table b)) a → IsAnswer old.table bs command a) where
  unknown_answered : at_name name old.held ≡ None → IsAnswerOfBranches old command (Err faults.UnknownName)
  unknown_answered none = λ bs all. by bs (Err faults.UnknownName) (subst (λ (o : Option Branch). IsAnswerIfHeld o (λ b. Is b (phase_at old.table b)) (Err faults.UnknownName)) (sym (free_name_has_no_branch old bs name all none)) refl)

  answered_at : (c : Position) (a : Answer) → at_name name old.held ≡ Some c → c.table ≡ old.table → ((b : Branch) → HasPosition b c → Is b (phase_of c) a) → IsAnswerOfBranches old command a
  answered_at c a has of each = λ bs all.
      let f = held_name_has_branch old bs name c all has in
      by bs a (subst (λ (o : Option Branch). IsAnswerIfHeld o (λ b. Is b (phase_at old.table b)) a) (sym f.1) (subst (λ (p : Phase). Is f.0 p a) (sym (phase_is old.table f.0 c f.2 of)) (each f.0 f.2)))

-- ---- Feeding.

wrong_feed : (t : TableData) (b : Branch) (tokens : List ℕ) (p : Phase) → ((s : ℕ) → p ≡ phases.InputNeeded s → ⊥) → AnswersFeed t b tokens p (Err (faults.WrongPhase p))
wrong_feed t b tokens (phases.InputNeeded s) none = absurd (none s refl)
wrong_feed t b tokens (phases.Shifting s z) none = refl
wrong_feed t b tokens (phases.AboutToReduce s p) none = refl
wrong_feed t b tokens (phases.HandlingError s) none = refl
wrong_feed t b tokens phases.Accepted none = refl
wrong_feed t b tokens phases.Rejected none = refl

module _ (old : SessionState) (name : Text) (tokens : List ℕ) where
  pub unknown_feed_served : at_name name old.held ≡ None → IsAnswerOfBranches old (commands.Feed name tokens) (Err faults.UnknownName)
  unknown_feed_served = unknown_answered old (commands.Feed name tokens) name (λ b p a. AnswersFeed old.table b tokens p a) (λ bs a h. h)

  module _ (c : Position) (has : at_name name old.held ≡ Some c) (of : c.table ≡ old.table) where
    feed_answered : (a : Answer) → ((b : Branch) → HasPosition b c → AnswersFeed old.table b tokens (phase_of c) a) → IsAnswerOfBranches old (commands.Feed name tokens) a
    feed_answered a each = answered_at old (commands.Feed name tokens) name (λ b p r. AnswersFeed old.table b tokens p r) (λ bs r h. h) c a has of each

    pub wrong_feed_served : (p : Phase) → p ≡ phase_of c → ((s : ℕ) → p ≡ phases.InputNeeded s → ⊥) → IsAnswerOfBranches old (commands.Feed name tokens) (Err (faults.WrongPhase p))
    wrong_feed_served p is none = feed_answered (Err (faults.WrongPhase p)) (λ b at. subst (λ (q : Phase). AnswersFeed old.table b tokens q (Err (faults.WrongPhase p))) is (wrong_feed old.table b tokens p none))

    module _ (s : ℕ) (asks : phase_of c ≡ phases.InputNeeded s) where
      asked : (b : Branch) (a : Answer) → AnswersFeed old.table b tokens (phases.InputNeeded s) a → AnswersFeed old.table b tokens (phase_of c) a
      asked b a h = subst (λ (p : Phase). AnswersFeed old.table b tokens p a) (sym asks) h

      pub deep_feed_served : ((b : Branch) → HasPosition b c → IsFedTooDeep c.table b tokens) → IsAnswerOfBranches old (commands.Feed name tokens) (Err faults.TooDeep)
      deep_feed_served deep = feed_answered (Err faults.TooDeep) (λ b at. asked b (Err faults.TooDeep) (inr (subst (λ (t : TableData). IsFedTooDeep t b tokens) of (deep b at), refl)))

      -- Feeding leads from each branch with the position c to a branch with the position d.
      module _ (d : Position) (shifted : ℕ) (feeds : FeedsTo c tokens d shifted) (is : d.table ≡ c.table) where
        fed_branch : (b : Branch) → HasPosition b c → (next : Branch) × HasPosition next d × IsFed old.table b tokens next shifted
        fed_branch b at = let f = feeds b at in (f.0, f.1, subst (λ (t : TableData). IsFed t b tokens f.0 shifted) of f.2)

        phase_after : (next : Branch) → HasPosition next d → phase_at old.table next ≡ phase_of d
        phase_after next at = phase_is old.table next d at (is ∙ of)

        fed_answer : IsAnswerOfBranches old (commands.Feed name tokens) (Ok (replies.Fed shifted (phase_of d)))
        fed_answer = feed_answered (Ok (replies.Fed shifted (phase_of d)))
            (λ b at. let f = fed_branch b at in asked b (Ok (replies.Fed shifted (phase_of d))) (inl (f.0, shifted, f.2, ap (λ (p : Phase). Ok (replies.Fed shifted p)) (phase_after f.0 f.1))))

        fed_branches : (new : SessionState) → ChangesName old name (Some d) new → (bs : Branches) → Represents old bs → (after : Branches) × AreBranchesAfter old.table bs (commands.Feed name tokens) after × Represents new after
        fed_branches new put bs all =
            let held = held_name_has_branch old bs name c all has in
            let f = fed_branch held.0 held.2 in (
              with_name name f.0 bs,
              subst (λ (o : Option Branch). AreBranchesFed old.table name o tokens bs (with_name name f.0 bs)) (sym held.1) (f.0, shifted, f.2, refl),
              puts_fit old new bs name f.0 d all put f.1 (is ∙ of),
            )

        pub feed_served : (new : SessionState) (r : Answer) → IfOk r (λ x. x ≡ replies.Fed shifted (phase_of d)) → IfErr r (λ f. f ≡ faults.Memory) → OnOk r (ChangesName old name (Some d) new) → OnErr r (new ≡ old) → IsServed old (commands.Feed name tokens) new r
        feed_served new (Ok reply) reply_is fault put same = (
          put.table,
          subst (λ (x : Reply). IsAnswerOfBranches old (commands.Feed name tokens) (Ok x)) (sym reply_is) fed_answer,
          fed_branches new put,
        )
        feed_served new (Err fault) reply_is f put same = subst (λ (x : SessionFault). IsServed old (commands.Feed name tokens) new (Err x)) (sym f) same

-- ---- The stack.

pub stack_served : (old : SessionState) (name : Text) (c : Position) (symbols : List Symbol) → at_name name old.held ≡ Some c → c.table ≡ old.table → symbols ≡ stack_symbols c → IsServed old (commands.Stack name) old (Ok (replies.Stack symbols))
stack_served old name c symbols has of is = (
  refl,
  λ bs all.
      let f = held_name_has_branch old bs name c all has in
      ap (λ (o : Option Branch). if_name_held o (λ b. Ok (replies.Stack (stack_symbols (position_of old.table b))))) f.1 ∙ ap (λ (p : Position). Ok (replies.Stack (stack_symbols p))) (position_is old.table f.0 c f.2 of)
      ∙ ap (λ (l : List Symbol). Ok (replies.Stack l)) (sym is),
  λ bs all. (bs, refl, all),
)

wrong_lists : (t : TableData) (b : Branch) (p : Phase) → ((s : ℕ) → p ≡ phases.InputNeeded s → ⊥) → ListsExpected t b p (Err (faults.WrongPhase p))
wrong_lists t b (phases.InputNeeded s) none = absurd (none s refl)
wrong_lists t b (phases.Shifting s z) none = refl
wrong_lists t b (phases.AboutToReduce s p) none = refl
wrong_lists t b (phases.HandlingError s) none = refl
wrong_lists t b phases.Accepted none = refl
wrong_lists t b phases.Rejected none = refl

pub wrong_phase_served : (old : SessionState) (name : Text) (c : Position) (p : Phase) → at_name name old.held ≡ Some c → c.table ≡ old.table → p ≡ phase_of c → ((s : ℕ) → p ≡ phases.InputNeeded s → ⊥) → IsAnswerOfBranches old (commands.Expected name) (Err (faults.WrongPhase p))
wrong_phase_served old name c p has of is none = λ bs all.
    expected_of_held old bs name c (Err (faults.WrongPhase p)) all has of (λ b at. subst (λ (q : Phase). ListsExpected old.table b q (Err (faults.WrongPhase p))) is (wrong_lists old.table b p none))

pub unknown_served : (old : SessionState) (name : Text) → at_name name old.held ≡ None → IsAnswerOfBranches old (commands.Expected name) (Err faults.UnknownName)
unknown_served old name none = λ bs all. subst (λ (o : Option Branch). IsAnswerIfHeld o (λ b. ListsExpected old.table b (phase_at old.table b)) (Err faults.UnknownName)) (sym (free_name_has_no_branch old bs name all none)) refl
