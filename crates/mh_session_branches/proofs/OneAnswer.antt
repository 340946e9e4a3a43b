-- Proves that two answers to the same line are equal.
use Rattle.std.proofs.Common.{◌≡◌, ℕ, List, Option, Some, None, refl, sym, ap, ap₂, subst, ◌∙◌, inl, inr, Ok, Err}
use Rattle.mh_grammar.specs.declared.types.Grammar.{Grammar}
use Rattle.mh_tables_core.specs.Table.{TableData}
use Rattle.mh_engine.specs.Branches.{Branch}
use Rattle.mh_engine.proofs.IsFed.{fed_once}
use Rattle.mh_engine.specs.declared.phase.Phase.{Phase}
use Rattle.mh_engine.specs.declared.phase.Phase.TheVariants as phases
use Rattle.mh_expected.proofs.ExpectedTokens.{one_list}
use Rattle.mh_msgfile.specs.Sentences.{vocabulary_of}
use Rattle.mh_grammar.specs.Text.{Text}
use Rattle.mh_session_branches.specs.declared.command.Command.{Command}
use Rattle.mh_session_branches.specs.declared.command.Command.TheVariants as commands
use Rattle.mh_session_branches.specs.declared.reply.Reply.TheVariants as replies
use Rattle.mh_session_branches.specs.declared.reply.SessionFault.TheVariants as faults
use Rattle.mh_session_branches.specs.Answers.{Branches, Answer, IsAnswer, AnswersFeed, ListsExpected, IsAnswerIfHeld, AreBranchesFed, AreBranchesAfter, AreBranchesAfterAnswer, phase_at}
use Rattle.mh_session_branches.specs.LineForms.{LineMeaning, Asks, NamesNoStart, LacksStart, NamesNoToken}
use Rattle.mh_session_branches.specs.Names.{at_name, with_name}
use Rattle.mh_session_branches.proofs.OneForm.{meaning_unique}
use Rattle.mh_session_branches.specs.Replies.{AnswersLine, AnswersMeaning, answer_text, replied_name}

-- Two answers to `expected` for the same branch are equal.
lists_once : (t : TableData) (b : Branch) (p : Phase) (x y : Answer) → ListsExpected t b p x → ListsExpected t b p y → x ≡ y
lists_once t b (phases.InputNeeded s) x y h k = sym h.2 ∙ ap (λ tokens. Ok (replies.Expected tokens)) (one_list t b.start b.offered h.0 k.0 h.1 k.1) ∙ k.2
lists_once t b (phases.Shifting s z) x y h k = sym h ∙ k
lists_once t b (phases.AboutToReduce s p) x y h k = sym h ∙ k
lists_once t b (phases.HandlingError s) x y h k = sym h ∙ k
lists_once t b phases.Accepted x y h k = sym h ∙ k
lists_once t b phases.Rejected x y h k = sym h ∙ k

-- Two answers to feeding the same tokens to the same branch are equal.
feeds_once : (t : TableData) (b : Branch) (tokens : List ℕ) (p : Phase) (x y : Answer) → AnswersFeed t b tokens p x → AnswersFeed t b tokens p y → x ≡ y
feeds_once t b tokens (phases.InputNeeded s) x y (inl h) (inl k) =
    let one = fed_once t b tokens h.0 k.0 h.1 k.1 h.2 k.2 in
    sym h.3 ∙ ap₂ (λ (shifted : ℕ) (next : Branch). Ok (replies.Fed shifted (phase_at t next))) one.1 one.0 ∙ k.3
feeds_once t b tokens (phases.InputNeeded s) x y (inl h) (inr k) = absurd (h.2.fits k.0)
feeds_once t b tokens (phases.InputNeeded s) x y (inr h) (inl k) = absurd (k.2.fits h.0)
feeds_once t b tokens (phases.InputNeeded s) x y (inr h) (inr k) = sym h.1 ∙ k.1
feeds_once t b tokens (phases.Shifting s z) x y h k = sym h ∙ k
feeds_once t b tokens (phases.AboutToReduce s p) x y h k = sym h ∙ k
feeds_once t b tokens (phases.HandlingError s) x y h k = sym h ∙ k
feeds_once t b tokens phases.Accepted x y h k = sym h ∙ k
feeds_once t b tokens phases.Rejected x y h k = sym h ∙ k

-- Two answers on the branch of a name are equal if two answers on one branch are.
held_once : (o : Option Branch) (Is : Branch → Answer → Type 0) (x y : Answer) → ((b : Branch) → Is b x → Is b y → x ≡ y) → IsAnswerIfHeld o Is x → IsAnswerIfHeld o Is y → x ≡ y
held_once None Is x y once h k = sym h ∙ k
held_once (Some b) Is x y once h k = once b h k

-- Two answers to the same command are equal.
pub one_answer : (t : TableData) (bs : Branches) (command : Command) (x y : Answer) → IsAnswer t bs command x → IsAnswer t bs command y → x ≡ y
one_answer t bs (commands.Begin name start) x y h k = sym h ∙ k
one_answer t bs (commands.Offer name token) x y h k = sym h ∙ k
one_answer t bs (commands.Feed name tokens) x y h k = held_once (at_name name bs) (λ b. AnswersFeed t b tokens (phase_at t b)) x y (λ b. feeds_once t b tokens (phase_at t b) x y) h k
one_answer t bs (commands.Resume name) x y h k = sym h ∙ k
one_answer t bs (commands.Fork name fresh) x y h k = sym h ∙ k
one_answer t bs (commands.Show name) x y h k = sym h ∙ k
one_answer t bs (commands.Stack name) x y h k = sym h ∙ k
one_answer t bs (commands.Tree name) x y h k = sym h ∙ k
one_answer t bs (commands.Expected name) x y h k = held_once (at_name name bs) (λ b. ListsExpected t b (phase_at t b)) x y (λ b. lists_once t b (phase_at t b) x y) h k
one_answer t bs (commands.Forget name) x y h k = sym h ∙ k

fed_branches_once : (t : TableData) (name : Text) (o : Option Branch) (tokens : List ℕ) (bs x y : Branches) → AreBranchesFed t name o tokens bs x → AreBranchesFed t name o tokens bs y → x ≡ y
fed_branches_once t name None tokens bs x y h k = h ∙ sym k
fed_branches_once t name (Some b) tokens bs x y h k = h.3 ∙ ap (λ (next : Branch). with_name name next bs) (fed_once t b tokens h.0 k.0 h.1 k.1 h.2 k.2).0 ∙ sym k.3

-- The branches after a command are determined.
pub branches_once : (t : TableData) (bs : Branches) (command : Command) (x y : Branches) → AreBranchesAfter t bs command x → AreBranchesAfter t bs command y → x ≡ y
branches_once t bs (commands.Begin name start) x y h k = h ∙ sym k
branches_once t bs (commands.Offer name token) x y h k = h ∙ sym k
branches_once t bs (commands.Feed name tokens) x y h k = fed_branches_once t name (at_name name bs) tokens bs x y h k
branches_once t bs (commands.Resume name) x y h k = h ∙ sym k
branches_once t bs (commands.Fork name fresh) x y h k = h ∙ sym k
branches_once t bs (commands.Show name) x y h k = h ∙ sym k
branches_once t bs (commands.Stack name) x y h k = h ∙ sym k
branches_once t bs (commands.Tree name) x y h k = h ∙ sym k
branches_once t bs (commands.Expected name) x y h k = h ∙ sym k
branches_once t bs (commands.Forget name) x y h k = h ∙ sym k

pub branches_after_once : (t : TableData) (a : Answer) (bs : Branches) (command : Command) (x y : Branches) → AreBranchesAfterAnswer t a bs command x → AreBranchesAfterAnswer t a bs command y → x ≡ y
branches_after_once t (Ok reply) bs command x y h k = branches_once t bs command x y h k
branches_after_once t (Err fault) bs command x y h k = h ∙ sym k

-- Two answers to lines with the same meaning are equal, and the branches after the lines are equal.
said_once : (g : Grammar) (t : TableData) (bs : Branches) (said : LineMeaning) (a b : Text) (x y : Branches) → AnswersMeaning g t bs said a x → AnswersMeaning g t bs said b y → (a ≡ b) × (x ≡ y)
said_once g t bs (Asks command) a b x y h k =
    let one = one_answer t bs command h.0 k.0 h.1 k.1 in
    (h.2 ∙ ap (answer_text g (replied_name command)) one ∙ sym k.2, branches_after_once t k.0 bs command x y (subst (λ (r : Answer). AreBranchesAfterAnswer t r bs command x) one h.3) k.3)
said_once g t bs (NamesNoStart name) a b x y h k = (h.0 ∙ sym k.0, h.1 ∙ sym k.1)
said_once g t bs LacksStart a b x y h k = (h.0 ∙ sym k.0, h.1 ∙ sym k.1)
said_once g t bs (NamesNoToken name) a b x y h k = (h.0 ∙ sym k.0, h.1 ∙ sym k.1)

pub answer_once : (g : Grammar) (t : TableData) (bs : Branches) (line a b : Text) (x y : Branches) → AnswersLine g t bs line a x → AnswersLine g t bs line b y → (a ≡ b) × (x ≡ y)
answer_once g t bs line a b x y (inl p) (inl q) =
    let same = meaning_unique (vocabulary_of g) line p.0 q.0 p.1 q.1 in
    said_once g t bs q.0 a b x y (subst (λ (said : LineMeaning). AnswersMeaning g t bs said a x) same p.2) q.2
answer_once g t bs line a b x y (inl p) (inr q) = absurd (q.0 p.1.0 p.1.1)
answer_once g t bs line a b x y (inr p) (inl q) = absurd (p.0 q.1.0 q.1.1)
answer_once g t bs line a b x y (inr p) (inr q) = (p.1 ∙ sym q.1, p.2 ∙ sym q.2)
