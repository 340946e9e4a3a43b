-- The definition of the answer to a session command: the run of the branch that the command names is made anew from its
-- start. The definition is this project's own.
use Rattle.std.specs.Prelude.{◌≡◌, ◌⊎◌, ◌<◌, ℕ, List, [], ◌∷◌, length, Option, Some, None, Result, Ok, Err, cond}
use Rattle.std.specs.List.{All}
use Rattle.mh_tables_core.specs.Table.{TableData}
use Rattle.mh_grammar.specs.Trees.{SyntaxTree, Leaf}
use Rattle.mh_tables_core.specs.TooDeep.{too_deep}
use Rattle.mh_engine.specs.Phases.{phase_of}
use Rattle.mh_engine.specs.Branches.{Branch, new_branch, with_token, with_step, position_of}
use Rattle.mh_engine.specs.Feeding.{IsFed, IsFedTooDeep}
use Rattle.mh_engine.specs.StackSymbols.{stack_symbols}
use Rattle.mh_engine.specs.declared.phase.Phase.{Phase}
use Rattle.mh_engine.specs.declared.phase.Phase.TheVariants as phases
use Rattle.mh_expected.specs.Expected.{ExpectedTokens}
use Rattle.mh_session_branches.specs.declared.command.Command.{Command}
use Rattle.mh_session_branches.specs.declared.command.Command.TheVariants as commands
use Rattle.mh_session_branches.specs.declared.reply.Reply.{Reply}
use Rattle.mh_session_branches.specs.declared.reply.Reply.TheVariants as replies
use Rattle.mh_session_branches.specs.declared.reply.SessionFault.{SessionFault}
use Rattle.mh_session_branches.specs.declared.reply.SessionFault.TheVariants as faults
use Rattle.mh_grammar.specs.Text.{Text}
use Rattle.mh_session_branches.specs.Names.{at_name, without_name, with_name}

-- A list of branches with their names.
abbrev pub Branches : Type 0
Branches = List (Text × Branch)

abbrev pub Answer : Type 0
Answer = Result Reply SessionFault

-- The phase of a branch.
abbrev pub phase_at : TableData → Branch → Phase
phase_at t b = phase_of (position_of t b)

abbrev pub phase_answer : TableData → Branch → Answer
phase_answer t b = Ok (replies.Phase (phase_at t b))

-- The first tree of a list; a run that accepts has exactly one.
abbrev pub only_tree : List SyntaxTree → SyntaxTree
only_tree [] = Leaf 0
only_tree (tree ∷ trees) = tree

-- The answer to an offer of the token z to the branch b, which is in this phase.
abbrev pub answer_to_offer : TableData → Branch → ℕ → Phase → Answer
answer_to_offer t b z (phases.InputNeeded s) = phase_answer t (with_token b z)
answer_to_offer t b z (phases.Shifting s y) = Err (faults.WrongPhase (phases.Shifting s y))
answer_to_offer t b z (phases.AboutToReduce s p) = Err (faults.WrongPhase (phases.AboutToReduce s p))
answer_to_offer t b z (phases.HandlingError s) = Err (faults.WrongPhase (phases.HandlingError s))
answer_to_offer t b z phases.Accepted = Err (faults.WrongPhase phases.Accepted)
answer_to_offer t b z phases.Rejected = Err (faults.WrongPhase phases.Rejected)

abbrev pub step_or_deep : TableData → Branch → Answer
step_or_deep t b = cond (too_deep (position_of t b).pairs.trees) (Err faults.TooDeep) (phase_answer t b)

abbrev pub answer_to_resume : TableData → Branch → Phase → Answer
answer_to_resume t b (phases.InputNeeded s) = Err (faults.WrongPhase (phases.InputNeeded s))
answer_to_resume t b (phases.Shifting s y) = step_or_deep t (with_step b)
answer_to_resume t b (phases.AboutToReduce s p) = step_or_deep t (with_step b)
answer_to_resume t b (phases.HandlingError s) = step_or_deep t (with_step b)
answer_to_resume t b phases.Accepted = Err (faults.WrongPhase phases.Accepted)
answer_to_resume t b phases.Rejected = Err (faults.WrongPhase phases.Rejected)

abbrev pub answer_to_tree : TableData → Branch → Phase → Answer
answer_to_tree t b (phases.InputNeeded s) = Err (faults.WrongPhase (phases.InputNeeded s))
answer_to_tree t b (phases.Shifting s y) = Err (faults.WrongPhase (phases.Shifting s y))
answer_to_tree t b (phases.AboutToReduce s p) = Err (faults.WrongPhase (phases.AboutToReduce s p))
answer_to_tree t b (phases.HandlingError s) = Err (faults.WrongPhase (phases.HandlingError s))
answer_to_tree t b phases.Accepted = Ok (replies.Tree (only_tree (position_of t b).pairs.trees))
answer_to_tree t b phases.Rejected = Err (faults.WrongPhase phases.Rejected)

-- The answer if the name has a branch, else the fault `UnknownName`.
abbrev pub if_name_held : Option Branch → (Branch → Answer) → Answer
if_name_held None f = Err faults.UnknownName
if_name_held (Some b) f = f b

-- The answer if the name has no branch, else the fault `NameTaken`.
abbrev pub if_name_free : Option Branch → Answer → Answer
if_name_free None a = a
if_name_free (Some b) a = Err faults.NameTaken

-- The answer to `expected` for a branch in this phase: the list of the tokens that are expected after the tokens of the
-- branch, or the fault of a wrong phase.
abbrev pub ListsExpected : TableData → Branch → Phase → Answer → Type 0
ListsExpected t b (phases.InputNeeded s) a = (list : List ℕ) × ExpectedTokens t b.start b.offered list × (Ok (replies.Expected list) ≡ a)
ListsExpected t b (phases.Shifting s y) a = Err (faults.WrongPhase (phases.Shifting s y)) ≡ a
ListsExpected t b (phases.AboutToReduce s p) a = Err (faults.WrongPhase (phases.AboutToReduce s p)) ≡ a
ListsExpected t b (phases.HandlingError s) a = Err (faults.WrongPhase (phases.HandlingError s)) ≡ a
ListsExpected t b phases.Accepted a = Err (faults.WrongPhase phases.Accepted) ≡ a
ListsExpected t b phases.Rejected a = Err (faults.WrongPhase phases.Rejected) ≡ a

-- The answer to feeding tokens to a branch in this phase: the number of tokens that are shifted, with the phase of the
-- branch to which feeding leads; or the fault of a step that is too deep, or of a wrong phase.
abbrev pub AnswersFeed : TableData → Branch → List ℕ → Phase → Answer → Type 0
AnswersFeed t b tokens (phases.InputNeeded s) a =
    ((next : Branch) × (shifted : ℕ) × IsFed t b tokens next shifted × (Ok (replies.Fed shifted (phase_at t next)) ≡ a))
    ⊎ (IsFedTooDeep t b tokens × (Err faults.TooDeep ≡ a))
AnswersFeed t b tokens (phases.Shifting s y) a = Err (faults.WrongPhase (phases.Shifting s y)) ≡ a
AnswersFeed t b tokens (phases.AboutToReduce s p) a = Err (faults.WrongPhase (phases.AboutToReduce s p)) ≡ a
AnswersFeed t b tokens (phases.HandlingError s) a = Err (faults.WrongPhase (phases.HandlingError s)) ≡ a
AnswersFeed t b tokens phases.Accepted a = Err (faults.WrongPhase phases.Accepted) ≡ a
AnswersFeed t b tokens phases.Rejected a = Err (faults.WrongPhase phases.Rejected) ≡ a

-- If the name has no branch, the answer is the fault `UnknownName`; otherwise the branch and the answer are related.
abbrev pub IsAnswerIfHeld : Option Branch → (Branch → Answer → Type 0) → Answer → Type 0
IsAnswerIfHeld None Is a = Err faults.UnknownName ≡ a
IsAnswerIfHeld (Some b) Is a = Is b a

-- The answer to a command.
abbrev pub IsAnswer : TableData → Branches → Command → Answer → Type 0
IsAnswer t bs (commands.Begin name start) a = if_name_free (at_name name bs) (phase_answer t (new_branch start)) ≡ a
IsAnswer t bs (commands.Offer name token) a = if_name_held (at_name name bs) (λ b. answer_to_offer t b token (phase_at t b)) ≡ a
IsAnswer t bs (commands.Feed name tokens) a = IsAnswerIfHeld (at_name name bs) (λ b. AnswersFeed t b tokens (phase_at t b)) a
IsAnswer t bs (commands.Resume name) a = if_name_held (at_name name bs) (λ b. answer_to_resume t b (phase_at t b)) ≡ a
IsAnswer t bs (commands.Fork name fresh) a = if_name_held (at_name name bs) (λ b. if_name_free (at_name fresh bs) (phase_answer t b)) ≡ a
IsAnswer t bs (commands.Show name) a = if_name_held (at_name name bs) (phase_answer t) ≡ a
IsAnswer t bs (commands.Stack name) a = if_name_held (at_name name bs) (λ b. Ok (replies.Stack (stack_symbols (position_of t b)))) ≡ a
IsAnswer t bs (commands.Tree name) a = if_name_held (at_name name bs) (λ b. answer_to_tree t b (phase_at t b)) ≡ a
IsAnswer t bs (commands.Expected name) a = IsAnswerIfHeld (at_name name bs) (λ b. ListsExpected t b (phase_at t b)) a
IsAnswer t bs (commands.Forget name) a = if_name_held (at_name name bs) (λ b. Ok replies.Forgotten) ≡ a

-- The branches after the branch of a name, if there is one, is changed by f and given to a name.
abbrev pub with_changed_branch : Text → Option Branch → (Branch → Branch) → Branches → Branches
with_changed_branch name None f bs = bs
with_changed_branch name (Some b) f bs = with_name name (f b) bs

-- The branches after tokens are fed to the branch of a name, if there is one.
abbrev pub AreBranchesFed : TableData → Text → Option Branch → List ℕ → Branches → Branches → Type 0
AreBranchesFed t name None tokens bs after = after ≡ bs
AreBranchesFed t name (Some b) tokens bs after = (next : Branch) × (shifted : ℕ) × IsFed t b tokens next shifted × (after ≡ with_name name next bs)

-- The branches after a command that is not refused.
abbrev pub AreBranchesAfter : TableData → Branches → Command → Branches → Type 0
AreBranchesAfter t bs (commands.Begin name start) after = after ≡ with_name name (new_branch start) bs
AreBranchesAfter t bs (commands.Offer name token) after = after ≡ with_changed_branch name (at_name name bs) (λ b. with_token b token) bs
AreBranchesAfter t bs (commands.Feed name tokens) after = AreBranchesFed t name (at_name name bs) tokens bs after
AreBranchesAfter t bs (commands.Resume name) after = after ≡ with_changed_branch name (at_name name bs) with_step bs
AreBranchesAfter t bs (commands.Fork name fresh) after = after ≡ with_changed_branch fresh (at_name name bs) (λ b. b) bs
AreBranchesAfter t bs (commands.Show name) after = after ≡ bs
AreBranchesAfter t bs (commands.Stack name) after = after ≡ bs
AreBranchesAfter t bs (commands.Tree name) after = after ≡ bs
AreBranchesAfter t bs (commands.Expected name) after = after ≡ bs
AreBranchesAfter t bs (commands.Forget name) after = after ≡ without_name name bs

-- The branches after a command with this answer; a refused command changes nothing.
abbrev pub AreBranchesAfterAnswer : TableData → Answer → Branches → Command → Branches → Type 0
AreBranchesAfterAnswer t (Ok reply) bs command after = AreBranchesAfter t bs command after
AreBranchesAfterAnswer t (Err fault) bs command after = after ≡ bs

-- The start or the tokens of the command are those of the table.
abbrev pub IsCommandOf : TableData → Command → Type 0
IsCommandOf t (commands.Begin name start) = start < length t.grammar.starts
IsCommandOf t (commands.Offer name token) = token < t.grammar.tokens
IsCommandOf t (commands.Feed name tokens) = All (λ z. z < t.grammar.tokens) tokens
IsCommandOf t (commands.Resume name) = Unit {0}
IsCommandOf t (commands.Fork name fresh) = Unit {0}
IsCommandOf t (commands.Show name) = Unit {0}
IsCommandOf t (commands.Stack name) = Unit {0}
IsCommandOf t (commands.Tree name) = Unit {0}
IsCommandOf t (commands.Expected name) = Unit {0}
IsCommandOf t (commands.Forget name) = Unit {0}

-- The answers to a list of commands, one after another.
abbrev pub AreAnswers : TableData → Branches → List Command → List Answer → Type 0
AreAnswers t bs [] more = more ≡ []
AreAnswers t bs (command ∷ rest) [] = ⊥
AreAnswers t bs (command ∷ rest) (a ∷ more) = IsAnswer t bs command a × ((after : Branches) × AreBranchesAfterAnswer t a bs command after × AreAnswers t after rest more)
