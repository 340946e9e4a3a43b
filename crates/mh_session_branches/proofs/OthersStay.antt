-- Proves that a command changes no branch but that of a name that it may change.
use Rattle.std.proofs.Common.{◌≡◌, ℕ, List, false, Option, Some, None, Ok, Err, refl, ap, ◌∙◌, inl, inr}
use Rattle.std.proofs.lemmas.Bool.{cond-false}
use Rattle.mh_grammar.proofs.TextEquality.{same_cases}
use Rattle.mh_grammar.specs.Text.{Text}
use Rattle.mh_grammar.specs.declared.types.Grammar.{Grammar}
use Rattle.mh_tables_core.specs.Table.{TableData}
use Rattle.mh_engine.specs.Branches.{Branch, new_branch, with_token, with_step}
use Rattle.mh_msgfile.specs.Sentences.{vocabulary_of}
use Rattle.mh_session_branches.specs.declared.command.Command.{Command}
use Rattle.mh_session_branches.specs.declared.command.Command.TheVariants as commands
use Rattle.mh_session_branches.specs.Answers.{Answer, Branches, AreBranchesFed, AreBranchesAfter, AreBranchesAfterAnswer, with_changed_branch}
use Rattle.mh_session_branches.specs.ChangedNames.{MayChange}
use Rattle.mh_session_branches.specs.LineForms.{LineMeaning, LineMeans, Asks, NamesNoStart, LacksStart, NamesNoToken}
use Rattle.mh_session_branches.specs.Names.{same, at_name, without_name, with_name}
use Rattle.mh_session_branches.specs.Replies.{AnswersLine, AnswersMeaning}
use Rattle.mh_session_branches.proofs.WithoutName.{without_other}

differs : (q name : Text) → (q ≡ name → ⊥) → same q name ≡ false
differs q name n = elim (same_cases q name) [ inl e ↦ absurd (n e) | inr d ↦ d.0 ]

with_other : (q name : Text) (b : Branch) (bs : Branches) → (q ≡ name → ⊥) → at_name q (with_name name b bs) ≡ at_name q bs
with_other q name b bs n = cond-false (same q name) (Some b) (at_name q (without_name name bs)) (differs q name n) ∙ without_other q name bs (differs q name n)

changed_other : (q name : Text) (o : Option Branch) (f : Branch → Branch) (bs : Branches) → (q ≡ name → ⊥) → at_name q (with_changed_branch name o f bs) ≡ at_name q bs
changed_other q name None f bs n = refl
changed_other q name (Some b) f bs n = with_other q name (f b) bs n

fed_other : (t : TableData) (q name : Text) (o : Option Branch) (tokens : List ℕ) (bs after : Branches) → AreBranchesFed t name o tokens bs after → (q ≡ name → ⊥) → at_name q after ≡ at_name q bs
fed_other t q name None tokens bs after h n = ap (at_name q) h
fed_other t q name (Some b) tokens bs after h n = ap (at_name q) h.3 ∙ with_other q name h.0 bs n

command_other : (t : TableData) (q : Text) (bs after : Branches) (command : Command) → AreBranchesAfter t bs command after → (MayChange command q → ⊥) → at_name q after ≡ at_name q bs
command_other t q bs after (commands.Begin name start) h n = ap (at_name q) h ∙ with_other q name (new_branch start) bs n
command_other t q bs after (commands.Offer name token) h n = ap (at_name q) h ∙ changed_other q name (at_name name bs) (λ b. with_token b token) bs n
command_other t q bs after (commands.Feed name tokens) h n = fed_other t q name (at_name name bs) tokens bs after h n
command_other t q bs after (commands.Resume name) h n = ap (at_name q) h ∙ changed_other q name (at_name name bs) with_step bs n
command_other t q bs after (commands.Fork name fresh) h n = ap (at_name q) h ∙ changed_other q fresh (at_name name bs) (λ b. b) bs n
command_other t q bs after (commands.Show name) h n = ap (at_name q) h
command_other t q bs after (commands.Stack name) h n = ap (at_name q) h
command_other t q bs after (commands.Tree name) h n = ap (at_name q) h
command_other t q bs after (commands.Expected name) h n = ap (at_name q) h
command_other t q bs after (commands.Forget name) h n = ap (at_name q) h ∙ without_other q name bs (differs q name n)

pub others_after_command : (t : TableData) (a : Answer) (bs after : Branches) (command : Command) (other : Text) → AreBranchesAfterAnswer t a bs command after → (MayChange command other → ⊥) → at_name other after ≡ at_name other bs
others_after_command t (Ok reply) bs after command other h n = command_other t other bs after command h n
others_after_command t (Err fault) bs after command other h n = ap (at_name other) h

module _ (g : Grammar) (t : TableData) (bs : Branches) (line text : Text) (after : Branches) (other : Text) (n : (command : Command) → LineMeans (vocabulary_of g) line (Asks command) → MayChange command other → ⊥) where
  others_after_meaning : (said : LineMeaning) → LineMeans (vocabulary_of g) line said → AnswersMeaning g t bs said text after → at_name other after ≡ at_name other bs
  others_after_meaning (Asks command) means h = others_after_command t h.0 bs after command other h.3 (n command means)
  others_after_meaning (NamesNoStart name) means h = ap (at_name other) h.1
  others_after_meaning LacksStart means h = ap (at_name other) h.1
  others_after_meaning (NamesNoToken name) means h = ap (at_name other) h.1

  pub others_after_line : AnswersLine g t bs line text after → at_name other after ≡ at_name other bs
  others_after_line (inl h) = others_after_meaning h.0 h.1 h.2
  others_after_line (inr h) = ap (at_name other) h.2
