-- The definition of the decision on each line of a messages file that is rebased onto another grammar: its sentence is
-- kept, or the line is dropped for a reason. The rule is this project's own; that each sentence fails at its last
-- token, and that no two fail in one state, is the soundness of Pottier 2016.
use Rattle.std.specs.Prelude.{◌≡◌, ℕ, ◌+◌, ◌<◌, ◌==◌, Bool, true, false, List, [], ◌∷◌, ◌++◌, length, Option, None, Some, if◌then◌else◌, ⊤}
use Rattle.mh_grammar.specs.declared.types.Grammar.{Grammar}
use Rattle.mh_grammar.specs.declared.types.Sentence.{Sentence}
use Rattle.mh_grammar.specs.Text.{Text}
use Rattle.mh_items_kernels.specs.KernelTypes.{Automaton}
use Rattle.mh_tables_core.specs.Table.{TableData}
use Rattle.mh_tables_core.specs.Run.{VerdictOf, Rejected}
use Rattle.mh_tables_core.specs.Failing.{Fails}
use Rattle.mh_run.specs.Verdicts.{ending_for}
use Rattle.mh_run.specs.declared.outcome.Verdict.{Verdict}
use Rattle.mh_msgfile.specs.Sentences.{Vocabulary, vocabulary_of, IsSentence, IsUnreadable, NamesNoStart, LacksStart, NamesUnknown, sentence_in}
use Rattle.mh_msgfile.specs.declared.loose.LooseLine.{LooseLine}
use Rattle.mh_check.specs.Checks.{IsNoRefusal}
use Rattle.mh_report.specs.Comments.{IsCommentBlock}
use Rattle.mh_rebase.specs.declared.reason.DropReason.{DropReason}
use Rattle.mh_rebase.specs.declared.reason.DropReason.TheVariants as reasons

-- The decision on a line. Its sentence is kept, with the state in which the sentence fails and its comment lines; or
-- the line is dropped.
pub data Decision : Type 0 where
  Keep : (sentence : Sentence) (state : ℕ) (comments : Text) → Decision
  Drop : DropReason → Decision

-- A line with the decision on it.
pub record DecidedLine : Type 0 where
  pub line : LooseLine
  pub decision : Decision

abbrev pub is_keep : Decision → Bool
is_keep (Keep sentence state comments) = true
is_keep (Drop reason) = false

-- Whether a sentence is kept that fails in state s.
abbrev pub keeps_in : ℕ → Decision → Bool
keeps_in s (Keep sentence state comments) = state == s
keeps_in s (Drop reason) = false

-- The number of the kept line whose sentence fails in state s, if there is one.
abbrev pub kept_line : List DecidedLine → ℕ → Option ℕ
kept_line [] s = None
kept_line (j ∷ js) s = if keeps_in s j.decision then Some j.line.line else kept_line js s

-- The line is dropped for this reason; `before` are the lines before it with their decisions. At most one reason
-- applies to a line, since each of them implies that none of the earlier ones applies.
pub data IsReason (v : Vocabulary) (t : TableData) (before : List DecidedLine) (text : Text) : DropReason → Type 0 where
  LineIsUnreadable : sentence_in v text ≡ IsUnreadable → IsReason v t before text reasons.Unreadable
  StartIsUnknown : (name : Text) → sentence_in v text ≡ NamesNoStart name → IsReason v t before text (reasons.UnknownStart name)
  StartIsMissing : sentence_in v text ≡ LacksStart → IsReason v t before text reasons.MissingStart
  TokenIsUnknown : (name : Text) → sentence_in v text ≡ NamesUnknown name → IsReason v t before text (reasons.UnknownToken name)
  SentenceIsNotRefused : (x : Sentence) (verdict : Verdict) → sentence_in v text ≡ IsSentence x → IsNoRefusal (ending_for verdict) → VerdictOf t x.start x.tokens (ending_for verdict) → IsReason v t before text (reasons.NotRefused verdict)
  SentenceIsRefusedEarly : (x : Sentence) (at s : ℕ) → sentence_in v text ≡ IsSentence x → at + 1 < length x.tokens → VerdictOf t x.start x.tokens (Rejected at s) → IsReason v t before text (reasons.RefusedEarly at)
  StateIsShared : (x : Sentence) (s line : ℕ) → sentence_in v text ≡ IsSentence x → Fails t x.start x.tokens s → kept_line before s ≡ Some line → IsReason v t before text (reasons.SharedState s line)

-- The line is a sentence that fails at its last token, and no kept line before it fails in the same state. The comment
-- lines end with the expected tokens, if `expected` is true.
pub record IsKept (expected : Bool) (g : Grammar) (a : Automaton) (t : TableData) (before : List DecidedLine) (text : Text) (sentence : Sentence) (state : ℕ) (comments : Text) : Type 0 where
  pub read : sentence_in (vocabulary_of g) text ≡ IsSentence sentence
  pub fails : Fails t sentence.start sentence.tokens state
  pub first : kept_line before state ≡ None
  pub commented : IsCommentBlock expected g a t sentence.start sentence.tokens comments

abbrev pub IsDecision : (expected : Bool) → Grammar → Automaton → TableData → List DecidedLine → Text → Decision → Type 0
IsDecision expected g a t before text (Keep sentence state comments) = IsKept expected g a t before text sentence state comments
IsDecision expected g a t before text (Drop reason) = IsReason (vocabulary_of g) t before text reason

-- The decision on each of these lines is right, given the decisions on the lines before it.
abbrev pub AreDecided : (expected : Bool) → Grammar → Automaton → TableData → List DecidedLine → List DecidedLine → Type 0
AreDecided expected g a t before [] = ⊤
AreDecided expected g a t before (j ∷ js) = IsDecision expected g a t before j.line.text j.decision × AreDecided expected g a t (before ++ j ∷ []) js
