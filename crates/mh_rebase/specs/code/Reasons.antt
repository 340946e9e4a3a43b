-- The contracts of the functions that decide on a line, by its fault or by the verdict on its sentence.
use Rattle.std.specs.Prelude.{◌≡◌, ◌≢◌, ℕ, ◌+◌, List, Option, None, Some, slice_get, option_and_then, Err}
use Rattle.mh_grammar.specs.Text.{Text}
use Rattle.mh_tables_core.specs.Table.{TableData}
use Rattle.mh_msgfile.specs.Sentences.{Vocabulary, sentence_in, ReadsSentence}
use Rattle.mh_msgfile.specs.declared.sentence.SentenceFault.{SentenceFault}
use Rattle.mh_rebase.specs.Decisions.{DecidedLine, IsReason}
use Rattle.mh_run.specs.Verdicts.{ending_for}
use Rattle.mh_run.specs.declared.outcome.Verdict.{Verdict}
use Rattle.mh_run.specs.declared.outcome.Verdict.TheVariants.{Reject}
use Rattle.mh_check.specs.Checks.{IsNoRefusal}
use Rattle.mh_rebase.specs.declared.reason.DropReason.{DropReason}
use Rattle.mh_rebase.specs.declared.reason.DropReason.TheVariants as reasons

-- Each line with this fault is dropped for this reason.
abbrev pub IsReasonOfFault : SentenceFault → DropReason → Type 0
IsReasonOfFault fault reason = (v : Vocabulary) (t : TableData) (before : List DecidedLine) (text : Text) → ReadsSentence (sentence_in v text) (Err fault) → IsReason v t before text reason

-- The number of the kept line whose sentence fails in a state, if there is one; the list has a number or none for each
-- state.
abbrev pub kept_line_in : List (Option ℕ) → ℕ → Option ℕ
kept_line_in kept state = option_and_then (λ (line : Option ℕ). line) (slice_get kept state)

-- The verdict refuses the last of the sentence's tokens in this state, and no kept sentence fails there. The sentence
-- has `tokens` tokens.
abbrev pub IsStateToKeep : Verdict → ℕ → List (Option ℕ) → ℕ → Type 0
IsStateToKeep verdict tokens kept state = (at : ℕ) × (verdict ≡ Reject at state) × (at + 1 ≡ tokens) × (kept_line_in kept state ≡ None)

-- A sentence with this verdict and this number of tokens is dropped for this reason.
abbrev pub IsReasonOfVerdict : Verdict → ℕ → List (Option ℕ) → DropReason → Type 0
IsReasonOfVerdict verdict tokens kept (reasons.NotRefused other) = (other ≡ verdict) × IsNoRefusal (ending_for verdict)
IsReasonOfVerdict verdict tokens kept (reasons.RefusedEarly at) = (state : ℕ) × (verdict ≡ Reject at state) × (at + 1 ≢ tokens)
IsReasonOfVerdict verdict tokens kept (reasons.SharedState state line) = (at : ℕ) × (verdict ≡ Reject at state) × (at + 1 ≡ tokens) × (kept_line_in kept state ≡ Some line)
IsReasonOfVerdict verdict tokens kept _ = ⊥
