-- The definitions of a messages file that is sound for a table, of its first fault, and of the message of a state
-- (Menhir manual, `--compile-errors`); details are this project's own.
use Rattle.std.specs.Prelude.{◌≡◌, ℕ, ◌+◌, ◌<◌, List, ◌∷◌, ◌++◌, flat_map, length, slice_get, Some}
use Rattle.std.specs.List.{Contains}
use Rattle.mh_tables_core.specs.Table.{TableData}
use Rattle.mh_tables_core.specs.Run.{VerdictOf, Ending, Accepted, Overshot, Rejected}
use Rattle.mh_tables_core.specs.Failing.{Fails}
use Rattle.mh_msgfile.specs.declared.messages.MsgSentence.{MsgSentence}
use Rattle.mh_msgfile.specs.declared.messages.Entry.{Entry}
use Rattle.mh_msgfile.specs.declared.messages.MsgFile.{MsgFile}

-- All sentences of a file, in order.
abbrev pub sentences_of : MsgFile → List MsgSentence
sentences_of file = flat_map (λ entry. entry.sentences) file.entries

abbrev pub FailsIn : TableData → MsgSentence → ℕ → Type 0
FailsIn t x s = Fails t x.start x.tokens s

-- Each sentence fails in some state, and no two fail in the same state.
pub record Sound (t : TableData) (xs : List MsgSentence) : Type 0 where
  pub each : (x : MsgSentence) → Contains xs x → (s : ℕ) × FailsIn t x s
  pub distinct : (i j s : ℕ) (x y : MsgSentence) → slice_get xs i ≡ Some x → slice_get xs j ≡ Some y → FailsIn t x s → FailsIn t y s → i ≡ j

-- The reason why a sentence breaks soundness, with the lines of the sentences.
pub data SoundnessFault : Type 0 where
  NotRefusedAt : (line : ℕ) (how : Ending) → SoundnessFault
  RefusedEarlyAt : (line at : ℕ) → SoundnessFault
  SharedBy : (first second state : ℕ) → SoundnessFault

-- The run ends without a refusal.
pub data IsNoRefusal : Ending → Type 0 where
  Accepts : (read : ℕ) → IsNoRefusal (Accepted read)
  Overshoots : (state : ℕ) → IsNoRefusal (Overshot state)

-- The sentence x, after the sentences `earlier`, breaks soundness: its run is not refused, or is refused before its
-- last token, or fails in the state of an earlier sentence.
pub data BreaksSoundness (t : TableData) (earlier : List MsgSentence) (x : MsgSentence) : SoundnessFault → Type 0 where
  NotRefused : (how : Ending) → IsNoRefusal how → VerdictOf t x.start x.tokens how → BreaksSoundness t earlier x (NotRefusedAt x.line how)
  RefusedEarly : (at s : ℕ) → at + 1 < length x.tokens → VerdictOf t x.start x.tokens (Rejected at s) → BreaksSoundness t earlier x (RefusedEarlyAt x.line at)
  Shared : (y : MsgSentence) (s : ℕ) → Contains earlier y → FailsIn t y s → FailsIn t x s → BreaksSoundness t earlier x (SharedBy y.line x.line s)

-- The first sentence that breaks soundness, with its fault.
pub record FirstFault (t : TableData) (xs : List MsgSentence) (fault : SoundnessFault) : Type 0 where
  pub before : List MsgSentence
  pub sentence : MsgSentence
  pub later : List MsgSentence
  pub order : xs ≡ before ++ sentence ∷ later
  pub sound : Sound t before
  pub breaks : BreaksSoundness t before sentence fault

-- The message of the entry with a sentence that fails in state s.
pub record IsMessage (t : TableData) (file : MsgFile) (s : ℕ) (message : List ℕ) : Type 0 where
  pub entry : Entry
  pub sentence : MsgSentence
  pub of_file : Contains file.entries entry
  pub of_entry : Contains entry.sentences sentence
  pub fails : FailsIn t sentence s
  pub is : message ≡ entry.message
