-- The definitions of the results of `compile` and `compare`: the messages of the states in which the sentences of a
-- file fail, and the states that a second file does not cover (Menhir manual, `--compile-errors`, `--compare-errors`);
-- details are this project's own.
use Rattle.std.specs.Prelude.{◌≡◌, ◌↔◌, ℕ, ◌&&◌, not, Bool, List, filter, length, slice_get, Option, Some, is_some, option_and_then, Result, Ok, Err, ⊤}
use Rattle.mh_tables_core.specs.Table.{TableData}
use Rattle.mh_msgfile.specs.Messages.{numbers_from}
use Rattle.mh_msgfile.specs.declared.messages.MsgFile.{MsgFile}
use Rattle.mh_run.specs.Verdicts.{ending_for}
use Rattle.mh_check.specs.declared.compiling.CheckFault.{CheckFault}
use Rattle.mh_check.specs.declared.compiling.CheckFault.TheVariants as faults
use Rattle.mh_check.specs.Checks.{Sound, SoundnessFault, NotRefusedAt, RefusedEarlyAt, SharedBy, FirstFault, IsMessage, sentences_of}

-- The fault that a call reports has this property, unless memory ran out.
abbrev pub ReportsCheckFault : CheckFault → (SoundnessFault → Type 0) → Type 0
ReportsCheckFault (faults.NotRefused line verdict) Is = Is (NotRefusedAt line (ending_for verdict))
ReportsCheckFault (faults.RefusedEarly line at) Is = Is (RefusedEarlyAt line at)
ReportsCheckFault (faults.SharedState first second state) Is = Is (SharedBy first second state)
ReportsCheckFault faults.Memory Is = ⊤

-- ---- Compiled messages.

abbrev pub itself : Option (List ℕ) → Option (List ℕ)
itself o = o

-- The message of a state, if it has one.
abbrev pub message_at : List (Option (List ℕ)) → ℕ → Option (List ℕ)
message_at compiled s = option_and_then itself (slice_get compiled s)

-- The file is sound, and the list has for each state of the table the message of the sentence that fails there, if
-- there is one.
pub record IsCompiled (t : TableData) (file : MsgFile) (compiled : List (Option (List ℕ))) : Type 0 where
  pub sound : Sound t (sentences_of file)
  pub states : length compiled ≡ length t.states
  pub messages : (s : ℕ) (message : List ℕ) → (message_at compiled s ≡ Some message) ↔ IsMessage t file s message

abbrev pub Compiles : TableData → MsgFile → Result (List (Option (List ℕ))) CheckFault → Type 0
Compiles t file (Ok compiled) = IsCompiled t file compiled
Compiles t file (Err fault) = ReportsCheckFault fault (FirstFault t (sentences_of file))

-- ---- Comparison of two files.

-- The first file has a message for state s, and the second has none.
abbrev pub is_missing : List (Option (List ℕ)) → List (Option (List ℕ)) → ℕ → Bool
is_missing left right s = is_some (message_at left s) && not (is_some (message_at right s))

-- The states for which the first file has a message and the second has none, in ascending order.
abbrev pub missing : List (Option (List ℕ)) → List (Option (List ℕ)) → List ℕ
missing left right = filter (is_missing left right) (numbers_from 0 (length left))
