-- The texts of faults and of compiled messages. The wording is this project's own; the form of a line is that of the
-- Menhir manual.
use Rattle.std.specs.Prelude.{ℕ, ◌+◌, List, [], ◌∷◌, ◌++◌, length, Option, None, Some, codes, decimal}
use Rattle.mh_tables_core.specs.Run.{Ending, Accepted, Overshot, Rejected}
use Rattle.mh_msgfile.specs.Messages.{MessagesFault as FileFault, BadShape, NamesNoStartAt, LacksStartAt, NamesUnknownAt}
use Rattle.mh_check.specs.Checks.{SoundnessFault, NotRefusedAt, RefusedEarlyAt, SharedBy}
use Rattle.mh_grammar.specs.Text.{Text}

-- The beginning of the report of a fault: the file and the line.
unfoldable pub place_text : Text → ℕ → Text
place_text name line = codes "menhir: " ++ name ++ codes ":" ++ decimal line ++ codes ": "

-- The line that reports a fault of a messages file.
abbrev pub file_line : Text → FileFault → Text
file_line name (BadShape line) = place_text name line ++ codes "shape\n"
file_line name (NamesNoStartAt line start) = place_text name line ++ codes "unknown start " ++ start ++ codes "\n"
file_line name (LacksStartAt line) = place_text name line ++ codes "missing start\n"
file_line name (NamesUnknownAt line token) = place_text name line ++ codes "unknown token " ++ token ++ codes "\n"

-- The text for a run that ends without a refusal.
abbrev pub ending_text : Ending → Text
ending_text (Accepted read) = codes "not refused: ACCEPT\n"
ending_text (Overshot state) = codes "not refused: OVERSHOOT\n"
ending_text (Rejected at state) = []

-- The end of the line for a sentence that is refused before its last token.
unfoldable pub early_text : ℕ → Text
early_text at = codes "refused early at index " ++ decimal at ++ codes "\n"

-- The end of the line for a sentence that fails in a state in which the sentence of an earlier line fails: the state
-- and the earlier line.
unfoldable pub shared_state_text : ℕ → ℕ → Text
shared_state_text state line = codes "state " ++ decimal state ++ codes " is shared with line " ++ decimal line ++ codes "\n"

-- The line that reports why the sentences of a file are not sound.
abbrev pub check_line : Text → SoundnessFault → Text
check_line name (NotRefusedAt line how) = place_text name line ++ ending_text how
check_line name (RefusedEarlyAt line at) = place_text name line ++ early_text at
check_line name (SharedBy first second state) = place_text name second ++ shared_state_text state first

-- The first line of the text of a state: `state`, its number, and the size of its message in bytes.
unfoldable pub state_header_text : ℕ → ℕ → Text
state_header_text state size = codes "state " ++ decimal state ++ codes " " ++ decimal size ++ codes "\n"

-- The text of a state: its number, the size of its message in bytes, and the message.
abbrev pub message_text : ℕ → Option Text → Text
message_text state None = []
message_text state (Some message) = state_header_text state (length message) ++ message

-- The texts of the states from `state` on, in ascending order.
abbrev pub compiled_from : ℕ → List (Option Text) → Text
compiled_from state [] = []
compiled_from state (message ∷ messages) = message_text state message ++ compiled_from (state + 1) messages

abbrev pub compiled_text : List (Option Text) → Text
compiled_text messages = compiled_from 0 messages
