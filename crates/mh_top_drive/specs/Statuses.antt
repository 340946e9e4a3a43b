-- The exit status and the line on err for each cause of an early end (the rules are this project's own).
use Rattle.std.specs.Prelude.{ℕ, [], Option, None, Some}
use Rattle.mh_grammar.specs.Text.{Text}
use Rattle.mh_top_drive.specs.Text.{cannot_read, too_big, too_big_input}
use Rattle.mh_top_drive.specs.declared.stop.Cause.{Cause}
use Rattle.mh_top_drive.specs.declared.stop.Cause.TheVariants.{Refused, Misused, Missing, LongFile, LongInput}

-- The exit status for a cause.
abbrev pub status_of_cause : Cause → ℕ
status_of_cause (Refused line) = 1
status_of_cause (Misused line) = 2
status_of_cause (Missing name) = 3
status_of_cause (LongFile name) = 5
status_of_cause LongInput = 5

-- The line on err for a cause.
abbrev pub line_of_cause : Cause → Text
line_of_cause (Refused line) = line
line_of_cause (Misused line) = line
line_of_cause (Missing name) = cannot_read name
line_of_cause (LongFile name) = too_big name
line_of_cause LongInput = too_big_input

-- The exit status of the program: 0 if the work has ended without a cause.
abbrev pub status_of : Option Cause → ℕ
status_of None = 0
status_of (Some cause) = status_of_cause cause

-- The last line on err, empty if the work has ended without a cause.
abbrev pub last_line_of : Option Cause → Text
last_line_of None = []
last_line_of (Some cause) = line_of_cause cause
