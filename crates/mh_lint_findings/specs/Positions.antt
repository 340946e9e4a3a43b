-- The beginning of a line that reports a finding: the name of the file, the line and the column (this project's own).
use Rattle.std.specs.Prelude.{◌≡◌, ◌≤◌, ◌+◌, ◌++◌, ◌==◌, ℕ, if◌then◌else◌, fold, List, [], length, take, codes, decimal, Option, None, Some, slice_get, ⊤}
use Rattle.mh_grammar.specs.Text.{Text}
use Rattle.mh_lex_bytes.specs.Lines.{line_at}
use Rattle.mh_lint_findings.specs.declared.findings.GrammarFile.{GrammarFile}
use Rattle.mh_lint_findings.specs.declared.findings.Position.{Position}
use Rattle.mh_lint_findings.specs.declared.findings.Position.TheVariants.{InFile, OfFile, OfAutomaton}

-- The column after a byte: 1 after an LF, and one more after each other byte.
abbrev pub next_column : ℕ → ℕ → ℕ
next_column column byte = if byte == 10 then 1 else column + 1

-- The column of a position in its line, in bytes from 1.
abbrev pub column_at : List ℕ → ℕ → ℕ
column_at bytes place = fold next_column 1 (take place bytes)

-- The name of a file, and the line and the column of a position of the file.
abbrev pub place_text : Option GrammarFile → ℕ → Text
place_text None start = []
place_text (Some f) start = f.name ++ codes ":" ++ decimal (line_at f.bytes start) ++ codes ":" ++ decimal (column_at f.bytes start) ++ codes ": "

-- The name of a file.
abbrev pub file_text : Option GrammarFile → Text
file_text None = []
file_text (Some f) = f.name ++ codes ": "

-- The text of a position: that of a place in a file; for a whole file the name of the file alone; nothing for the
-- automaton.
abbrev pub position_text : List GrammarFile → Position → Text
position_text files (InFile file start) = place_text (slice_get files file) start
position_text files (OfFile file) = file_text (slice_get files file)
position_text files OfAutomaton = []

-- The position, if it is in a file, is within the bytes of a file of these.
abbrev pub IsPositionWithin : List GrammarFile → Position → Type 0
IsPositionWithin files (InFile file start) = (f : GrammarFile) × (slice_get files file ≡ Some f) × (start ≤ length f.bytes)
IsPositionWithin files (OfFile file) = ⊤
IsPositionWithin files OfAutomaton = ⊤
