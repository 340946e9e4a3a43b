-- Cursors: positions with their lines and columns.
use Rattle.std.specs.Prelude.{◌≡◌, ◌<◌, ◌≤◌, ◌+◌, ◌^◌, ℕ, List, length, Some, slice_get}
use Rattle.std.specs.List.{All}
use Rattle.mh_lex_bytes.specs.Lines.{line_at}
use Rattle.mh_lint_findings.specs.declared.cursor.Cursor.{Cursor}
use Rattle.mh_lint_findings.specs.declared.findings.GrammarFile.{GrammarFile}
use Rattle.mh_lint_findings.specs.Positions.{column_at}

-- The cursor is within these bytes, and has the line and the column of its position.
pub record IsAt (bytes : List ℕ) (c : Cursor) : Type 0 where
  pub within : c.at ≤ length bytes
  pub line : c.line ≡ line_at bytes c.at
  pub column : c.column ≡ column_at bytes c.at
  pub few_lines : c.line ≤ c.at + 1
  pub few_columns : c.column ≤ c.at + 1
  pub counted : 1 ≤ c.column

-- The cursor is within the bytes of its file, if there is this file.
abbrev pub IsAtIn : List GrammarFile → Cursor → Type 0
IsAtIn files c = (f : GrammarFile) → slice_get files c.file ≡ Some f → IsAt f.bytes c

-- Each file is short enough for its lines and columns to be counted.
abbrev pub AreShort : List GrammarFile → Type 0
AreShort files = All (λ (f : GrammarFile). length f.bytes < 2 ^ 31) files
