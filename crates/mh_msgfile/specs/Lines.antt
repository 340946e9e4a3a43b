-- The definitions of the lines of a file, of the lines that are ignored, and of blank lines (Menhir manual, messages
-- files); details are this project's own.
use Rattle.std.specs.Prelude.{◌≢◌, ℕ, ◌-◌, ◌<◌, ◌==◌, ◌||◌, not, Bool, false, List, [], ◌∷◌, ◌++◌, All, length, slice_index_or}
use Rattle.std.specs.List.{list_all}
use Rattle.bstr.specs.Text.{no_cr}
use Rattle.mh_grammar.specs.Text.{Text}

-- The bytes contain no LF.
abbrev pub HasNoLineFeed : Text → Type 0
HasNoLineFeed bytes = All (λ b. b ≢ 10) bytes

-- The lines of the bytes. An LF, or a CR and an LF, ends a line and is not part of it. The bytes after the last LF are
-- a line only if there are any.
pub data AreLines : Text → List Text → Type 0 where
  NoLine : AreLines [] []
  LastLine : (line : Text) → HasNoLineFeed line → 0 < length line → AreLines line (line ∷ [])
  EndedLine : (line rest : Text) (lines : List Text) → HasNoLineFeed line → AreLines rest lines → AreLines (line ++ 10 ∷ rest) (no_cr line ∷ lines)

-- The line with this number; lines are numbered from 1.
abbrev pub line_at : List Text → ℕ → Text
line_at lines number = slice_index_or lines (number - 1) []

-- Whether a line is ignored: its first byte is `#`.
abbrev pub is_ignored_line : Text → Bool
is_ignored_line [] = false
is_ignored_line (b ∷ line) = b == 35

abbrev pub is_kept : List Text → ℕ → Bool
is_kept lines number = not (is_ignored_line (line_at lines number))

-- Whether a byte is a space, a tab or a CR.
abbrev pub is_blank : ℕ → Bool
is_blank b = b == 32 || (b == 9 || b == 13)

-- Whether the line of this number has no bytes but blanks.
abbrev pub is_blank_line : List Text → ℕ → Bool
is_blank_line lines number = list_all is_blank (line_at lines number)
