-- The result of reading a table file: its content, another version, or the number of its first bad line.
use Rattle.std.specs.Prelude.{◌≡◌, ◌≢◌, ◌⊎◌, ◌+◌, ℕ, max, List, [], ◌∷◌, ◌++◌, length, Result, Ok, Err}
use Rattle.std.specs.List.{AllByRecursion, join_with_byte}
use Rattle.mh_resolve_cells.specs.declared.kinds.Mode.{Mode}
use Rattle.mh_tabfile_form.specs.declared.types.RawTable.{RawTable}
use Rattle.mh_tabfile_read.specs.declared.reading.TabFault.{TabFault}
use Rattle.mh_tabfile_read.specs.declared.reading.TabFault.TheVariants as faults
use Rattle.mh_tabfile_form.specs.Form.{Line, head_line, line_text, text, IsLine, IsNumber, Spells, Begins, IsFileOf}

-- The first line names a version other than 1 and 2. The form is this project's own.
pub record IsOtherVersion (bytes : List ℕ) : Type 0 where
  pub version : ℕ
  pub mode : Mode
  pub number : IsNumber version
  pub not_one : version ≢ 1
  pub not_two : version ≢ 2
  pub rest : List ℕ
  pub ends : (rest ≡ []) ⊎ ((more : List ℕ) × (rest ≡ 10 ∷ more))
  pub first : bytes ≡ join_with_byte 32 (head_line version mode) ++ rest

-- The number of the first bad line, from 1. Either no file has this line after the lines before it; or the line does
-- not end with LF; or the file ends too early, and then the number is that of the last line (1 for an empty file).
pub data IsBadLine (bytes : List ℕ) : ℕ → Type 0 where
  misplaced : (before : List Line) (line : Line) (rest : List ℕ) → bytes ≡ text before ++ (line_text line ++ rest) →
      AllByRecursion IsLine before → IsLine line → Begins before → (Begins (before ++ line ∷ []) → ⊥) → {n : ℕ} → n ≡ length before + 1 → IsBadLine bytes n
  unended : (before : List Line) (last : List ℕ) → bytes ≡ text before ++ last → AllByRecursion IsLine before → AllByRecursion (λ b. b ≢ 10) last → last ≢ [] →
      Begins before → {n : ℕ} → n ≡ length before + 1 → IsBadLine bytes n
  early : (lines : List Line) → bytes ≡ text lines → AllByRecursion IsLine lines → Begins lines → ((raw : RawTable) → Spells lines raw → ⊥) →
      {n : ℕ} → n ≡ max 1 (length lines) → IsBadLine bytes n

-- The result of reading these bytes, unless memory runs out.
abbrev pub IsReading : List ℕ → Result RawTable TabFault → Type 0
IsReading bytes (Ok raw) = IsFileOf bytes raw
IsReading bytes (Err faults.Version) = IsOtherVersion bytes
IsReading bytes (Err (faults.TabShape line)) = IsBadLine bytes line
IsReading bytes (Err faults.Memory) = Unit {0}
