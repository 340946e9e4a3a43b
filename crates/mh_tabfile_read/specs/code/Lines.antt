-- Bytes as lines, and the result of reading them line by line.
use Rattle.std.specs.Prelude.{◌≡◌, ◌+◌, ◌==◌, ℕ, Bool, true, false, not, ◌&&◌, if◌then◌else◌, List, [], ◌∷◌, ◌++◌, map, length, Option, Some, None, Result, Ok, Err, codes}
use Rattle.std.specs.List.{slice_split}
use Rattle.mh_resolve_cells.specs.declared.kinds.Mode.{Mode}
use Rattle.mh_tabfile_form.specs.declared.types.RawTable.{RawTable}
use Rattle.mh_tabfile_read.specs.declared.places.Reader.{Reader}
use Rattle.mh_tabfile_read.specs.declared.reading.TabFault.{TabFault}
use Rattle.mh_tabfile_read.specs.declared.reading.TabFault.TheVariants as faults
use Rattle.mh_tabfile_form.specs.Form.{Line, Begins}
use Rattle.mh_tabfile_read.specs.code.Numbers.{number_of}
use Rattle.mh_tabfile_read.specs.code.Words.{same_word, mode_of}
use Rattle.mh_tabfile_read.specs.code.Machine.{run, initial_reader, finish}

abbrev pub words_of : List ℕ → Line
words_of = slice_split (λ b. b == 32)

abbrev pub lines_in : List (List ℕ) → List Line
lines_in parts = map words_of parts

abbrev pub is_mode : Option Mode → Bool
is_mode None = false
is_mode (Some m) = true

-- There is a number, and it is neither 1 nor 2, the versions that are known.
abbrev pub is_other_number : Option ℕ → Bool
is_other_number None = false
is_other_number (Some n) = not (n == 1) && not (n == 2)

-- The three words are those of the first line of a table file, but with a version number that is not known.
abbrev pub is_other_version : List ℕ → List ℕ → List ℕ → Bool
is_other_version w v m = if same_word w (codes "menhir-tables") then (if is_other_number (number_of v) then is_mode (mode_of m) else false) else false

-- The first line of a file that is split at LF: the first part, or the empty list if there is none.
abbrev pub first_line : List (List ℕ) → List ℕ
first_line [] = []
first_line (part ∷ parts) = part

-- The line is the first line of a table file with a version number that is not known.
unfoldable pub is_other_head : Line → Bool
is_other_head [] = false
is_other_head (w ∷ []) = false
is_other_head (w ∷ v ∷ []) = false
is_other_head (w ∷ v ∷ m ∷ []) = is_other_version w v m
is_other_head (w ∷ v ∷ m ∷ x ∷ ws) = false

-- The lines before line `n` begin some file, but together with line `n` they do not.
pub record IsMisplaced (ls : List Line) (n : ℕ) : Type 0 where
  pub before : List Line
  pub line : Line
  pub rest : List Line
  pub split : ls ≡ before ++ line ∷ rest
  pub begins : Begins before
  pub first : Begins (before ++ line ∷ []) → ⊥
  pub number : n ≡ length before + 1

abbrev pub ReadsLines : List Line → Result Reader TabFault → Type 0
ReadsLines ls (Ok r) = run initial_reader ls ≡ run r []
ReadsLines ls (Err faults.Version) = ⊥
ReadsLines ls (Err (faults.TabShape n)) = IsMisplaced ls n
ReadsLines ls (Err faults.Memory) = Unit {0}

-- The same result for a reader that is passed by mutable reference.
abbrev pub ReadsLinesInto : {X : Type 0} → List Line → Reader → Result X TabFault → Type 0
ReadsLinesInto ls r (Ok x) = ReadsLines ls (Ok r)
ReadsLinesInto ls r (Err fault) = ReadsLines ls (Err fault)

-- The file is whole here, or its bad line is `at`.
abbrev pub IsFinished : Option RawTable → ℕ → Result RawTable TabFault → Type 0
IsFinished o at (Ok raw) = o ≡ Some raw
IsFinished o at (Err faults.Version) = ⊥
IsFinished o at (Err (faults.TabShape n)) = (o ≡ None) × (n ≡ at)
IsFinished o at (Err faults.Memory) = Unit {0}
