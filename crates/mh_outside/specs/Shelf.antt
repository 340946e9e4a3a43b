-- The result of reading a file from a shelf, by the files of the shelf.
use Rattle.std.specs.Prelude.{◌≡◌, ℕ, ◌≤◌, List, [], ◌∷◌, length, map, Option, None, Some, Result, Ok, Err, Vec, if◌then◌else◌, nat_le, ⊤}
use Rattle.std.specs.Str.{bytes_eq}
use Rattle.std.specs.Map.{lookup}
use Rattle.std.specs.declared.alloc.Global.{Global}
use Rattle.mh_outside.specs.declared.shelf.ShelfFault.{ShelfFault}
use Rattle.mh_outside.specs.declared.shelf.ShelfFault.TheVariants.{Absent, TooBig}

-- The names of files with their bytes.
abbrev pub Files : Type 0
Files = List (List ℕ × List ℕ)

abbrev pub files_of : List (Vec ℕ Global × Vec ℕ Global) → Files
files_of = map (λ f. (f.0.items, f.1.items))

-- No two files have the same name.
abbrev pub HasDistinctNames : Files → Type 0
HasDistinctNames [] = ⊤
HasDistinctNames (f ∷ fs) = (lookup (bytes_eq f.0) fs ≡ None) × HasDistinctNames fs

-- The bytes of the file with this name, if there is one.
abbrev pub file_at : Files → List ℕ → Option (List ℕ)
file_at fs name = lookup (bytes_eq name) fs

pub data FileFound : Type 0 where
  NoFile : FileFound
  Long : FileFound
  Bytes : List ℕ → FileFound

abbrev pub file_within : ℕ → Option (List ℕ) → FileFound
file_within limit None = NoFile
file_within limit (Some bytes) = if nat_le (length bytes) limit then Bytes bytes else Long

-- The result of reading the file with this name from a shelf that does not fail.
abbrev pub found_file : Files → List ℕ → ℕ → FileFound
found_file fs name limit = file_within limit (file_at fs name)

-- If the files of a shelf are known, each result but `Failed` and `Memory` agrees with `found_file`. If they are not
-- known, the shelf gives `Failed`, never `Absent`, for a file that does not exist.
abbrev pub ReadsFile : Option Files → List ℕ → ℕ → Result (Vec ℕ Global) ShelfFault → Type 0
ReadsFile None name limit (Ok v) = length v.items ≤ limit
ReadsFile None name limit (Err Absent) = ⊥
ReadsFile None name limit (Err _) = ⊤
ReadsFile (Some fs) name limit (Ok v) = found_file fs name limit ≡ Bytes v.items
ReadsFile (Some fs) name limit (Err Absent) = found_file fs name limit ≡ NoFile
ReadsFile (Some fs) name limit (Err TooBig) = found_file fs name limit ≡ Long
ReadsFile (Some fs) name limit (Err _) = ⊤
