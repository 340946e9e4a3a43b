-- Files as stages of the work: a file is read, and its content is found, before the next file is read. The content of a
-- file is given by a relation `Spelled name bytes`: what the bytes of the named file spell, or the cause for which the
-- work stops.
use Rattle.std.specs.Prelude.{◌≡◌, ◌≤◌, [], ◌∷◌, List, length, Option, None, Some, ⊤}
use Rattle.mh_outside.specs.Shelf.{Files, FileFound, found_file, NoFile, Long, Bytes}
use Rattle.mh_grammar.specs.Text.{Text}
use Rattle.mh_top_drive.specs.StageResults.{StageResult, Go, Halt, Then, Gives}
use Rattle.mh_top_drive.specs.Limits.{file_limit}
use Rattle.mh_top_drive.specs.declared.stop.Cause.TheVariants.{Missing, LongFile}

-- The shelf has this under the name, with the limit of a file. If the files are not known, any content is possible at
-- each read, but never that the file is absent.
abbrev pub IsFound : Option Files → Text → FileFound → Type 0
IsFound (Some files) name what = found_file files name file_limit ≡ what
IsFound None name NoFile = ⊥
IsFound None name Long = ⊤
IsFound None name (Bytes bytes) = length bytes ≤ file_limit

-- The bytes of a file, or the cause for which the work stops: the file is missing or too long.
abbrev pub loaded : Text → FileFound → StageResult Text
loaded name NoFile = Halt (Missing name)
loaded name Long = Halt (LongFile name)
loaded name (Bytes bytes) = Go bytes

-- The stage that reads the bytes of a file.
abbrev pub IsLoaded : Option Files → Text → StageResult Text → Type 0
IsLoaded files name s = (what : FileFound) × IsFound files name what × (s ≡ loaded name what)

-- The stage that reads the named file and gives its content.
abbrev pub IsFileContent : {A : Type 0} → Option Files → (Text → Text → StageResult A → Type 0) → Text → StageResult A → Type 0
IsFileContent files Spelled name s = Then (IsLoaded files name) (Spelled name) s

-- The stage that reads the named files in order and gives the list of their contents.
abbrev pub AreFileContents : {A : Type 0} → Option Files → (Text → Text → StageResult A → Type 0) → List Text → StageResult (List A) → Type 0
AreFileContents files Spelled [] s = Gives [] s
AreFileContents files Spelled (name ∷ names) s = Then (IsFileContent files Spelled name) (λ x. Then (AreFileContents files Spelled names) (λ xs. Gives (x ∷ xs))) s
