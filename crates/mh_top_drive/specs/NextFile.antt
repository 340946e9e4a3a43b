-- Which of several files is read next.
use Rattle.std.specs.Prelude.{◌≡◌, ◌++◌, ◌∷◌, List, Option}
use Rattle.std.specs.List.{All}
use Rattle.mh_outside.specs.Shelf.{Files}
use Rattle.mh_grammar.specs.Text.{Text}
use Rattle.mh_top_drive.specs.StageResults.{StageResult, Go}
use Rattle.mh_top_drive.specs.FileContents.{IsFileContent}

-- The file can be read and has a content.
abbrev pub HasContent : {A : Type 0} → Option Files → (Text → Text → StageResult A → Type 0) → Text → Type 0
HasContent {A = A} files Spelled name = (x : A) × IsFileContent files Spelled name (Go x)

-- Of the named files this is the next to be read: each file before it was read and has a content.
pub record IsNextFile {A : Type 0} (files : Option Files) (Spelled : Text → Text → StageResult A → Type 0) (names : List Text) (name : Text) : Type 0 where
  pub before : List Text
  pub after : List Text
  pub names_are : names ≡ before ++ name ∷ after
  pub spelled : All (HasContent files Spelled) before
