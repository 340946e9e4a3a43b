-- What a caller gives: the words, the files and the input.
use Rattle.std.specs.Prelude.{List, map}
use Rattle.std.specs.Borrow.{Bor}
use Rattle.mh_grammar.specs.Text.{Text}
use Rattle.mh_outside.specs.Shelf.{Files}
use Rattle.mh_page.specs.declared.request.PageFile.{PageFile}

abbrev pub words_given : List (Bor Text) → List Text
words_given = map (λ w. w.now)

-- The files by name and bytes.
abbrev pub files_given : List PageFile → Files
files_given = map (λ f. (f.name.now, f.text.now))

-- The words, the files and the input.
pub record Given : Type 0 where
  pub words : List Text
  pub files : Files
  pub input : Text

abbrev pub given : List (Bor Text) → List PageFile → Text → Given
given words files input = record { words = words_given words; files = files_given files; input = input }
