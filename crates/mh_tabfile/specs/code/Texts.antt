-- The bytes of lines that are written word by word.
use Rattle.std.specs.Prelude.{ℕ, List, [], ◌∷◌, ◌++◌}
use Rattle.std.specs.List.{flat_map}
use Rattle.mh_tabfile_form.specs.Form.{Line}

-- Words, each after a space.
abbrev pub words_after : Line → List ℕ
words_after [] = []
words_after (word ∷ words) = 32 ∷ (word ++ words_after words)

abbrev pub line_written : Line → List ℕ
line_written [] = 10 ∷ []
line_written (word ∷ words) = word ++ (words_after words ++ 10 ∷ [])

abbrev pub lines_written : List Line → List ℕ
lines_written lines = flat_map line_written lines
