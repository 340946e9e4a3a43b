-- Words of grammar files and of sentence lines (a rule of this project).
use Rattle.std.specs.Prelude.{ℕ, ◌&&◌, Bool, false, List, [], ◌∷◌}
use Rattle.std.specs.List.{list_all}
use Rattle.mh_lex_bytes.specs.Bytes.{is_word_start, is_word_byte}

-- A letter or `_`, followed by letters, digits, `_` and `'`.
abbrev pub is_word : List ℕ → Bool
is_word [] = false
is_word (b ∷ bytes) = is_word_start b && list_all is_word_byte bytes
