-- The limit on shortest words.
use Rattle.std.specs.Prelude.{ℕ}

-- The most tokens of a shortest word that is given out.
abbrev pub max_word : ℕ
max_word = 1000
