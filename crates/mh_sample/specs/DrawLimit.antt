-- The limit on random sentences.
use Rattle.std.specs.Prelude.{ℕ}

-- The most draws. After the last draw each nonterminal is replaced by its shortest word.
abbrev pub max_draws : ℕ
max_draws = 10000
