-- The limits on the numbers of a grammar and on syntax trees.
use Rattle.std.specs.Prelude.{ℕ}

-- The most tokens, nonterminals or starts: each has a number of 16 bits.
abbrev pub max_numbered : ℕ
max_numbered = 65535

-- The highest cost of a token; the lowest is 1.
abbrev pub max_cost : ℕ
max_cost = 1000

-- The greatest height of a syntax tree.
abbrev pub max_height : ℕ
max_height = 4000
