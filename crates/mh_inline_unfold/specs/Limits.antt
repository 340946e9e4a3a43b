-- The limits on the productions of a grammar.
use Rattle.std.specs.Prelude.{ℕ}

-- The most productions.
abbrev pub max_productions : ℕ
max_productions = 20000

-- The most symbols of a right side.
abbrev pub max_symbols : ℕ
max_symbols = 10000
