-- The limits on grammar files and their instances.
use Rattle.std.specs.Prelude.{ℕ}

-- The greatest depth of an actual: 1 without arguments, or one more than its deepest argument.
abbrev pub max_actual_depth : ℕ
max_actual_depth = 1000

-- The most tokens of a grammar.
abbrev pub max_tokens : ℕ
max_tokens = 512

-- The most instances of a grammar.
abbrev pub max_instances : ℕ
max_instances = 20000
