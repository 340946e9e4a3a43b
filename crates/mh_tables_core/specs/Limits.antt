-- The limit on runs.
use Rattle.std.specs.Prelude.{ℕ}

-- The most reductions of a relative run.
abbrev pub max_reductions : ℕ
max_reductions = 10000
