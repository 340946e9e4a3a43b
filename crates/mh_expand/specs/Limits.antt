-- The limit on the names of instances.
use Rattle.std.specs.Prelude.{ℕ}

-- The most bytes in the printed name of an instance.
abbrev pub max_name : ℕ
max_name = 1000
