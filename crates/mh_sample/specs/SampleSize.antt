-- The size of a sample.
use Rattle.std.specs.Prelude.{ℕ}

-- The number of sentences of a sample.
abbrev pub sample_size : ℕ
sample_size = 3000
