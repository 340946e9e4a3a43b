-- The rank of a file in the order of productions (this project's own rule).
use Rattle.std.specs.Prelude.{◌-◌, ◌^◌, ℕ, zero, suc}

-- The rank of a file: the files have the order of the command line, and the prelude, which is file 0, comes last.
abbrev pub rank_of : ℕ → ℕ
rank_of zero = 2 ^ 64 - 1
rank_of (suc k) = k
