-- The line of a position.
use Rattle.std.specs.Prelude.{ℕ, ◌+◌, ◌==◌, List, take}
use Rattle.std.specs.List.{count_by}

-- The number, from 1, of the line of a position: one more than the number of line feeds before it.
abbrev pub line_at : List ℕ → ℕ → ℕ
line_at bytes place = 1 + count_by (λ b. b == 10) (take place bytes)
