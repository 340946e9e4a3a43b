-- The highest cost of words (this project's own).
use Rattle.std.specs.Prelude.{ℕ}

-- The highest cost: one more than the greatest cost of a sentence of a catalogue. All words of a greater cost are given
-- this cost.
abbrev pub cap : ℕ
cap = 1000001
