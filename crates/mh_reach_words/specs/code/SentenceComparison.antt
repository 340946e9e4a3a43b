-- Sentences as lists of numbers.
use Rattle.std.specs.Prelude.{ℕ, List, ◌∷◌}
use Rattle.mh_facts.specs.code.BestFirst.{Label}

-- The number of the start, followed by the tokens.
abbrev pub numbers_of : Label → List ℕ
numbers_of l = l.start ∷ l.word
