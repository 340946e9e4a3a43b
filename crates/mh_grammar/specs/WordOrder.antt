-- The lexicographic order of words, by the numbers of their tokens.
use Rattle.std.specs.Prelude.{◌≡◌, ◌<◌, ◌⊎◌, ℕ, List, [], ◌∷◌}

-- The words are equal up to a first difference, where u has the lower token, or u is a prefix of v.
abbrev pub LexLe : List ℕ → List ℕ → Type 0
LexLe [] v = Unit {0}
LexLe (x ∷ u) [] = ⊥
LexLe (x ∷ u) (y ∷ v) = (x < y) ⊎ ((x ≡ y) × LexLe u v)
