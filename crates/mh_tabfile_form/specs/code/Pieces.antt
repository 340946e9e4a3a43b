-- A list of lists of numbers, as all their numbers and the index at which each list ends.
use Rattle.std.specs.Prelude.{◌≡◌, ◌+◌, ◌-◌, ◌≤◌, ℕ, List, [], ◌∷◌, ◌++◌, length, take, drop}

-- All numbers of the lists, in order.
abbrev pub joined : List (List ℕ) → List ℕ
joined [] = []
joined (xs ∷ xss) = xs ++ joined xss

-- The index at which each list ends, if the first begins at an index.
abbrev pub ends_from : ℕ → List (List ℕ) → List ℕ
ends_from start [] = []
ends_from start (xs ∷ xss) = (start + length xs) ∷ ends_from (start + length xs) xss

-- The lists that end at these indices. The first begins at an index, and each other list where the last one ends.
abbrev pub pieces : List ℕ → ℕ → List ℕ → List (List ℕ)
pieces numbers start [] = []
pieces numbers start (end ∷ ends) = take (end - start) (drop start numbers) ∷ pieces numbers end ends

-- The indices do not fall, from an index on, and the last index is a count.
abbrev pub AreEnds : ℕ → ℕ → List ℕ → Type 0
AreEnds count start [] = start ≡ count
AreEnds count start (end ∷ ends) = (start ≤ end) × (end ≤ count) × AreEnds count end ends

-- The bounds are 0 and then the ends of the lists.
pub record AreBounds (count : ℕ) (bounds : List ℕ) : Type 0 where
  pub first : bounds ≡ 0 ∷ drop 1 bounds
  pub ends : AreEnds count 0 (drop 1 bounds)
