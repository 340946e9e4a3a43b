-- The indices of items that are placed in a list without repetition; new items are appended to the list.
use Rattle.std.specs.Prelude.{◌≡◌, ◌<◌, ◌⊎◌, ℕ, List, [], ◌∷◌, ◌++◌, Some, length, slice_get}
use Rattle.std.specs.List.{Contains}

-- Item x has index n: it was in the list already, or was appended as the last item.
pub record Placed {X : Type 0} (old new : List X) (x : X) (n : ℕ) : Type 0 where
  pub at : slice_get new n ≡ Some x
  pub grown : ((new ≡ old) × (n < length old)) ⊎ ((new ≡ old ++ x ∷ []) × (n ≡ length old) × (Contains old x → ⊥))

-- The items of a list are placed one after the other (`Placed`), which turns the list `old` into `new`. The numbers are
-- the indices of the items in `new`.
abbrev pub AllPlaced : {X : Type 0} → List X → List X → List X → List ℕ → Type 0
AllPlaced old new [] [] = new ≡ old
AllPlaced old new [] (n ∷ ns) = ⊥
AllPlaced old new (x ∷ xs) [] = ⊥
AllPlaced {X} old new (x ∷ xs) (n ∷ ns) = (mid : List X) × Placed old mid x n × AllPlaced mid new xs ns
