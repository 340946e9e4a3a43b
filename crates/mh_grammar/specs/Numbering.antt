-- Breadth-first numbering of the items that some starts reach, for any relation `Next`. The states of an automaton are
-- numbered in this way.
use Rattle.std.specs.Prelude.{◌≡◌, ◌<◌, ◌+◌, ◌↔◌, ◌⊎◌, ℕ, List, [], ◌∷◌, Some, length, take, slice_get}
use Rattle.std.specs.List.{All, AllZip, Contains, concat}

-- The items that the starts reach; `Next x ys` means that x leads to the items ys, in this order.
pub data Reached {X : Type 0} (Next : X → List X → Type 0) (starts : List X) : X → Type 0 where
  start : {x : X} → Contains starts x → Reached Next starts x
  step : {x y : X} {ys : List X} → Reached Next starts x → Next x ys → Contains ys y → Reached Next starts y

-- No two elements of the list are equal.
pub record AreDistinct {X : Type 0} (xs : List X) : Type 0 where
  pub same : (i j : ℕ) (x : X) → slice_get xs i ≡ Some x → slice_get xs j ≡ Some x → i ≡ j

-- Numbers in order of first sight: each is less than the next new number, or is the next new number, which then grows
-- by 1. The next new number is n before the list and m after it.
abbrev pub InFirstSightOrder : ℕ → List ℕ → ℕ → Type 0
InFirstSightOrder n [] m = n ≡ m
InFirstSightOrder n (t ∷ ts) m = ((t < n) × InFirstSightOrder n ts m) ⊎ ((t ≡ n) × InFirstSightOrder (n + 1) ts m)

-- The numbers of the row are the indices of these items in the list.
abbrev pub AreNumbersOf : {X : Type 0} → List X → List ℕ → List X → Type 0
AreNumbersOf states row xs = AllZip (λ n x. slice_get states n ≡ Some x) row xs

-- The row of an item: the numbers of the items that it leads to.
pub record IsTargetRow {X : Type 0} (Next : X → List X → Type 0) (states : List X) (x : X) (row : List ℕ) : Type 0 where
  pub items : List X
  pub next : Next x items
  pub numbers : AreNumbersOf states row items

-- The items that the starts reach, each once, numbered breadth-first; the rows give the numbers of the items that each
-- leads to (textbook).
pub record IsNumbering {X : Type 0} (Next : X → List X → Type 0) (starts : List X) (states : List X) (targets : List (List ℕ)) : Type 0 where
  pub begins : take (length starts) states ≡ starts
  pub reached : (x : X) → Contains states x ↔ Reached Next starts x
  pub distinct : AreDistinct states
  pub len : length targets ≡ length states
  pub rows : (i : ℕ) (x : X) (row : List ℕ) → slice_get states i ≡ Some x → slice_get targets i ≡ Some row → IsTargetRow Next states x row
  pub order : InFirstSightOrder (length starts) (concat targets) (length states)

-- The starts reach more items than the limit: `items` are distinct reached items, and are more than the limit.
pub record ReachesMoreThan {X : Type 0} (Next : X → List X → Type 0) (starts : List X) (limit : ℕ) : Type 0 where
  pub items : List X
  pub reached : All (Reached Next starts) items
  pub distinct : AreDistinct items
  pub exceeds : limit < length items
