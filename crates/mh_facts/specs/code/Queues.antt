-- Definitions on lists of rows, and on queues that have a row for each cost.
use Rattle.std.specs.Prelude.{◌≡◌, ℕ, List, [], length, slice_get, Option, Some, None, ◌<◌, ◌⊎◌}
use Rattle.std.specs.List.{Contains}
use Rattle.std.specs.Global.{Vec}

-- The items of a row, or none if there is no row.
abbrev pub items_of : {X : Type 0} → Option (Vec X) → List X
items_of None = []
items_of (Some v) = v.items

-- The items of row n; none if there is no row n.
abbrev pub row_of : {X : Type 0} → List (Vec X) → ℕ → List X
row_of rows n = items_of (slice_get rows n)

-- The item waits in the queue with this cost.
abbrev pub Waits : {X : Type 0} → List (Vec X) → ℕ → X → Type 0
Waits queue cost i = Contains (row_of queue cost) i

-- The item i waits in the queue with the cost `cost`; or `cost` is `level`, and i is in the list `beside`, which has
-- items of this cost outside the queue.
abbrev pub WaitsOrIsListed : {X : Type 0} → List (Vec X) → ℕ → List X → ℕ → X → Type 0
WaitsOrIsListed queue level beside cost i = Waits queue cost i ⊎ ((cost ≡ level) × Contains beside i)

-- The queue gains exactly the costs and items with the property P.
pub record QueueGains {X : Type 0} (P : ℕ → X → Type 0) (old new : List (Vec X)) : Type 0 where
  pub kept : (cost : ℕ) (o : X) → Waits old cost o → Waits new cost o
  pub all : (cost : ℕ) (o : X) → P cost o → Waits new cost o
  pub only : (cost : ℕ) (o : X) → Waits new cost o → Waits old cost o ⊎ P cost o

-- The costs c and `cost` are equal, and the items o and i are equal.
abbrev pub IsSameQueueEntry : {X : Type 0} → ℕ → X → ℕ → X → Type 0
IsSameQueueEntry cost i c o = (c ≡ cost) × (o ≡ i)

-- `Some i`: P holds of the item i with the cost `cost`, and of no other item and no other cost. `None`: P holds of no
-- item with any cost.
abbrev pub IsUniqueItem : {Y : Type 0} → (ℕ → Y → Type 0) → ℕ → Option Y → Type 0
IsUniqueItem {Y} P cost None = (c : ℕ) (o : Y) → P c o → ⊥
IsUniqueItem {Y} P cost (Some i) = P cost i × ((c : ℕ) (o : Y) → P c o → IsSameQueueEntry cost i c o)

-- The item i, which has this cost, is taken out of the queue.
pub record TakesItem {X : Type 0} (old new : List (Vec X)) (cost : ℕ) (i : X) : Type 0 where
  pub waited : Waits old cost i
  pub kept : (c : ℕ) (o : X) → Waits old c o → Waits new c o ⊎ IsSameQueueEntry cost i c o
  pub only : (c : ℕ) (o : X) → Waits new c o → Waits old c o
  pub fewer : length (row_of new cost) < length (row_of old cost)

-- No item has this cost, and the queue stays as it is.
pub record TakesNothing {X : Type 0} (old new : List (Vec X)) (cost : ℕ) : Type 0 where
  pub none : (o : X) → Waits old cost o → ⊥
  pub kept : (c : ℕ) (o : X) → Waits old c o → Waits new c o
  pub only : (c : ℕ) (o : X) → Waits new c o → Waits old c o

abbrev pub TakesFromQueue : {X : Type 0} → List (Vec X) → List (Vec X) → ℕ → Option X → Type 0
TakesFromQueue old new cost None = TakesNothing old new cost
TakesFromQueue old new cost (Some i) = TakesItem old new cost i

-- The rule gives this cost and item for some element of the list.
abbrev pub Among : {X Y : Type 0} → (X → ℕ → Y → Type 0) → List X → ℕ → Y → Type 0
Among {X} rule xs cost o = (x : X) × Contains xs x × rule x cost o

-- The rule gives this cost and item for some number below n.
abbrev pub Below : {Y : Type 0} → (ℕ → ℕ → Y → Type 0) → ℕ → ℕ → Y → Type 0
Below rule n cost o = (k : ℕ) × (k < n) × rule k cost o

-- The item x is added to the row n, and the other rows stay.
pub record AddsToRow {X : Type 0} (old new : List (Vec X)) (n : ℕ) (x : X) : Type 0 where
  pub rows : length new ≡ length old
  pub added : Contains (row_of new n) x
  pub kept : (m : ℕ) (y : X) → Contains (row_of old m) y → Contains (row_of new m) y
  pub only : (m : ℕ) (y : X) → Contains (row_of new m) y → Contains (row_of old m) y ⊎ ((m ≡ n) × (y ≡ x))

-- The list gains exactly the elements with the property P.
pub record ListGains {X : Type 0} (P : X → Type 0) (old new : List X) : Type 0 where
  pub kept : (r : X) → Contains old r → Contains new r
  pub all : (r : X) → P r → Contains new r
  pub only : (r : X) → Contains new r → Contains old r ⊎ P r
