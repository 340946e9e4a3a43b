-- Definitions on items taken from a queue, where items that are already done are dropped.
use Rattle.std.specs.Prelude.{◌≡◌, ◌⊎◌, ℕ, List, [], ◌∷◌, ◌++◌}
use Rattle.std.specs.List.{Contains}
use Rattle.std.specs.Global.{Vec}
use Rattle.mh_facts.specs.code.Queues.{Waits, IsSameQueueEntry}

-- The next item of the cost that is not done is taken; items that are done may be dropped.
pub record DrawsOne {X : Type 0} (Done Fresh : X → Type 0) (old new : List (Vec X)) (cost : ℕ) (i : X) : Type 0 where
  pub waited : Waits old cost i
  pub fresh : Fresh i
  pub kept : (c : ℕ) (o : X) → Waits old c o → (Waits new c o ⊎ Done o) ⊎ IsSameQueueEntry cost i c o
  pub only : (c : ℕ) (o : X) → Waits new c o → Waits old c o

-- No item of the cost is left.
pub record DrawsNone {X : Type 0} (Done : X → Type 0) (old new : List (Vec X)) (cost : ℕ) : Type 0 where
  pub none : (o : X) → Waits new cost o → ⊥
  pub kept : (c : ℕ) (o : X) → Waits old c o → Waits new c o ⊎ Done o
  pub only : (c : ℕ) (o : X) → Waits new c o → Waits old c o

-- The item is appended to a list, unless it is done.
abbrev pub AppendsUnlessDone : {X : Type 0} → (X → Type 0) → X → List X → List X → Type 0
AppendsUnlessDone Done o old new = (new ≡ old ++ o ∷ []) ⊎ ((new ≡ old) × Done o)

-- Some items of the cost are taken; those that are not done are in the list `all`.
pub record DrawsSome {X : Type 0} (Done : X → Type 0) (old new : List (Vec X)) (cost : ℕ) (all : List X) : Type 0 where
  pub kept : (c : ℕ) (o : X) → Waits old c o → (Waits new c o ⊎ Done o) ⊎ ((c ≡ cost) × Contains all o)
  pub only : (c : ℕ) (o : X) → Waits new c o → Waits old c o
  pub each : (o : X) → Contains all o → Waits old cost o

-- All items of the cost are taken.
pub record DrawsAll {X : Type 0} (Done : X → Type 0) (old new : List (Vec X)) (cost : ℕ) (all : List X) : Type 0 where
  pub taken : DrawsSome Done old new cost all
  pub none : (o : X) → Waits new cost o → ⊥
