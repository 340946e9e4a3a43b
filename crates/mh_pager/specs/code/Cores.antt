-- The states that have the core of a move.
use Rattle.std.specs.Prelude.{◌≡◌, ◌<◌, ℕ, List, [], Some, length, map, slice_get}
use Rattle.std.specs.List.{All, Contains}
use Rattle.mh_grammar.specs.Edges.{IsRising}
use Rattle.mh_items_kernels.specs.KernelTypes.{KernelItem, Kernel}

-- An item without its looks.
abbrev pub core_item : KernelItem → KernelItem
core_item x = record { production = x.production; dot = x.dot; looks = [] }

-- The core of a kernel, as a kernel without looks.
abbrev pub core_of : Kernel → Kernel
core_of k = record { items = map core_item k.items }

abbrev pub IsBefore : ℕ → ℕ → Type 0
IsBefore m n = m < n

-- The list holds exactly the states that have the core of the move, rising.
pub record AreCandidates (kernels : List Kernel) (move : Kernel) (candidates : List ℕ) : Type 0 where
  pub rising : IsRising IsBefore candidates
  pub within : All (λ n. n < length kernels) candidates
  pub all : (n : ℕ) (k : Kernel) → slice_get kernels n ≡ Some k → core_of k ≡ core_of move → Contains candidates n
  pub only : (n : ℕ) (k : Kernel) → Contains candidates n → slice_get kernels n ≡ Some k → core_of k ≡ core_of move
