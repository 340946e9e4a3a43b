-- An index of the states by core: for each core, the states with this core, rising. Only these states can be the target
-- of a move with this core.
use Rattle.std.specs.Prelude.{◌≡◌, ◌<◌, ℕ, List, Some, length, slice_get}
use Rattle.std.specs.List.{All, Contains}
use Rattle.mh_grammar.specs.Edges.{IsRising}
use Rattle.mh_items_kernels.specs.KernelTypes.{Kernel}
use Rattle.mh_pager.specs.code.Cores.{core_of, IsBefore}

-- The number of the group of each core, as entries of a map.
abbrev pub GroupNumbers : Type 0
GroupNumbers = List (Kernel × ℕ)

-- Each core has one group, and different cores have different groups.
pub record AreGroupsOfCores (places : GroupNumbers) (groups : List (List ℕ)) : Type 0 where
  pub within : (core : Kernel) (c : ℕ) → Contains places (core, c) → c < length groups
  pub one_place : (core : Kernel) (c d : ℕ) → Contains places (core, c) → Contains places (core, d) → c ≡ d
  pub one_core : (left right : Kernel) (c : ℕ) → Contains places (left, c) → Contains places (right, c) → left ≡ right

-- State n, with the kernel k, is in the group of its core.
pub record IsInItsGroup (places : GroupNumbers) (groups : List (List ℕ)) (k : Kernel) (n : ℕ) : Type 0 where
  pub group_number : ℕ
  pub group : List ℕ
  pub at : Contains places (core_of k, group_number)
  pub of_core : slice_get groups group_number ≡ Some group
  pub in_group : Contains group n

-- The index is correct for the kernels: each group holds exactly the states with its core, rising.
pub record IsCoreIndex (kernels : List Kernel) (places : GroupNumbers) (groups : List (List ℕ)) : Type 0 where
  pub placed : AreGroupsOfCores places groups
  pub rising : (c : ℕ) (group : List ℕ) → slice_get groups c ≡ Some group → IsRising IsBefore group
  pub within : (c : ℕ) (group : List ℕ) → slice_get groups c ≡ Some group → All (λ n. n < length kernels) group
  pub all : (n : ℕ) (k : Kernel) → slice_get kernels n ≡ Some k → IsInItsGroup places groups k n
  pub only : (c n : ℕ) (group : List ℕ) (k : Kernel) → slice_get groups c ≡ Some group → Contains group n → slice_get kernels n ≡ Some k → Contains places (core_of k, c)

-- The core has group number c.
pub record HasGroupNumber (places : GroupNumbers) (groups : List (List ℕ)) (core : Kernel) (c : ℕ) : Type 0 where
  pub group : List ℕ
  pub at : Contains places (core, c)
  pub group_is : slice_get groups c ≡ Some group
