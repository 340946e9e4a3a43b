-- The first state of a list with a property.
use Rattle.std.specs.Prelude.{◌≡◌, ◌<◌, ℕ, List, Some, slice_get}
use Rattle.mh_items_kernels.specs.KernelTypes.{Kernel}

-- State n, with the kernel k, is the first state of the list with the property P.
pub record IsFirst (P : Kernel → Type 0) (kernels : List Kernel) (n : ℕ) (k : Kernel) : Type 0 where
  pub at : slice_get kernels n ≡ Some k
  pub holds : P k
  pub earlier : (m : ℕ) (j : Kernel) → m < n → slice_get kernels m ≡ Some j → P j → ⊥

-- No state of the list has the property P.
abbrev pub HasNoneWith : (Kernel → Type 0) → List Kernel → Type 0
HasNoneWith P kernels = (m : ℕ) (j : Kernel) → slice_get kernels m ≡ Some j → P j → ⊥
