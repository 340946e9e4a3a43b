-- The intermediate results of the construction, from the start kernels on.
use Rattle.std.specs.Prelude.{◌≡◌, ◌<◌, ℕ, [], Some, length, replicate, slice_get}
use Rattle.std.specs.List.{Contains, range_with_len}
use Rattle.mh_grammar.specs.Plain.{PlainGrammar}
use Rattle.mh_items_kernels.specs.KernelTypes.{Kernel}
use Rattle.mh_items_kernels.specs.Kernels.{IsItemList}
use Rattle.mh_items_kernels.specs.Collection.{AreStarts}
use Rattle.mh_pager.specs.MergeSteps.{MergeState, MergeSteps, IsInitial}

-- The moment is well formed: its kernels are item lists, each has a row, and the queue holds only numbers of states.
pub record IsWellFormed (g : PlainGrammar) (w : MergeState) : Type 0 where
  pub valid : (n : ℕ) (k : Kernel) → slice_get w.kernels n ≡ Some k → IsItemList g k
  pub len : length w.rows ≡ length w.kernels
  pub queued : (n : ℕ) → Contains w.queue n → n < length w.kernels

-- The steps reach this moment from the first moment.
pub record IsReachedByMerging (g : PlainGrammar) (w : MergeState) : Type 0 where
  pub first : MergeState
  pub is_initial : IsInitial g first
  pub steps : MergeSteps g first w

-- The first `count` start kernels, all of them queued.
pub record IsInitialUpTo (count : ℕ) (w : MergeState) : Type 0 where
  pub kernels : AreStarts count w.kernels
  pub rows : w.rows ≡ replicate count []
  pub queue : w.queue ≡ range_with_len 0 count
