-- The worklist of the code as the definitions see it, and the effect of its operations.
use Rattle.std.specs.Prelude.{◌≡◌, ℕ, List, [], ◌∷◌, ◌++◌, Some, set, length, slice_get}
use Rattle.mh_grammar.specs.Plain.{PlainGrammar}
use Rattle.mh_items_kernels.specs.KernelTypes.{Kernel}
use Rattle.mh_items_kernels.specs.Kernels.{Holds, IsItemList}
use Rattle.mh_pager.specs.declared.worklist.Worklist.{Worklist}
use Rattle.mh_pager.specs.WeakCompatibility.{HaveSameCore, IsJoin}
use Rattle.mh_pager.specs.code.QueueFlags.{AreFlagged}
use Rattle.mh_pager.specs.code.Cores.{core_of}
use Rattle.mh_pager.specs.code.CoreIndex.{HasGroupNumber, IsCoreIndex}
use Rattle.mh_pager.specs.MergeSteps.{MergeState, Enqueues}

-- The moment of the construction that the worklist denotes.
abbrev pub merge_state_of : {W : ℕ} → Worklist W → MergeState
merge_state_of l = record { kernels = l.kernels.items; rows = l.rows.items; queue = l.queue.states.items }

-- The worklist is consistent: each state has a flag that says whether it is queued, and the index holds the states by
-- core.
pub record IsConsistentWorklist {W : ℕ} (l : Worklist W) : Type 0 where
  pub flagged : AreFlagged l.queue.states.items l.queue.waits.items
  pub flags : length l.queue.waits.items ≡ length l.kernels.items
  pub indexed : IsCoreIndex l.kernels.items l.index.places.entries l.index.states.items

-- The core of the kernel has group number n.
abbrev pub HasGroupNumberIn : {W : ℕ} → Worklist W → Kernel → ℕ → Type 0
HasGroupNumberIn l k n = HasGroupNumber l.index.places.entries l.index.states.items (core_of k) n

-- State n has the core of the move.
abbrev pub HasSameCoreAt : Kernel → List Kernel → ℕ → Type 0
HasSameCoreAt move kernels n = (k : Kernel) → slice_get kernels n ≡ Some k → HaveSameCore (Holds k) (Holds move)

-- State n is joined with the move, whether or not they are compatible.
pub record JoinsMoveAt (g : PlainGrammar) (move : Kernel) (old new : MergeState) (n : ℕ) : Type 0 where
  pub kernel : Kernel
  pub joined : Kernel
  pub at : slice_get old.kernels n ≡ Some kernel
  pub valid : IsItemList g joined
  pub join : IsJoin (Holds kernel) (Holds move) (Holds joined)
  pub kernels : new.kernels ≡ set old.kernels n joined
  pub rows : new.rows ≡ old.rows
  pub queue : Enqueues old.queue n new.queue

-- The move is appended as a new state.
pub record AppendsMove (move : Kernel) (old new : MergeState) (n : ℕ) : Type 0 where
  pub last : n ≡ length old.kernels
  pub kernels : new.kernels ≡ old.kernels ++ move ∷ []
  pub rows : new.rows ≡ old.rows ++ [] ∷ []
  pub queue : new.queue ≡ old.queue ++ n ∷ []
