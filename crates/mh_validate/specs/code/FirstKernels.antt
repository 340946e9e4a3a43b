-- The first states of a file that have kernels.
use Rattle.std.specs.Prelude.{◌<◌, ◌≤◌, ℕ, List, length, slice_index_or}
use Rattle.mh_grammar.specs.declared.types.Grammar.{Grammar}
use Rattle.mh_items_kernels.specs.KernelTypes.{Kernel}
use Rattle.mh_items_kernels.specs.Automaton.{no_kernel}
use Rattle.mh_tabfile_form.specs.declared.types.RawTable.{RawTable}
use Rattle.mh_validate_valid.specs.Valid.{HasKernel}

-- The kernels of the first states, up to the first state without a kernel.
pub record AreFirstKernels (g : Grammar) (raw : RawTable) (ks : List Kernel) : Type 0 where
  pub within : length ks ≤ length raw.states
  pub each : (s : ℕ) → s < length ks → HasKernel g raw s (slice_index_or ks s no_kernel)
  pub none : length ks < length raw.states → (k : Kernel) → HasKernel g raw (length ks) k → ⊥
