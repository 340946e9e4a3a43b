-- Lemmas on the kernels of the first states, up to the first state without a kernel.
use Rattle.std.proofs.Common.{◌≡◌, ◌<◌, ℕ, List, length, subst, arith}
use Rattle.std.specs.Prelude.{slice_index_or}
use Rattle.mh_grammar.specs.declared.types.Grammar.{Grammar}
use Rattle.mh_items_kernels.specs.KernelTypes.{Kernel}
use Rattle.mh_items_kernels.specs.Automaton.{no_kernel}
use Rattle.mh_tabfile_form.specs.declared.types.RawTable.{RawTable}
use Rattle.mh_validate_valid.specs.Valid.{HasKernel}
use Rattle.mh_validate.specs.code.FirstKernels.{AreFirstKernels}

pub kernels_stop : (g : Grammar) (raw : RawTable) (ks : List Kernel) (n : ℕ) → length ks ≡ n → n < length raw.states → ((s : ℕ) → s < n → HasKernel g raw s (slice_index_or ks s no_kernel)) → ((k : Kernel) → HasKernel g raw n k → ⊥) → AreFirstKernels g raw ks
kernels_stop g raw ks n len lt each none = record { within = omega (arith, len, lt); each = λ s l. each s (omega (arith, len, l)); none = λ _ k h. none k (subst (λ m. HasKernel g raw m k) len h) }

pub kernels_end : (g : Grammar) (raw : RawTable) (ks : List Kernel) (n : ℕ) → length ks ≡ n → n ≡ length raw.states → ((s : ℕ) → s < n → HasKernel g raw s (slice_index_or ks s no_kernel)) → AreFirstKernels g raw ks
kernels_end g raw ks n len e each = record { within = omega (arith, len, e); each = λ s l. each s (omega (arith, len, l)); none = λ short. absurd (omega (arith, len, e, short)) }
