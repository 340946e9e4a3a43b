-- Proves that the merged automaton has no more states than the limit if the construction never exceeds it.
use Rattle.std.proofs.Common.{◌≡◌, ◌<◌, ◌≤◌, ℕ, List, [], ◌∷◌, Some, length, ap, arith, inl, inr}
use Rattle.std.specs.List.{slice_get, AllZip, AllByRecursion}
use Rattle.std.proofs.lemmas.Bool.{cases_lt}
use Rattle.std.proofs.lemmas.List.{append-nil}
use Rattle.std.proofs.lemmas.List.Elements.{All-from_recursion}
use Rattle.std.proofs.lemmas.Option.{slice_get_within}
use Rattle.mh_grammar.proofs.Lists.{zip_length}
use Rattle.mh_grammar.specs.Plain.{PlainGrammar, IsInRange}
use Rattle.mh_items_kernels.specs.KernelTypes.{Kernel, Automaton}
use Rattle.mh_items_kernels.specs.Collection.{targets_of, edge_symbols}
use Rattle.mh_canon.specs.Limits.{max_states}
use Rattle.mh_pager.specs.code.Renumbering.{AreDistinctBelow}
use Rattle.mh_pager.specs.MergeSteps.{MergeState, MergeSteps, none, more, IsInitial, IsMerged, MergingExceeds}
use Rattle.mh_pager.proofs.RenumberingInvariant.{below_few}

-- If the list ends with more states than the limit, some step exceeds the limit.
steps_few : (g : PlainGrammar) (limit : ℕ) (first last : MergeState) → IsInitial g first → length first.kernels ≤ limit → MergeSteps g first last → limit < length last.kernels → MergingExceeds g limit
steps_few g limit first last b few none over = absurd (omega (arith, few, over))
steps_few g limit first last b few (more {old} s step) over = elim (cases_lt limit (length old.kernels)) [
  | inl l ↦ steps_few g limit first old b few s l
  | inr m ↦ record {
    first = first;
    last = old;
    is_initial = b;
    steps = s;
    step_exceeds = record {
      state = step.state;
      waiting = step.waiting;
      oldest = step.oldest;
      kernel = step.kernel;
      at = step.at;
      symbols = edge_symbols step.row;
      rest = [];
      moving = rw (append-nil (edge_symbols step.row)) step.moving;
      targets = targets_of step.row;
      placed = step.placed;
      moves_placed = step.moves_placed;
      exceeds = (let same : length last.kernels ≡ length step.placed.kernels = ap (λ (w : MergeState). length w.kernels) step.after in omega (arith, over, same));
    };
  }
]

below_zip : (kernels : List Kernel) (states : List ℕ) (ks : List Kernel) → AllZip (λ n k. slice_get kernels n ≡ Some k) states ks → AllByRecursion (λ n. n < length kernels) states
below_zip kernels [] [] z = tt
below_zip kernels [] (k ∷ ks) z = absurd z
below_zip kernels (n ∷ states) [] z = absurd z
below_zip kernels (n ∷ states) (k ∷ ks) z = (slice_get_within kernels n k z.0, below_zip kernels states ks z.1)

pub merged_few : (g : PlainGrammar) (a : Automaton) → IsInRange g → IsMerged g a → (MergingExceeds g max_states → ⊥) → length a.kernels ≤ max_states
merged_few g a range m never =
    let starts : length m.first.kernels ≤ max_states = (let few = range.few_starts in let len = m.is_initial.kernels.len in omega arith) in
    let b : AreDistinctBelow (length m.last.kernels) m.states = record { distinct = m.numbering.distinct; below = All-from_recursion (λ n. n < length m.last.kernels) m.states (below_zip m.last.kernels m.states a.kernels m.kernels) } in
    elim (cases_lt max_states (length m.last.kernels)) [
      | inl over ↦ absurd (never (steps_few g max_states m.first m.last m.is_initial starts m.steps over))
      | inr few ↦ omega (arith, few, below_few (length m.last.kernels) m.states b, zip_length (λ n k. slice_get m.last.kernels n ≡ Some k) m.states a.kernels m.kernels)
    ]
