-- Proves that the end of the construction gives the merged automaton with all its properties.
use Rattle.std.proofs.Common.{◌≡◌, ◌↔◌, ◌^◌, ◌<◌, ◌≤◌, ℕ, List, [], ◌∷◌, Some, length, sym, ◌∙◌, arith, inl, inr}
use Rattle.std.specs.List.{slice_get, AllZip, AllByRecursion}
use Rattle.std.proofs.lemmas.Bool.{cases_lt}
use Rattle.std.proofs.lemmas.List.Elements.{All-from_recursion}
use Rattle.std.proofs.lemmas.Option.{slice_get_within}
use Rattle.mh_grammar.specs.declared.types.Symbol.{Symbol}
use Rattle.mh_grammar.specs.Plain.{PlainGrammar}
use Rattle.mh_grammar.proofs.Lists.{contains_none, get_within, zip_length}
use Rattle.mh_items_kernels.specs.KernelTypes.{Kernel, Automaton}
use Rattle.mh_items_kernels.specs.Automaton.{start_kernel, IsAutomaton}
use Rattle.mh_items_kernels.specs.Collection.{targets_of, edge_symbols}
use Rattle.mh_canon.specs.Canonical.{IsCanonical}
use Rattle.mh_canon.specs.Limits.{max_states}
use Rattle.mh_items_kernels.specs.Conflicts.{AutomatonHasConflict, AutomatonHasAnyConflict}
use Rattle.mh_pager.specs.CoversPaths.{CoversPaths}
use Rattle.mh_pager.specs.code.Renumbering.{AreDistinctBelow, AreReachedStates, AreTargetsInRange}
use Rattle.mh_pager.specs.code.ReachedByMerging.{IsReachedByMerging}
use Rattle.mh_pager.specs.MergeSteps.{MergeState, IsMerged, MergingExceeds}
use Rattle.mh_pager.proofs.ConflictsAgree.{conflicts_agree, any_conflicts_agree}
use Rattle.mh_pager.proofs.CoversPaths.{covers_paths}
use Rattle.mh_pager.proofs.MergedIsAutomaton.{IsAutomaton-merged}
use Rattle.mh_pager.proofs.StepsAreUnique.{not_exceeding}
use Rattle.mh_pager.proofs.RenumberingInvariant.{below_few}
use Rattle.mh_pager.proofs.HasItsEdges.{IsTargetOf}
use Rattle.mh_pager.proofs.StepsInvariant.{StepsInvariant, steps_invariant}

targets_within : (g : PlainGrammar) (kernels : List Kernel) (k : Kernel) (symbols : List Symbol) (targets : List ℕ) → AllZip (IsTargetOf g kernels k) symbols targets → AllByRecursion (λ t. t < length kernels) targets
targets_within g kernels k [] [] z = tt
targets_within g kernels k [] (n ∷ targets) z = absurd z
targets_within g kernels k (X ∷ symbols) [] z = absurd z
targets_within g kernels k (X ∷ symbols) (n ∷ targets) z = (slice_get_within kernels n z.0.0 z.0.1, targets_within g kernels k symbols targets z.1)

module _ (g : PlainGrammar) (w : MergeState) (l : IsReachedByMerging g w) (done : w.queue ≡ []) where
  run : StepsInvariant g w
  run = steps_invariant g l.first w l.is_initial l.steps

  pub starts_within : length g.starts ≤ length w.rows
  starts_within = elim (cases_lt (length w.kernels) (length g.starts)) [
    | inl m ↦ absurd (omega (arith, slice_get_within w.kernels (length w.kernels) (start_kernel (length w.kernels)) (run.sound.starts (length w.kernels) m)))
    | inr m ↦ omega (arith, run.len)
  ]

  pub AreTargetsInRange-list : AreTargetsInRange w.rows
  AreTargetsInRange-list = record {
    targets = λ n row at.
        let l : n < length w.kernels = omega (arith, slice_get_within w.rows n row at, run.len) in
        let k = get_within w.kernels n l in
        elim (run.settled n k.0 k.1) [
          | inl c ↦ absurd (contains_none n (rw done at c))
          | inr s ↦ (
              let one : Some s.0 ≡ Some row = sym s.1 ∙ at in
              let same : s.0 ≡ row = cc in
              let all = targets_within g w.kernels k.0 (edge_symbols s.0) (targets_of s.0) s.2.targets_are in
              rw (run.len, ← same) (All-from_recursion (λ t. t < length w.kernels) (targets_of s.0) all))
        ];
  }

  pub IsMerged-list : (a : Automaton) (states : List ℕ) → AreReachedStates (length g.starts) w.rows states a.edges → AllZip (λ n k. slice_get w.kernels n ≡ Some k) states a.kernels → IsMerged g a
  IsMerged-list a states r kernels = record {
    first = l.first;
    last = w;
    is_initial = l.is_initial;
    steps = l.steps;
    done = done;
    states = states;
    numbering = r.numbering;
    kernels = kernels;
    symbols = r.symbols;
  }

  pub few_list : (a : Automaton) (states : List ℕ) → AreReachedStates (length g.starts) w.rows states a.edges → AllZip (λ n k. slice_get w.kernels n ≡ Some k) states a.kernels → (limit : ℕ) → length w.kernels ≤ limit → length a.kernels ≤ limit
  few_list a states r kernels limit few =
      let b : AreDistinctBelow (length w.rows) states = record { distinct = r.numbering.distinct; below = r.below } in
      omega (arith, below_few (length w.rows) states b, run.len, zip_length (λ n k. slice_get w.kernels n ≡ Some k) states a.kernels kernels, few)

  pub not_exceeded : (limit : ℕ) → length w.kernels ≤ limit → MergingExceeds g limit → ⊥
  not_exceeded limit few x = not_exceeding g l.first w l.is_initial l.steps done limit few x

-- A merged automaton within the limit is an automaton of the grammar, covers all paths, and has no new conflict.
module _ (g : PlainGrammar) (a : Automaton) (m : IsMerged g a) (few : length a.kernels ≤ max_states) where
  small : length a.kernels < 2 ^ 32
  small = omega arith

  pub merged_automaton : IsAutomaton g a
  merged_automaton = IsAutomaton-merged g a m small

  pub merged_paths : CoversPaths g a
  merged_paths = covers_paths g a merged_automaton

  pub merged_conflicts : (c : Automaton) → IsCanonical g c → AutomatonHasConflict g a ↔ AutomatonHasConflict g c
  merged_conflicts c is = conflicts_agree g a c m small is

  pub merged_any_conflicts : (c : Automaton) → IsCanonical g c → AutomatonHasAnyConflict g a ↔ AutomatonHasAnyConflict g c
  merged_any_conflicts c is = any_conflicts_agree g a c m small is
