-- Lemmas on the list of states during the construction.
use Rattle.std.proofs.Common.{◌≡◌, ◌+◌, ◌<◌, ◌≤◌, ℕ, List, [], ◌∷◌, ◌++◌, Some, length, refl, sym, ap, ◌∙◌, subst, arith, inl, inr}
use Rattle.std.specs.List.{slice_get, Contains}
use Rattle.std.proofs.lemmas.Bool.{cases_lt}
use Rattle.std.proofs.lemmas.List.{length_push, replicate_more}
use Rattle.std.proofs.lemmas.List.FromFn.{length-range_with_len}
use Rattle.std.proofs.lemmas.Option.{slice_get_within}
use Rattle.mh_grammar.specs.declared.edges.Edge.{Edge}
use Rattle.mh_grammar.specs.Plain.{PlainGrammar, IsInRange}
use Rattle.mh_grammar.proofs.Lists.{get_left, get_last, at_contains}
use Rattle.mh_items_kernels.specs.KernelTypes.{Kernel}
use Rattle.mh_items_kernels.specs.Automaton.{start_kernel}
use Rattle.mh_canon.specs.Limits.{max_states}
use Rattle.mh_pager.specs.code.ReachedByMerging.{IsWellFormed, IsReachedByMerging, IsInitialUpTo}
use Rattle.mh_pager.specs.MergeSteps.{MergeState, IsMergeStep, MergeSteps, none, more, IsInitial, StepExceeds, MergingExceeds, start_numbers}
use Rattle.mh_pager.proofs.IsWellFormed.{step_well_formed}
use Rattle.mh_pager.proofs.StepsInvariant.{initial_invariant, start_numbers_at}
use Rattle.mh_pager.proofs.TerminationMeasure.{weight, step_weight}
use Rattle.mh_pager.proofs.StartNumbers.{range_push}

-- The list of all start kernels is the first moment of the construction.
pub is_initial : (g : PlainGrammar) (w : MergeState) → IsInitialUpTo (length g.starts) w → IsInitial g w
is_initial g w b = record { kernels = b.kernels; rows = b.rows; queue = b.queue }

pub IsReachedByMerging-start : (g : PlainGrammar) (w : MergeState) → IsInitialUpTo (length g.starts) w → IsReachedByMerging g w
IsReachedByMerging-start g w b = record { first = w; is_initial = is_initial g w b; steps = none }

pub few_starts : (g : PlainGrammar) (w : MergeState) → IsInRange g → IsInitialUpTo (length g.starts) w → length w.kernels ≤ max_states
few_starts g w r b = let few = r.few_starts in let len = b.kernels.len in omega arith

begun_ready : (g : PlainGrammar) (w : MergeState) → IsInitial g w → IsWellFormed g w
begun_ready g w b =
    let r = initial_invariant g w b in
    record {
      valid = λ n k at. (r.sound.each n k at).valid;
      len = r.len;
      queued = λ n c.
          let at = at_contains (start_numbers g) n (subst (λ (q : List ℕ). Contains q n) b.queue c) in
          rw b.kernels.len (within n at.0 at.1);
    }
  where
    within : (n i : ℕ) → slice_get (start_numbers g) i ≡ Some n → n < length g.starts
    within n i e =
        let l : i < length g.starts = rw (← length-range_with_len 0 (length g.starts)) (slice_get_within (start_numbers g) i n e) in
        let one : Some n ≡ Some i = sym e ∙ start_numbers_at g i l in
        let same : n ≡ i = cc in
        omega arith

steps_ready : (g : PlainGrammar) (first last : MergeState) → IsInitial g first → MergeSteps g first last → IsWellFormed g last
steps_ready g first last b none = begun_ready g first b
steps_ready g first last b (more {old} s step) = step_well_formed g old last step (steps_ready g first old b s)

pub is_well_formed : (g : PlainGrammar) (w : MergeState) → IsReachedByMerging g w → IsWellFormed g w
is_well_formed g w l = steps_ready g l.first w l.is_initial l.steps

abbrev with_queue : MergeState → List ℕ → MergeState
with_queue w queue = record { kernels = w.kernels; rows = w.rows; queue = queue }

module _ (g : PlainGrammar) (old : MergeState) where
  module _ (new : MergeState) (state : ℕ) (rest : List ℕ) (e : old.queue ≡ state ∷ rest) where
    pub IsReachedByMerging-step : IsReachedByMerging g old → IsMergeStep g (with_queue old (state ∷ rest)) new → IsReachedByMerging g new
    IsReachedByMerging-step l s =
        let step : IsMergeStep g old new = subst (λ (q : List ℕ). IsMergeStep g (with_queue old q) new) (sym e) s in
        record { first = l.first; is_initial = l.is_initial; steps = more l.steps step }

  pub next_well_formed : (state : ℕ) (rest : List ℕ) (e : old.queue ≡ state ∷ rest) → IsReachedByMerging g old → IsWellFormed g (with_queue old (state ∷ rest))
  next_well_formed state rest e l = subst (λ (q : List ℕ). IsWellFormed g (with_queue old q)) e (is_well_formed g old l)

  pub merging_exceeds : (limit state : ℕ) (rest : List ℕ) (e : old.queue ≡ state ∷ rest) → IsReachedByMerging g old → StepExceeds g limit (with_queue old (state ∷ rest)) → MergingExceeds g limit
  merging_exceeds limit state rest e l o = record { first = l.first; last = old; is_initial = l.is_initial; steps = l.steps; step_exceeds = subst (λ (q : List ℕ). StepExceeds g limit (with_queue old q)) (sym e) o }

pub step_lowers_weight : (g : PlainGrammar) (limit : ℕ) (old new : MergeState) (state : ℕ) (rest : List ℕ) → old.queue ≡ state ∷ rest → IsMergeStep g (with_queue old (state ∷ rest)) new → length new.kernels ≤ limit → weight g limit new < weight g limit old
step_lowers_weight g limit old new state rest e s few = subst (λ (q : List ℕ). weight g limit new < weight g limit (with_queue old q)) (sym e) (step_weight g limit (with_queue old (state ∷ rest)) new s few)

pub IsInitialUpTo-none : IsInitialUpTo 0 (record { kernels = []; rows = []; queue = [] })
IsInitialUpTo-none = record { kernels = record { len = refl; each = λ i l. absurd (omega arith) }; rows = refl; queue = refl }

pub IsInitialUpTo-push : (n : ℕ) (old new : MergeState) (k : Kernel) → IsInitialUpTo n old → k ≡ start_kernel n → new.kernels ≡ old.kernels ++ k ∷ [] → new.rows ≡ old.rows ++ [] ∷ [] → new.queue ≡ old.queue ++ n ∷ [] → IsInitialUpTo (n + 1) new
IsInitialUpTo-push n old new k b is kernels rows queue = record {
  kernels = record {
    len = ap length kernels ∙ length_push old.kernels k ∙ ap (λ m. m + 1) b.kernels.len;
    each = λ i l. elim (cases_lt i n) [
      | inl m ↦ rw kernels (get_left old.kernels (k ∷ []) i (start_kernel i) (b.kernels.each i m))
      | inr m ↦ (let e : i ≡ n = omega arith in rw (kernels, e) (get_last old.kernels k n (sym b.kernels.len) ∙ ap Some is))
    ];
  };
  rows = rows ∙ ap (λ (rs : List (List Edge)). rs ++ [] ∷ []) b.rows ∙ replicate_more n [];
  queue = queue ∙ ap (λ (q : List ℕ). q ++ n ∷ []) b.queue ∙ range_push n;
}
