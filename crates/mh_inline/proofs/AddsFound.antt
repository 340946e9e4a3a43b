-- Lemmas on the instances found by a search.
use Rattle.std.proofs.Common.{◌≡◌, ℕ, zero, suc, ◌+◌, ◌<◌, ◌⊎◌, true, false, not, List, [], ◌∷◌, ◌++◌, Some, None, length, get_or, set, take, count_by, refl, sym, ap, ◌∙◌, arith, inl, inr, get_or-set_same, length-set, subst, replicate}
use Rattle.std.specs.List.{slice_get, Contains}
use Rattle.std.proofs.lemmas.Bool.{false≢true}
use Rattle.std.proofs.lemmas.List.{take_more, length_push, length-replicate}
use Rattle.std.proofs.lemmas.List.Elements.{Contains-push, Contains-push_cases, Contains-append_left}
use Rattle.mh_grammar.proofs.FlagTable.{kept-set, set-cases}
use Rattle.mh_grammar.proofs.LeastMarks.{unmarked_falls}
use Rattle.mh_grammar.proofs.NumberingInvariant.{get_left, contains_at, at_contains}
use Rattle.mh_rules.specs.declared.instances.Part.{Part}
use Rattle.mh_rules.specs.declared.instances.InstanceProduction.{InstanceProduction}
use Rattle.mh_rules.specs.declared.instances.Instance.{Instance}
use Rattle.mh_inline.specs.declared.cycles.FoundInstances.{FoundInstances}
use Rattle.mh_inline_unfold.specs.Instances.{inline_number}
use Rattle.mh_inline_unfold.specs.code.UsedInstances.{OccursInProducers, OccursInAlternatives, UsesInline}
use Rattle.mh_inline.specs.code.FoundInstances.{FlagsMatchQueue, AddsFound, IsFoundTable, IsEqualTo}
use Rattle.mh_inline_unfold.proofs.Occurrences.{number_if_occurs, occurs_if_number, no_occurrence_without_number, among_cases, among_front, among_last, in_cases, in_front, in_last, occurs_if_used, used_if_occurs}

pub AddsFound-none : (P : ℕ → Type 0) (f : FoundInstances) → FlagsMatchQueue f → ((m : ℕ) → P m → ⊥) → AddsFound P f f
AddsFound-none P f q none = record { len = refl; sets = q; measure = refl; kept = λ i m e. e; origin = λ m c. inl c; added = λ m p. absurd (none m p) }

pub kept_contains : (old new : FoundInstances) → ((i m : ℕ) → slice_get old.queue.items i ≡ Some m → slice_get new.queue.items i ≡ Some m) → (m : ℕ) → Contains old.queue.items m → Contains new.queue.items m
kept_contains old new kept m c = let at = at_contains old.queue.items m c in contains_at new.queue.items at.0 m (kept at.0 m at.1)

-- Two additions, one after the other, are one addition.
pub AddsFound-then : (P Q R : ℕ → Type 0) (a b c : FoundInstances) → AddsFound P a b → AddsFound Q b c → ((m : ℕ) → R m → P m ⊎ Q m) → ((m : ℕ) → P m → R m) → ((m : ℕ) → Q m → R m) → AddsFound R a c
AddsFound-then P Q R a b c h k split left right = record {
  len = k.len ∙ h.len;
  sets = k.sets;
  measure = k.measure ∙ h.measure;
  kept = λ i m e. k.kept i m (h.kept i m e);
  origin = λ m e. elim (k.origin m e) [ inl f ↦ elim (h.origin m f) [ inl d ↦ inl d | inr x ↦ inr (left m x) ] | inr x ↦ inr (right m x) ];
  added = λ m r. elim (split m r) [ inl x ↦ kept_contains b c k.kept m (h.added m x) | inr x ↦ k.added m x ];
}

pub AddsFound-same : (P R : ℕ → Type 0) (a b : FoundInstances) → AddsFound P a b → ((m : ℕ) → R m → P m) → ((m : ℕ) → P m → R m) → AddsFound R a b
AddsFound-same P R a b h back over = record {
  len = h.len;
  sets = h.sets;
  measure = h.measure;
  kept = h.kept;
  origin = λ m e. elim (h.origin m e) [ inl d ↦ inl d | inr x ↦ inr (over m x) ];
  added = λ m r. h.added m (back m r);
}

-- If the flag of a new instance is set and the instance is appended to the queue, the instance is added to the found
-- ones.
pub AddsFound-new : (old new : FoundInstances) (n : ℕ) → FlagsMatchQueue old → n < length old.flags.items → get_or old.flags.items n false ≡ false → new.flags.items ≡ set old.flags.items n true → new.queue.items ≡ old.queue.items ++ n ∷ [] → AddsFound (IsEqualTo n) old new
AddsFound-new old new n q l unset flags queue = record {
  len = ap length flags ∙ length-set old.flags.items n true;
  sets = record {
    queued = λ m e. rw queue (elim (set-cases old.flags.items n m (rw flags at e)) [
      | inl before ↦ Contains-append_left old.queue.items (n ∷ []) m (q.queued m before)
      | inr same ↦ rw same (Contains-push old.queue.items n)
    ]);
    flagged = λ m c. rw flags (elim (Contains-push_cases old.queue.items n m (rw queue at c)) [
      | inl d ↦ kept-set old.flags.items n m l (q.flagged m d)
      | inr e ↦ rw (← e) (get_or-set_same old.flags.items n true false l)
    ]);
  };
  measure = (let f = unmarked_falls old.flags.items n l unset in let k = ap (count_by not) flags in let e = ap length queue ∙ length_push old.queue.items n in omega arith);
  kept = λ i m e. rw queue (get_left old.queue.items (n ∷ []) i m e);
  origin = λ m c. elim (Contains-push_cases old.queue.items n m (rw queue at c)) [ inl d ↦ inl d | inr e ↦ inr (sym e) ];
  added = λ m e. rw (queue, e) (Contains-push old.queue.items n);
}

-- An instance that has been found already is added without any change.
pub AddsFound-there : (f : FoundInstances) (n : ℕ) → FlagsMatchQueue f → get_or f.flags.items n false ≡ true → AddsFound (IsEqualTo n) f f
AddsFound-there f n q e = record { len = refl; sets = q; measure = refl; kept = λ i m at. at; origin = λ m c. inl c; added = λ m s. rw s (q.queued n e) }

no_flag : (n m : ℕ) → get_or (replicate n false) m false ≡ false
no_flag zero m = refl
no_flag (suc n) zero = refl
no_flag (suc n) (suc m) = no_flag n m

pub IsFoundTable-empty : (is : List Instance) (f : FoundInstances) (n : ℕ) → n ≡ length is → f.flags.items ≡ replicate n false → f.queue.items ≡ [] → IsFoundTable is f
IsFoundTable-empty is f n size flags queue = record {
  len = ap length flags ∙ length-replicate n false ∙ size;
  sets = record {
    queued = λ m e. absurd (false≢true (sym (no_flag n m) ∙ rw flags at e));
    flagged = λ m c. absurd (let l = c.1 in let e = ap length queue in omega arith);
  };
}

pub IsFoundTable-after : (is : List Instance) (P : ℕ → Type 0) (old new : FoundInstances) → IsFoundTable is old → AddsFound P old new → IsFoundTable is new
IsFoundTable-after is P old new t a = record { len = a.len ∙ t.len; sets = a.sets }

module _ (is : List Instance) where
  pub part_inline : (X : Part) (n : ℕ) (old new : FoundInstances) → inline_number is X ≡ Some n → AddsFound (IsEqualTo n) old new → AddsFound (OccursInProducers is (X ∷ [])) old new
  part_inline X n old new e a = AddsFound-same (IsEqualTo n) (OccursInProducers is (X ∷ [])) old new a (λ m x. number_if_occurs is X n m e x) (λ m s. occurs_if_number is X n m e s)

  pub part_kept : (X : Part) (f : FoundInstances) → inline_number is X ≡ None → FlagsMatchQueue f → AddsFound (OccursInProducers is (X ∷ [])) f f
  part_kept X f e q = AddsFound-none (OccursInProducers is (X ∷ [])) f q (λ m x. no_occurrence_without_number is X m e x)

  pub side_step : (Xs : List Part) (i : ℕ) (d : Part) (a b c : FoundInstances) → i < length Xs → AddsFound (OccursInProducers is (take i Xs)) a b → AddsFound (OccursInProducers is (get_or Xs i d ∷ [])) b c → AddsFound (OccursInProducers is (take (i + 1) Xs)) a c
  side_step Xs i d a b c l h k =
      let front = take i Xs in
      let X = get_or Xs i d in
      rw (take_more Xs i d l) (AddsFound-then (OccursInProducers is front) (OccursInProducers is (X ∷ [])) (OccursInProducers is (front ++ X ∷ [])) a b c h k (among_cases is front X) (among_front is front X) (among_last is front X))

  pub each_step : (ps : List InstanceProduction) (i : ℕ) (p : InstanceProduction) (a b c : FoundInstances) → i < length ps → p ≡ get_or ps i p → AddsFound (OccursInAlternatives is (take i ps)) a b → AddsFound (OccursInProducers is p.rhs) b c → AddsFound (OccursInAlternatives is (take (i + 1) ps)) a c
  each_step ps i p a b c l at h k = let front = take i ps in rw (take_more ps i p l, ← at) (AddsFound-then (OccursInAlternatives is front) (OccursInProducers is p.rhs) (OccursInAlternatives is (front ++ p ∷ [])) a b c h k (in_cases is front p) (in_front is front p) (in_last is front p))

  pub adds_uses : (n : ℕ) (i : Instance) (a b : FoundInstances) → slice_get is n ≡ Some i → AddsFound (OccursInAlternatives is i.productions) a b → AddsFound (UsesInline is n) a b
  adds_uses n i a b at h = AddsFound-same (OccursInAlternatives is i.productions) (UsesInline is n) a b h (λ m x. occurs_if_used is n i m at x) (λ m x. used_if_occurs is n i m at x)
