-- Lemmas on the insertion of inline instances into a list.
use Rattle.std.proofs.Common.{◌≡◌, ℕ, zero, suc, ◌+◌, ◌<◌, ◌⊎◌, true, List, [], ◌∷◌, ◌++◌, Some, None, length, get_or, take, refl, sym, ap, ◌∙◌, subst, inl, inr, arith}
use Rattle.std.specs.Prelude.{◌↔◌}
use Rattle.std.specs.List.{slice_get, All, Contains}
use Rattle.std.proofs.lemmas.List.{take_more}
use Rattle.std.proofs.lemmas.List.Elements.{Contains-push, Contains-push_cases, Contains-append_left, Contains-get_or}
use Rattle.mh_rules.specs.declared.instances.Part.{Part}
use Rattle.mh_rules.specs.declared.instances.InstanceProduction.{InstanceProduction}
use Rattle.mh_rules.specs.declared.instances.Instance.{Instance}
use Rattle.mh_inline_unfold.specs.Instances.{inline_number}
use Rattle.mh_inline_unfold.specs.code.UsedInstances.{OccursInProducers, OccursInAlternatives, UsesInline, AddsToList}
use Rattle.mh_inline_unfold.proofs.InlineProducers.{inline_instance}
use Rattle.mh_inline_unfold.proofs.Occurrences.{number_if_occurs, occurs_if_number, no_occurrence_without_number, among_cases, among_front, among_last, in_cases, in_front, in_last, occurs_if_used, used_if_occurs}

pub AddsToList-none : (P : ℕ → Type 0) (ns : List ℕ) → ((m : ℕ) → P m → ⊥) → AddsToList P ns ns
AddsToList-none P ns none = record { kept = λ m c. c; origin = λ m c. inl c; added = λ m p. absurd (none m p) }

-- Two insertions, one after the other, are one insertion.
pub AddsToList-then : (P Q R : ℕ → Type 0) (a b c : List ℕ) → AddsToList P a b → AddsToList Q b c → ((m : ℕ) → R m → P m ⊎ Q m) → ((m : ℕ) → P m → R m) → ((m : ℕ) → Q m → R m) → AddsToList R a c
AddsToList-then P Q R a b c h k split left right = record {
  kept = λ m e. k.kept m (h.kept m e);
  origin = λ m e. elim (k.origin m e) [ inl f ↦ elim (h.origin m f) [ inl d ↦ inl d | inr x ↦ inr (left m x) ] | inr x ↦ inr (right m x) ];
  added = λ m r. elim (split m r) [ inl x ↦ k.kept m (h.added m x) | inr x ↦ k.added m x ];
}

module _ (is : List Instance) where
  pub part_listed : (X : Part) (n : ℕ) (ns : List ℕ) → inline_number is X ≡ Some n → AddsToList (OccursInProducers is (X ∷ [])) ns (ns ++ n ∷ [])
  part_listed X n ns e = record {
    kept = λ m c. Contains-append_left ns (n ∷ []) m c;
    origin = λ m c. elim (Contains-push_cases ns n m c) [ inl d ↦ inl d | inr s ↦ inr (occurs_if_number is X n m e (sym s)) ];
    added = λ m x. rw (number_if_occurs is X n m e x) (Contains-push ns n);
  }

  pub part_passed : (X : Part) (ns : List ℕ) → inline_number is X ≡ None → AddsToList (OccursInProducers is (X ∷ [])) ns ns
  part_passed X ns e = AddsToList-none (OccursInProducers is (X ∷ [])) ns (λ m x. no_occurrence_without_number is X m e x)

  pub side_listed : (Xs : List Part) (i : ℕ) (d : Part) (a b c : List ℕ) → i < length Xs → AddsToList (OccursInProducers is (take i Xs)) a b → AddsToList (OccursInProducers is (get_or Xs i d ∷ [])) b c → AddsToList (OccursInProducers is (take (i + 1) Xs)) a c
  side_listed Xs i d a b c l h k =
      let front = take i Xs in
      let X = get_or Xs i d in
      rw (take_more Xs i d l) (AddsToList-then (OccursInProducers is front) (OccursInProducers is (X ∷ [])) (OccursInProducers is (front ++ X ∷ [])) a b c h k (among_cases is front X) (among_front is front X) (among_last is front X))

  pub each_listed : (ps : List InstanceProduction) (i : ℕ) (p : InstanceProduction) (a b c : List ℕ) → i < length ps → p ≡ get_or ps i p → AddsToList (OccursInAlternatives is (take i ps)) a b → AddsToList (OccursInProducers is p.rhs) b c → AddsToList (OccursInAlternatives is (take (i + 1) ps)) a c
  each_listed ps i p a b c l at h k = let front = take i ps in rw (take_more ps i p l, ← at) (AddsToList-then (OccursInAlternatives is front) (OccursInProducers is p.rhs) (OccursInAlternatives is (front ++ p ∷ [])) a b c h k (in_cases is front p) (in_front is front p) (in_last is front p))

  pub all_listed : (n : ℕ) (i : Instance) (ns : List ℕ) → slice_get is n ≡ Some i → AddsToList (OccursInAlternatives is i.productions) [] ns → (m : ℕ) → Contains ns m ↔ UsesInline is n m
  all_listed n i ns at h m = (λ c. of (h.origin m c), λ x. h.added m (occurs_if_used is n i m at x))
    where
      of : Contains [] m ⊎ OccursInAlternatives is i.productions m → UsesInline is n m
      of (inl c) = absurd (let l = c.1 in omega arith)
      of (inr x) = used_if_occurs is n i m at x

  pub all_within : (n : ℕ) (ns : List ℕ) → ((m : ℕ) → Contains ns m ↔ UsesInline is n m) → All (λ m. m < length is) ns
  all_within n ns h = λ k d l. let m = get_or ns k d in (inline_instance is m ((h m).0 (Contains-get_or ns k d l)).among.used).within
