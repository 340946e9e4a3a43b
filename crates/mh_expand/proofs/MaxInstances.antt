-- Proves that an expansion without a fault has at most 20,000 instances.
use Rattle.std.proofs.Common.{◌≡◌, ℕ, ◌<◌, ◌≤◌, ◌⊎◌, List, [], ◌∷◌, ◌++◌, flat_map, length, get_or, refl, sym, ap, subst, ◌∙◌, arith, append_assoc, inl, inr, length-append}
use Rattle.std.specs.List.{Contains}
use Rattle.std.proofs.lemmas.Bool.{cases_lt}
use Rattle.std.proofs.lemmas.List.{append-nil}
use Rattle.std.proofs.lemmas.List.Elements.{Contains-append_left}
use Rattle.std.proofs.lemmas.Option.{slice_get-get_or}
use Rattle.mh_grammar.proofs.Lists.{contains_last, contains_none, contains_push, zip_length}
use Rattle.mh_grammar.proofs.NumberingInvariant.{contains_at}
use Rattle.mh_rules.specs.declared.joined.Joined.{Joined}
use Rattle.mh_expand.specs.declared.fault.ExpandFault.TheVariants.{Arity, Expansion}
use Rattle.mh_rules.specs.declared.instances.Expanded.{Expanded}
use Rattle.mh_expand.specs.Terms.{Term, head_of, head_name, text}
use Rattle.mh_expand.specs.Expansion as expansion
use Rattle.mh_expand.specs.Expansion.{IsInstance, IsFindingOrder, found_terms, producers_of, HasRightArity, HasNoFault, IsInstanceOf, IsExpanded}
use Rattle.mh_expand.proofs.IsExpanding.{right_arity_or_not, finding_order_reached}
use Rattle.mh_expand.proofs.UniqueOrder.{compare_splits, Contains-middle, found_terms-append, finding_order_distinct}
use Rattle.mh_expand.proofs.HasSameSentences.{IsReached-instance}

-- A prefix of a list without faults has no faults.
HasNoFault-prefix : (j : Joined) (xs ys zs : List Term) → zs ≡ xs ++ ys → HasNoFault j zs → HasNoFault j xs
HasNoFault-prefix j xs ys zs e c before after t fault split f = c before (after ++ ys) t fault (e ∙ ap (λ v. v ++ ys) split ∙ append_assoc before (t ∷ after) ys) f

module _ (j : Joined) (us : List Term) (t : Term) (before after : List Term) (split : found_terms j us ≡ before ++ t ∷ after) (instance : IsInstance t) (new : Contains us t → ⊥) where
  -- If t is the next new instance after the terms `before`, then each instance that was found earlier occurs in
  -- `before`.
  earlier_instances_before : (vs : List Term) → IsFindingOrder j vs → (more : List Term) → us ≡ vs ++ more → (u : Term) → Contains vs u → Contains before u
  earlier_instances_before [] expansion.IsFindingOrder.none more e u c = absurd (contains_none u c)
  earlier_instances_before vs (expansion.IsFindingOrder.more {ts = ws} {t = x} front behind a here i fresh others) more e u c =
      let all : us ≡ ws ++ x ∷ more = e ∙ append_assoc ws (x ∷ []) more in
      elim (contains_push ws x u c) [
        | inl d ↦ earlier_instances_before ws a (x ∷ more) all u d
        | inr same ↦ (
            let behind_all = behind ++ flat_map (producers_of j) (x ∷ more) in
            let longer : found_terms j us ≡ front ++ x ∷ behind_all = ap (found_terms j) all ∙ found_terms-append j ws (x ∷ more) ∙ ap (λ v. v ++ flat_map (producers_of j) (x ∷ more)) here ∙ append_assoc front (x ∷ behind) (flat_map (producers_of j) (x ∷ more)) in
            let is_in : (y : Term) → Contains ws y → Contains us y = (λ y d. subst (λ l. Contains l y) (sym all) (Contains-append_left ws (x ∷ more) y d)) in
            elim (compare_splits front before x t behind_all after (sym longer ∙ split)) [
              | inl s ↦ absurd (new (subst (Contains us) s.1 (subst (λ l. Contains l x) (sym all) (Contains-middle ws x more (ws ++ x ∷ more) refl))))
              | inr s ↦ elim s [
                | inl r ↦ subst (Contains before) (sym same) (Contains-middle front x r.0 before r.1)
                | inr r ↦ absurd (new (is_in t (others t (Contains-middle before t r.0 front r.1) instance)))
              ]
            ]
            )
      ]

-- If the instances in the order of finding lead to terms without a fault, they are at most 20,000.
few_in_finding_order : (j : Joined) (ts : List Term) → IsFindingOrder j ts → HasNoFault j (found_terms j ts) → length ts ≤ 20000
few_in_finding_order j [] expansion.IsFindingOrder.none clear = omega arith
few_in_finding_order j ts (expansion.IsFindingOrder.more {ts = us} {t} before after a split i new others) clear =
    let clear_before = HasNoFault-prefix j (found_terms j us) (flat_map (producers_of j) (t ∷ [])) (found_terms j (us ++ t ∷ [])) (found_terms-append j us (t ∷ [])) clear in
    let few = few_in_finding_order j us a clear_before in
    let len = length-append us (t ∷ []) in
    elim (cases_lt (length us) 20000) [
      | inl l ↦ omega arith
      | inr l ↦ absurd (
          let full : length us ≡ 20000 = omega arith in
          let fits : HasRightArity j t = elim (right_arity_or_not j t) [ inl f ↦ f | inr f ↦ absurd (clear_before before after t (Arity (text j t)) split (expansion.IsFault.count f)) ] in
          clear_before before after t (Expansion (head_name j (head_of t))) split (expansion.IsFault.full fits
          (record { instance = i; new = λ c. new (others t c i) })
          (record {
            terms = us;
            found = λ k d l.
                let u = get_or us k d in
                let c = contains_at us k u (slice_get-get_or us k d l) in
                (earlier_instances_before j us t before after split i new us a [] (sym (append-nil us)) u c, IsReached-instance j u (finding_order_reached j us a u c));
            distinct = finding_order_distinct j us a;
            count = full;
          }))
          )
    ]

pub few_instances : (j : Joined) (e : Expanded) → IsExpanded j e → length e.instances ≤ 20000
few_instances j e w =
    let few = few_in_finding_order j w.terms w.order w.no_fault in
    let many = zip_length (IsInstanceOf j w.terms) w.terms e.instances w.each in
    omega arith
