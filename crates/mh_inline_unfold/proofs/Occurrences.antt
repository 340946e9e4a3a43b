-- Lemmas on the inline instances that occur among producers and in alternatives, for loops over them.
use Rattle.std.proofs.Common.{◌≡◌, ℕ, zero, suc, ◌⊎◌, true, List, [], ◌∷◌, ◌++◌, Some, None, length, refl, sym, ap, ◌∙◌, subst, inl, inr}
use Rattle.std.specs.List.{slice_get}
use Rattle.std.proofs.lemmas.Bool.{false≢true}
use Rattle.std.proofs.lemmas.Option.{none-some, same_Some}
use Rattle.mh_grammar.proofs.NumberingInvariant.{get_left, get_last, get_cases}
use Rattle.mh_rules.specs.declared.instances.Part.{Part}
use Rattle.mh_rules.specs.declared.instances.Part.TheVariants.{Instance as Applied}
use Rattle.mh_rules.specs.declared.instances.InstanceProduction.{InstanceProduction}
use Rattle.mh_rules.specs.declared.instances.Instance.{Instance}
use Rattle.mh_inline_unfold.specs.Instances.{is_inlined, inline_number, IsKept}
use Rattle.mh_inline_unfold.specs.code.UsedInstances.{OccursInProducers, OccursInAlternatives, UsesInline}
use Rattle.mh_inline_unfold.proofs.InlineProducers.{inline_some, inline_none}

module _ (is : List Instance) where
  -- If a producer is an inline instance, no other inline instance occurs in the producer.
  pub number_if_occurs : (X : Part) (n m : ℕ) → inline_number is X ≡ Some n → OccursInProducers is (X ∷ []) m → m ≡ n
  number_if_occurs X n m e x = first x.producer x.at
    where
      first : (j : ℕ) → slice_get (X ∷ []) j ≡ Some (Applied m) → m ≡ n
      first zero at = let f : Applied n ≡ Applied m = sym (inline_some is X n e).same ∙ same_Some X (Applied m) at in let g : n ≡ m = cc in sym g
      first (suc j) at = absurd (none-some (Applied m) at)

  pub occurs_if_number : (X : Part) (n m : ℕ) → inline_number is X ≡ Some n → m ≡ n → OccursInProducers is (X ∷ []) m
  occurs_if_number X n m e s = let h = inline_some is X n e in record { producer = 0; at = ap Some (h.same ∙ ap Applied (sym s)); used = rw s h.inlined }

  pub no_occurrence_without_number : (X : Part) (m : ℕ) → inline_number is X ≡ None → OccursInProducers is (X ∷ []) m → ⊥
  no_occurrence_without_number X m e x = first x.producer x.at
    where
      first : (j : ℕ) → slice_get (X ∷ []) j ≡ Some (Applied m) → ⊥
      first zero at = let kept = subst (IsKept is) (same_Some X (Applied m) at) (inline_none is X e) in false≢true (sym kept ∙ x.used)
      first (suc j) at = none-some (Applied m) at

  -- The inline instances that occur in a list of producers with one more producer are those in the list and those in
  -- the new producer.
  pub no_occurrence_in_empty_producers : (m : ℕ) → OccursInProducers is [] m → ⊥
  no_occurrence_in_empty_producers m x = none-some (Applied m) x.at

  pub among_cases : (Xs : List Part) (X : Part) (m : ℕ) → OccursInProducers is (Xs ++ X ∷ []) m → OccursInProducers is Xs m ⊎ OccursInProducers is (X ∷ []) m
  among_cases Xs X m x = elim (get_cases Xs X x.producer (Applied m) x.at) [
    | inl before ↦ inl (record { producer = x.producer; at = before; used = x.used })
    | inr last ↦ inr (record { producer = 0; at = ap Some (sym last.1); used = x.used })
  ]

  pub among_front : (Xs : List Part) (X : Part) (m : ℕ) → OccursInProducers is Xs m → OccursInProducers is (Xs ++ X ∷ []) m
  among_front Xs X m x = record { producer = x.producer; at = get_left Xs (X ∷ []) x.producer (Applied m) x.at; used = x.used }

  pub among_last : (Xs : List Part) (X : Part) (m : ℕ) → OccursInProducers is (X ∷ []) m → OccursInProducers is (Xs ++ X ∷ []) m
  among_last Xs X m x = record { producer = length Xs; at = at_end x.producer x.at; used = x.used }
    where
      at_end : (j : ℕ) → slice_get (X ∷ []) j ≡ Some (Applied m) → slice_get (Xs ++ X ∷ []) (length Xs) ≡ Some (Applied m)
      at_end zero at = get_last Xs X (length Xs) refl ∙ at
      at_end (suc j) at = absurd (none-some (Applied m) at)

  -- The inline instances that occur in a list of alternatives with one more alternative are those in the list and those
  -- in the new alternative.
  pub no_occurrence_in_empty_alternatives : (m : ℕ) → OccursInAlternatives is [] m → ⊥
  no_occurrence_in_empty_alternatives m x = none-some x.production x.at

  pub in_cases : (ps : List InstanceProduction) (p : InstanceProduction) (m : ℕ) → OccursInAlternatives is (ps ++ p ∷ []) m → OccursInAlternatives is ps m ⊎ OccursInProducers is p.rhs m
  in_cases ps p m x = elim (get_cases ps p x.place x.production x.at) [
    | inl before ↦ inl (record { place = x.place; production = x.production; at = before; among = x.among })
    | inr last ↦ inr (subst (λ (q : InstanceProduction). OccursInProducers is q.rhs m) last.1 x.among)
  ]

  pub in_front : (ps : List InstanceProduction) (p : InstanceProduction) (m : ℕ) → OccursInAlternatives is ps m → OccursInAlternatives is (ps ++ p ∷ []) m
  in_front ps p m x = record { place = x.place; production = x.production; at = get_left ps (p ∷ []) x.place x.production x.at; among = x.among }

  pub in_last : (ps : List InstanceProduction) (p : InstanceProduction) (m : ℕ) → OccursInProducers is p.rhs m → OccursInAlternatives is (ps ++ p ∷ []) m
  in_last ps p m x = record { place = length ps; production = p; at = get_last ps p (length ps) refl; among = x }

  -- The inline instances of an instance are those of its alternatives.
  pub occurs_if_used : (n : ℕ) (i : Instance) (m : ℕ) → slice_get is n ≡ Some i → UsesInline is n m → OccursInAlternatives is i.productions m
  occurs_if_used n i m at x = record { place = x.place; production = x.production; at = ap (λ (j : Instance). slice_get j.productions x.place) (same_Some _ _ (sym at ∙ x.alternative.at)) ∙ x.alternative.alternative; among = x.among }

  pub used_if_occurs : (n : ℕ) (i : Instance) (m : ℕ) → slice_get is n ≡ Some i → OccursInAlternatives is i.productions m → UsesInline is n m
  used_if_occurs n i m at x = record { place = x.place; production = x.production; alternative = record { instance = i; at = at; alternative = x.at }; among = x.among }
