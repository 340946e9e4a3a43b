-- Proves, as a double negation, that each right side has a list of unfoldings if no instance is inlined into itself.
use Rattle.std.proofs.Common.{◌≡◌, ℕ, zero, suc, ◌+◌, ◌<◌, ◌≤◌, ◌⊎◌, inl, inr, Bool, true, false, List, [], ◌∷◌, ◌++◌, Some, length, map, refl, sym, ap, subst, ◌∙◌, arith}
use Rattle.std.specs.List.{slice_get, All, Contains}
use Rattle.std.proofs.lemmas.Option.{none-some}
use Rattle.std.proofs.lemmas.List.{length_push}
use Rattle.std.proofs.lemmas.List.Elements.{All-push, All-contains}
use Rattle.mh_grammar.specs.Numbering.{AreDistinct}
use Rattle.mh_grammar.proofs.Pigeonhole.{length-distinct_in}
use Rattle.mh_grammar.proofs.NumberingInvariant.{AreDistinct-push}
use Rattle.mh_rules.specs.declared.instances.Part.{Part}
use Rattle.mh_rules.specs.declared.instances.Part.TheVariants.{Token, Instance as Applied}
use Rattle.mh_rules.specs.declared.instances.InstanceProduction.{InstanceProduction}
use Rattle.mh_rules.specs.declared.instances.Instance.{Instance}
use Rattle.mh_inline_unfold.specs.declared.unfolding.Unfolding.{Unfolding}
use Rattle.mh_inline_unfold.specs.Instances.{is_inlined, IsAlternative, Inlines, Reaches}
use Rattle.mh_inline_unfold.specs.Instances as instances
use Rattle.mh_inline_unfold.specs.Unfoldings as unfoldings
use Rattle.mh_inline_unfold.specs.Unfoldings.{UnfoldsPart, Unfolds, UnfoldsEach, unfolding_of_part, choices, with_own_prec}
use Rattle.mh_inline_unfold.proofs.InlineProducers.{inline_instance}
use Rattle.mh_inline.proofs.IsCyclic.{numbers_below, length-numbers, numbers_at, reaches_user}
use Rattle.mh_grammar.specs.NotLacking.{NotLacking}
use Rattle.mh_grammar.proofs.NotLacking.{given, chain, decided}

module _ (is : List Instance) where
  abbrev Has : ℕ → Type 0
  Has n = (us : List Unfolding) × UnfoldsPart is (Applied n) us

  abbrev KnownIn : List Part → Type 0
  KnownIn Xs = (j m : ℕ) → slice_get Xs j ≡ Some (Applied m) → is_inlined is m ≡ true → NotLacking (Has m)

  part : (X : Part) → ((m : ℕ) → X ≡ Applied m → is_inlined is m ≡ true → NotLacking (Has m)) → NotLacking ((us : List Unfolding) × UnfoldsPart is X us)
  part (Token a) known = given (unfolding_of_part (Token a) ∷ [], unfoldings.UnfoldsPart.kept tt)
  part (Applied m) known = by (is_inlined is m) refl
    where
      by : (b : Bool) → is_inlined is m ≡ b → NotLacking (Has m)
      by true e = known m refl e
      by false e = given (unfolding_of_part (Applied m) ∷ [], unfoldings.UnfoldsPart.kept e)

  side : (Xs : List Part) → KnownIn Xs → NotLacking ((us : List Unfolding) × Unfolds is Xs us)
  side [] known = given (unfoldings.empty_unfolding ∷ [], unfoldings.Unfolds.none)
  side (X ∷ Xs) known = chain (part X (λ m e i. known 0 m (ap Some e) i)) (λ u. chain (side Xs (λ j m e i. known (suc j) m e i)) (λ v. given (choices u.0 v.0, unfoldings.Unfolds.more refl u.1 v.1)))

  each : (ps : List InstanceProduction) → ((k : ℕ) (p : InstanceProduction) → slice_get ps k ≡ Some p → KnownIn p.rhs) → NotLacking ((us : List Unfolding) × UnfoldsEach is ps us)
  each [] known = given ([], unfoldings.UnfoldsEach.no_alternative)
  each (p ∷ ps) known = chain (side p.rhs (known 0 p refl)) (λ u. chain (each ps (λ k q e. known (suc k) q e)) (λ v. given (map (with_own_prec p.prec) u.0 ++ v.0, unfoldings.UnfoldsEach.alternative refl u.1 v.1)))

  record Bad (n : ℕ) : Type 0 where
    inlined : is_inlined is n ≡ true
    lacks : Has n → ⊥

  abbrev Next : ℕ → Type 0
  Next n = (m : ℕ) × Inlines is n m × Bad m

  next : (n : ℕ) → Bad n → NotLacking (Next n)
  next n bad none =
      let i = inline_instance is n bad.inlined in
      each i.instance.productions (λ k p at j m here used lacks. none (m, record { user_inlined = bad.inlined; place = k; production = p; alternative = record { instance = i.instance; at = i.at; alternative = at }; producer = j; at = here; used_inlined = used }, record { inlined = used; lacks = lacks }))
      (λ us. bad.lacks (us.0, unfoldings.UnfoldsPart.inlined i.at i.inlined us.1))

  module _ (acyclic : (n : ℕ) → Reaches is n n → ⊥) where
    record Path (steps : ℕ) : Type 0 where
      last : ℕ
      bad : Bad last
      before : List ℕ
      len : length before ≡ steps
      distinct : AreDistinct before
      reach : All (λ x. Reaches is x last) before

    path : (n : ℕ) → Bad n → (steps : ℕ) → NotLacking (Path steps)
    path n bad zero = given (record { last = n; bad = bad; before = []; len = refl; distinct = record { same = λ i j x a b. absurd (none-some x a) }; reach = λ k d l. absurd (omega arith) })
    path n bad (suc steps) = chain (path n bad steps) (λ p. chain (next p.last p.bad) (λ m. given (record {
      last = m.0;
      bad = m.2;
      before = p.before ++ p.last ∷ [];
      len = length_push p.before p.last ∙ (let l = p.len in omega arith);
      distinct = AreDistinct-push p.before p.last p.distinct (λ c. acyclic p.last (All-contains (λ x. Reaches is x p.last) p.before p.last p.reach c));
      reach = All-push (λ x. Reaches is x m.0) p.before p.last (λ k d l. instances.Reaches.more (p.reach k d l) m.1) (instances.Reaches.one m.1);
    })))

    none_bad : (n : ℕ) → Bad n → ⊥
    none_bad n bad = path n bad (suc (length is)) (λ p.
        let few = length-distinct_in (numbers_below (length is)) p.before p.distinct (λ x c. numbers_at (length is) x (inline_instance is x (reaches_user is x p.last (All-contains (λ y. Reaches is y p.last) p.before x p.reach c))).within) in
        let l = p.len in
        let m = length-numbers (length is) in
        omega arith)

    -- Each right side has a list of unfoldings.
    pub right_side_has_unfoldings : (Xs : List Part) → NotLacking ((us : List Unfolding) × Unfolds is Xs us)
    right_side_has_unfoldings Xs = side Xs (λ j m e i lacks. none_bad m (record { inlined = i; lacks = lacks }))
