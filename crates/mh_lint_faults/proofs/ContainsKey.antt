-- Sets of keys that are equal only if they are the same: what they contain.
use Rattle.std.proofs.Common.{◌≡◌, ◌↔◌, ◌⊎◌, Bool, true, false, cond, refl, sym, ap, subst, ◌∙◌, inl, inr}
use Rattle.std.specs.Prelude.{not, IsTrue}
use Rattle.std.specs.List.{Contains, list_any}
use Rattle.std.specs.HashSet.{HashSet, contains}
use Rattle.std.specs.Cmp.{IsEquivalence}
use Rattle.std.proofs.lemmas.Bool.{cases_Bool}
use Rattle.std.proofs.lemmas.Map.Views.{Contains-from_any, list_any-from_Contains}

module _ {K S : Type 0} {eq : K → K → Bool} (laws : IsEquivalence eq) (exact : (x y : K) → eq x y ≡ true → x ≡ y) where
  pub has : (s : HashSet K S) (k : K) → (contains eq s k ≡ true) ↔ Contains s.keys k
  has s k = (λ e. Contains-from_any exact k s.keys e, λ c. list_any-from_Contains laws k s.keys c)

  pub puts : (old new : HashSet K S) (key : K) → ((q : K) → contains eq new q ≡ cond (eq key q) true (contains eq old q)) → (x : K) → Contains new.keys x ↔ (Contains old.keys x ⊎ (x ≡ key))
  puts old new key at x = (λ c. found c, λ c. kept c)
    where
      found : Contains new.keys x → Contains old.keys x ⊎ (x ≡ key)
      found c = elim (cases_Bool (eq key x)) [
        | inl equal ↦ inr (sym (exact key x equal))
        | inr other ↦ inl ((has old x).0 (sym (at x ∙ ap (λ b. cond b true (contains eq old x)) other) ∙ (has new x).1 c))
      ]

      kept : Contains old.keys x ⊎ (x ≡ key) → Contains new.keys x
      kept (inl c) = (has new x).0 (at x ∙ either (eq key x) ((has old x).1 c))
        where
          either : (b : Bool) → contains eq old x ≡ true → cond b true (contains eq old x) ≡ true
          either true e = refl
          either false e = e
      kept (inr same) = (has new x).0 (at x ∙ ap (λ b. cond b true (contains eq old x)) (subst (λ y. eq key y ≡ true) (sym same) (laws.refl key)))

  pub adds : (old : HashSet K S) (key : K) (is_new : Bool) → is_new ≡ not (contains eq old key) → (is_new ≡ true) ↔ (Contains old.keys key → ⊥)
  adds old key is_new e = (λ t c. absurd (lacks t ((has old key).1 c)), λ h. new (cases_Bool (contains eq old key)) h)
    where
      lacks : is_new ≡ true → contains eq old key ≡ true → ⊥
      lacks t c = let bad : true ≡ false = sym t ∙ e ∙ ap not c in cc

      new : (contains eq old key ≡ true) ⊎ (contains eq old key ≡ false) → (Contains old.keys key → ⊥) → is_new ≡ true
      new (inl has_it) h = absurd (h ((has old key).0 has_it))
      new (inr lacking) h = e ∙ ap not lacking
