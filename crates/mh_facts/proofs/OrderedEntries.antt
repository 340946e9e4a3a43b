-- Lemmas on the indices of entries in a list that grows at its end, and on the map from keys to these indices.
use Rattle.std.proofs.Common.{◌≡◌, ℕ, suc, ◌<◌, [], ◌∷◌, ◌++◌, List, None, Some, Option, Bool, true, false, cond, length, get_or, refl, ap, sym, ◌∙◌}
use Rattle.std.specs.Prelude.{slice_get}
use Rattle.std.specs.Cmp.{IsEquivalence}
use Rattle.std.specs.HashMap.{HashMap, Updates}
use Rattle.std.specs.Map.{lookup}
use Rattle.std.specs.Option.{option_map, option_or}
use Rattle.std.proofs.lemmas.Option.{slice_get_within, get_or_from_slice_get}
use Rattle.mh_facts.specs.Ordered.{index_in, HasIndices}

no_place : (b : Bool) (p : Option ℕ) → cond b (Some 0) (option_map suc p) ≡ None → (b ≡ false) × (p ≡ None)
no_place true p h = cc
no_place false (Some n) h = cc
no_place false None h = (refl, refl)

no_value : {X : Type 0} (b : Bool) (x : X) (o : Option X) → cond b (Some x) o ≡ None → (b ≡ false) × (o ≡ None)
no_value true x o h = cc
no_value false x o h = (refl, h)

shifted : (b : Bool) (p : Option ℕ) (c : Bool) (n : ℕ) → cond b (Some 0) (option_map suc (option_or p (cond c (Some n) None))) ≡ option_or (cond b (Some 0) (option_map suc p)) (cond c (Some (suc n)) None)
shifted true p c n = refl
shifted false (Some m) c n = refl
shifted false None true n = refl
shifted false None false n = refl

module _ {K X : Type 0} (test : K → Bool) where
  -- The entry at index n passes the test, and `lookup` finds its value.
  abbrev pub IsAt : List (K × X) → ℕ → Type 0
  IsAt es n = (k : K) × (v : X) × (slice_get es n ≡ Some (k, v)) × (test k ≡ true) × (lookup test es ≡ Some v)

  at_more : (e : K × X) (es : List (K × X)) (b : Bool) (p : Option ℕ) (n : ℕ) → test e.0 ≡ b → ((m : ℕ) → p ≡ Some m → IsAt es m) → cond b (Some 0) (option_map suc p) ≡ Some n → IsAt (e ∷ es) n
  at_more e es true p n t before h = let z : n ≡ 0 = cc in rw z (e.0, e.1, refl, t, rw t refl)
  at_more e es false None n t before h = cc
  at_more e es false (Some m) n t before h =
      let z : n ≡ suc m = cc in
      let was = before m refl in
      rw z (was.0, was.1, was.2, was.3, rw t was.4)

  pub place_at : (es : List (K × X)) (n : ℕ) → index_in test es ≡ Some n → IsAt es n
  place_at [] n h = cc
  place_at (e ∷ es) n h = at_more e es (test e.0) (index_in test es) n refl (place_at es) h

  pub no_place_none : (es : List (K × X)) → index_in test es ≡ None → lookup test es ≡ None
  no_place_none [] h = refl
  no_place_none (e ∷ es) h = let s = no_place (test e.0) (index_in test es) h in rw s.0 (no_place_none es s.1)

  pub none_no_place : (es : List (K × X)) → lookup test es ≡ None → index_in test es ≡ None
  none_no_place [] h = refl
  none_no_place (e ∷ es) h = let s = no_value (test e.0) e.1 (lookup test es) h in rw s.0 (ap (option_map suc) (none_no_place es s.1))

  pub place_within : (es : List (K × X)) (n : ℕ) → index_in test es ≡ Some n → n < length es
  place_within es n h = let at = place_at es n h in slice_get_within es n (at.0, at.1) at.2

  -- The value of the entry at the index of a key is the value of the key.
  pub value_at : (es : List (K × X)) (n : ℕ) (x : K × X) → index_in test es ≡ Some n → x ≡ get_or es n x → Some x.1 ≡ lookup test es
  value_at es n x h is =
      let at = place_at es n h in
      let e : x ≡ (at.0, at.1) = is ∙ get_or_from_slice_get es n (at.0, at.1) x at.2 in
      ap (λ (p : K × X). Some p.1) e ∙ sym at.4

  place_push : (es : List (K × X)) (k : K) (v : X) → index_in test (es ++ (k, v) ∷ []) ≡ option_or (index_in test es) (cond (test k) (Some (length es)) None)
  place_push [] k v = refl
  place_push (e ∷ es) k v = ap (λ (p : Option ℕ). cond (test e.0) (Some 0) (option_map suc p)) (place_push es k v) ∙ shifted (test e.0) (index_in test es) (test k) (length es)

alike : {K X : Type 0} (f g : K → Bool) → ((k : K) → f k ≡ g k) → (es : List (K × X)) → lookup f es ≡ lookup g es
alike f g same [] = refl
alike f g same (e ∷ es) = rw (same e.0, alike f g same es) refl

or_none : (p : Option ℕ) → option_or p None ≡ p
or_none None = refl
or_none (Some n) = refl

-- An entry is appended, and its index is put into the map.
module _ {K X : Type 0} {eq : K → K → Bool} (laws : IsEquivalence eq) (es : List (K × X)) (k : K) (v : X) (none : lookup (eq k) es ≡ None) where
  place_of_key : (q : K) (b : Bool) → eq k q ≡ b → cond b (Some (length es)) (index_in (eq q) es) ≡ index_in (eq q) (es ++ (k, v) ∷ [])
  place_of_key q true e =
      let back : eq q k ≡ true = laws.symm q k ∙ e in
      let absent : index_in (eq q) es ≡ None = none_no_place (eq q) es (sym (alike (eq k) (eq q) (λ z. laws.congr k q z e) es) ∙ none) in
      sym (place_push (eq q) es k v ∙ rw (absent, back) refl)
  place_of_key q false e =
      let back : eq q k ≡ false = laws.symm q k ∙ e in
      sym (place_push (eq q) es k v ∙ rw back (or_none (index_in (eq q) es)))

  pub knows_push : {S : Type 0} (m n : HashMap K ℕ S) → HasIndices eq es m → Updates eq m n k (Some (length es)) → HasIndices eq (es ++ (k, v) ∷ []) n
  knows_push m n knows put q = put.0 q ∙ ap (λ (p : Option ℕ). cond (eq k q) (Some (length es)) p) (knows q) ∙ place_of_key q (eq k q) refl
