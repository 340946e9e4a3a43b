-- Lemmas on association lists and on functions of keys to which one value is added.
use Rattle.std.proofs.Common.{◌≡◌, ◌⊎◌, inl, inr, List, [], ◌∷◌, ◌++◌, Some, None, Option, Bool, true, false, cond, refl, sym, ◌∙◌}
use Rattle.std.specs.Map.{lookup}

-- The test `same` is true of two keys if and only if they are equal.
pub record AreKeys {K : Type 0} (same : K → K → Bool) : Type 0 where
  pub equal : (x y : K) → same x y ≡ true → x ≡ y
  pub agree : (k : K) → same k k ≡ true

module _ {K V : Type 0} {same : K → K → Bool} (keys : AreKeys same) where
  -- A function that is changed at one key has the new value there.
  pub put_here : (f : K → V) (k : K) (v : V) → cond (same k k) v (f k) ≡ v
  put_here f k v = rw (keys.agree k) refl

  pub put_cases : (f : K → V) (k : K) (v : V) (other : K) → ((other ≡ k) × (cond (same other k) v (f other) ≡ v)) ⊎ (cond (same other k) v (f other) ≡ f other)
  put_cases f k v other = by (same other k) refl
    where
      by : (b : Bool) → same other k ≡ b → ((other ≡ k) × (cond b v (f other) ≡ v)) ⊎ (cond b v (f other) ≡ f other)
      by true e = inl (keys.equal other k e, refl)
      by false e = inr refl

  pub put_other : (f : K → V) (k : K) (v : V) (other : K) → (other ≡ k → ⊥) → cond (same other k) v (f other) ≡ f other
  put_other f k v other apart = elim (put_cases f k v other) [ inl here ↦ absurd (apart here.0) | inr is ↦ is ]

  -- If the list had no value for a key, then, after an entry is appended, the key has the value of the entry if the
  -- keys are the same, and else none.
  pub at_push : (a : List (K × V)) (k q : K) (v : V) → lookup (same q) a ≡ None → lookup (same q) (a ++ (k, v) ∷ []) ≡ cond (same q k) (Some v) None
  at_push [] k q v e = refl
  at_push (x ∷ a) k q v e = by (same q x.0) e (at_push a k q v)
    where
      by : (b : Bool) → cond b (Some x.1) (lookup (same q) a) ≡ None → (lookup (same q) a ≡ None → lookup (same q) (a ++ (k, v) ∷ []) ≡ cond (same q k) (Some v) None) → cond b (Some x.1) (lookup (same q) (a ++ (k, v) ∷ [])) ≡ cond (same q k) (Some v) None
      by true e go = absurd (let y : Some x.1 ≡ None = e in cc)
      by false e go = go e

  pub at_kept : (a : List (K × V)) (k q : K) (v u : V) → lookup (same q) a ≡ Some u → lookup (same q) (a ++ (k, v) ∷ []) ≡ Some u
  at_kept [] k q v u e = absurd (let y : None ≡ Some u = e in cc)
  at_kept (x ∷ a) k q v u e = by (same q x.0) e (at_kept a k q v u)
    where
      by : (b : Bool) → cond b (Some x.1) (lookup (same q) a) ≡ Some u → (lookup (same q) a ≡ Some u → lookup (same q) (a ++ (k, v) ∷ []) ≡ Some u) → cond b (Some x.1) (lookup (same q) (a ++ (k, v) ∷ [])) ≡ Some u
      by true e go = e
      by false e go = go e

  -- A key that is appended has the appended value, if the list had no value for the key.
  pub at_last : (a : List (K × V)) (k : K) (v : V) → lookup (same k) a ≡ None → lookup (same k) (a ++ (k, v) ∷ []) ≡ Some v
  at_last a k v fresh = at_push a k k v fresh ∙ rw (keys.agree k) refl

  -- Each value after an entry is appended is an old one or the new one.
  pub at_cases : (a : List (K × V)) (k q : K) (v u : V) → lookup (same k) a ≡ None → lookup (same q) (a ++ (k, v) ∷ []) ≡ Some u → (lookup (same q) a ≡ Some u) ⊎ ((q ≡ k) × (u ≡ v))
  at_cases a k q v u fresh e = by (lookup (same q) a) refl
    where
      last : (b : Bool) → same q k ≡ b → cond b (Some v) None ≡ Some u → (lookup (same q) a ≡ Some u) ⊎ ((q ≡ k) × (u ≡ v))
      last true s h = inr (keys.equal q k s, (let y : Some v ≡ Some u = h in cc))
      last false s h = absurd (let y : None ≡ Some u = h in cc)

      by : (o : Option V) → lookup (same q) a ≡ o → (lookup (same q) a ≡ Some u) ⊎ ((q ≡ k) × (u ≡ v))
      by None s = last (same q k) refl (sym (at_push a k q v s) ∙ e)
      by (Some h) s = inl (let there : Some h ≡ Some u = sym (at_kept a k q v h s) ∙ e in s ∙ there)

  -- A key that has no value after an entry is appended had none before.
  pub at_none : (a : List (K × V)) (k q : K) (v : V) → lookup (same q) (a ++ (k, v) ∷ []) ≡ None → (lookup (same q) a ≡ None) × (q ≡ k → ⊥)
  at_none a k q v e = by (lookup (same q) a) refl
    where
      by : (o : Option V) → lookup (same q) a ≡ o → (lookup (same q) a ≡ None) × (q ≡ k → ⊥)
      by (Some h) s = absurd (let y : Some h ≡ None = sym (at_kept a k q v h s) ∙ e in cc)
      by None s = (s, (λ is. let here : same q k ≡ true = rw is (keys.agree k) in let y : cond (same q k) (Some v) None ≡ None = sym (at_push a k q v s) ∙ e in let z : cond true (Some v) None ≡ None = rw here at y in let x : Some v ≡ None = z in cc))

  -- A property of all stored values and of the new one holds of all values after the new one is appended.
  pub each_more : (P : K → V → Type 0) (a : List (K × V)) (k : K) (v : V) → lookup (same k) a ≡ None → ((q : K) (u : V) → lookup (same q) a ≡ Some u → P q u) → P k v → (q : K) (u : V) → lookup (same q) (a ++ (k, v) ∷ []) ≡ Some u → P q u
  each_more P a k v fresh old new q u e = elim (at_cases a k q v u fresh e) [ inl was ↦ old q u was | inr is ↦ rw (is.0, is.1) new ]

-- If a function gives nothing for the keys without a value, this stays so when both gain one entry.
pub none_more : {K V W : Type 0} {same : K → K → Bool} (keys : AreKeys same) (f : K → Option W) (a : List (K × V)) (k : K) (v : V) (w : Option W) → ((q : K) → lookup (same q) a ≡ None → f q ≡ None) → (q : K) → lookup (same q) (a ++ (k, v) ∷ []) ≡ None → cond (same q k) w (f q) ≡ None
none_more keys f a k v w none q e = let h = at_none keys a k q v e in put_other keys f k w q h.1 ∙ none q h.0
