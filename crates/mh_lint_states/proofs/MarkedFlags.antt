-- Lemmas on flags that are set: none, one, those of two calls in sequence, and those of an equal set of numbers.
use Rattle.std.proofs.Common.{◌≡◌, ℕ, ◌<◌, ◌⊎◌, Bool, true, false, List, length, get_or, set, refl, ◌∙◌, inl, inr}
use Rattle.std.proofs.lemmas.List.{length-set, get_or-set_same}
use Rattle.mh_grammar.proofs.FlagTable.{kept-set, set-cases}
use Rattle.mh_lint_states.specs.code.Marks.{AreMarked, AreUnset, Marks}

-- No flag is set.
pub marks_none : (Is : ℕ → Type 0) (flags : List Bool) → ((i : ℕ) → Is i → ⊥) → Marks Is flags flags
marks_none Is flags none = record { len = refl; each = λ i. (λ e. inl e, λ h. elim h [ inl e ↦ e | inr is ↦ absurd (none i is) ]) }

-- One flag is set.
pub marks_one : (Is : ℕ → Type 0) (flags : List Bool) (n : ℕ) → n < length flags → Is n → ((i : ℕ) → Is i → i ≡ n) → Marks Is flags (set flags n true)
marks_one Is flags n l is only = record { len = length-set flags n true; each = λ i. (to i, from i) }
  where
    to : (i : ℕ) → get_or (set flags n true) i false ≡ true → (get_or flags i false ≡ true) ⊎ Is i
    to i e = elim (set-cases flags n i e) [ inl old ↦ inl old | inr same ↦ inr (rw same is) ]

    from : (i : ℕ) → (get_or flags i false ≡ true) ⊎ Is i → get_or (set flags n true) i false ≡ true
    from i (inl old) = kept-set flags n i l old
    from i (inr here) = let same = only i here in rw same (get_or-set_same flags n true false l)

-- The flags of two calls in sequence.
pub marks_then : (P Q : ℕ → Type 0) (a b c : List Bool) → Marks P a b → Marks Q b c → Marks (λ i. P i ⊎ Q i) a c
marks_then P Q a b c p q = record { len = q.len ∙ p.len; each = λ i. (to i, from i) }
  where
    to : (i : ℕ) → get_or c i false ≡ true → (get_or a i false ≡ true) ⊎ (P i ⊎ Q i)
    to i e = elim ((q.each i).0 e) [
      | inl mid ↦ elim ((p.each i).0 mid) [ inl old ↦ inl old | inr is ↦ inr (inl is) ]
      | inr is ↦ inr (inr is)
    ]

    from : (i : ℕ) → (get_or a i false ≡ true) ⊎ (P i ⊎ Q i) → get_or c i false ≡ true
    from i (inl old) = (q.each i).1 (inl ((p.each i).1 (inl old)))
    from i (inr (inl is)) = (q.each i).1 (inl ((p.each i).1 (inr is)))
    from i (inr (inr is)) = (q.each i).1 (inr is)

-- The flags of an equal set of numbers.
pub marks_same : (P Q : ℕ → Type 0) (a b : List Bool) → ((i : ℕ) → P i → Q i) → ((i : ℕ) → Q i → P i) → Marks P a b → Marks Q a b
marks_same P Q a b pq qp p = record { len = p.len; each = λ i. (to i, from i) }
  where
    to : (i : ℕ) → get_or b i false ≡ true → (get_or a i false ≡ true) ⊎ Q i
    to i e = elim ((p.each i).0 e) [ inl old ↦ inl old | inr is ↦ inr (pq i is) ]

    from : (i : ℕ) → (get_or a i false ≡ true) ⊎ Q i → get_or b i false ≡ true
    from i (inl old) = (p.each i).1 (inl old)
    from i (inr is) = (p.each i).1 (inr (qp i is))

-- Flags of which none is set, and then some.
pub marked_from : (P : ℕ → Type 0) (a b : List Bool) → AreUnset a → Marks P a b → AreMarked P b
marked_from P a b unset p = λ i. (to i, from i)
  where
    to : (i : ℕ) → get_or b i false ≡ true → P i
    to i e = elim ((p.each i).0 e) [ inl old ↦ (let no = unset i in absurd cc) | inr is ↦ is ]

    from : (i : ℕ) → P i → get_or b i false ≡ true
    from i is = (p.each i).1 (inr is)

-- More flags are set.
pub marked_more : (P Q R : ℕ → Type 0) (a b : List Bool) → ((i : ℕ) → R i → P i ⊎ Q i) → ((i : ℕ) → P i → R i) → ((i : ℕ) → Q i → R i) → AreMarked P a → Marks Q a b → AreMarked R b
marked_more P Q R a b split pr qr p q = λ i. (to i, from i)
  where
    to : (i : ℕ) → get_or b i false ≡ true → R i
    to i e = elim ((q.each i).0 e) [ inl old ↦ pr i ((p i).0 old) | inr is ↦ qr i is ]

    from : (i : ℕ) → R i → get_or b i false ≡ true
    from i is = elim (split i is) [ inl old ↦ (q.each i).1 (inl ((p i).1 old)) | inr new ↦ (q.each i).1 (inr new) ]
