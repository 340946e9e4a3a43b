-- Proves that a path leads from the join of two compatible sets to a conflict only if it leads from one of the two to a
-- conflict.
use Rattle.std.proofs.Common.{◌≡◌, ◌⊎◌, ℕ, List, length, subst₂, inl, inr}
use Rattle.std.proofs.lemmas.Bool.{cases_eq}
use Rattle.mh_grammar.specs.declared.types.Symbol.{Symbol}
use Rattle.mh_grammar.specs.declared.types.Look.{Look}
use Rattle.mh_grammar.specs.declared.types.Look.TheVariants.{Token, End}
use Rattle.mh_grammar.specs.Plain.{PlainGrammar, rhs_of}
use Rattle.mh_grammar.specs.ItemSets.{ItemSet, Close}
use Rattle.mh_pager.specs.WeakCompatibility.{IsInCore, HaveSameCore, HaveCommonLook, AreCompatible, IsJoin}
use Rattle.mh_items_kernels.specs.Collection.{After}
use Rattle.mh_items_kernels.specs.Conflicts.{ShiftsOn, ReducesOn, HasConflict, shift_reduce, reduce_reduce, HasStreamConflict, shift, reduce, HasAnyConflict}
use Rattle.mh_pager.proofs.LookOrigin.{Origin, generated, inherited, from_both, after_closed}

-- Two core items are equal or different.
same_place : (p d q e : ℕ) → ((p ≡ q) × (d ≡ e)) ⊎ (p ≡ q → d ≡ e → ⊥)
same_place p d q e = elim (cases_eq p q) [
  | inl s ↦ elim (cases_eq d e) [ inl t ↦ inl (s, t) | inr n ↦ inr (λ u. n) ]
  | inr n ↦ inr (λ s t. n s)
]

-- An item of the join has its production and dot in the cores of both sets.
pub joined_core : (A B J : ItemSet) → HaveSameCore A B → IsJoin A B J → (p d : ℕ) (a : Look) → J p d a → IsInCore A p d × IsInCore B p d
joined_core A B J core join p d a h = elim ((join p d a).0 h) [
  | inl i ↦ ((a, i), (core p d).0 (a, i))
  | inr i ↦ ((core p d).1 (a, i), (a, i))
]

module _ (g : PlainGrammar) (A B J : ItemSet) (core : HaveSameCore A B) (weak : AreCompatible A B) (join : IsJoin A B J) (path : List Symbol) where
  abbrev at : ItemSet → ItemSet
  at I = After g I path

  abbrev Comes : ℕ → ℕ → Look → Type 0
  Comes q e b = Origin A B J (Close g (at A)) (Close g (at B)) q e b

  comes : (q e : ℕ) (b : Look) → Close g (at J) q e b → Comes q e b
  comes q e b i = after_closed g A B J (joined_core A B J core join) path q e b i

  both : (q e : ℕ) (b : Look) → Close g (at J) q e b → IsInCore (Close g (at A)) q e × IsInCore (Close g (at B)) q e
  both q e b i = from_both g A B J (joined_core A B J core join) (Close g (at A)) (Close g (at B)) q e b (comes q e b i)

  -- Whether a set shifts a token depends on its core alone.
  shifts : (z : ℕ) → ShiftsOn g (at J) z → ShiftsOn g (at A) z × ShiftsOn g (at B) z
  shifts z s =
      let c = both s.production s.dot s.look s.item in (
        record { production = s.production; dot = s.dot; look = c.0.0; rest = s.rest; item = c.0.1; token_next = s.token_next },
        record { production = s.production; dot = s.dot; look = c.1.0; rest = s.rest; item = c.1.1; token_next = s.token_next },
      )

  -- One of the two sets has the reduction.
  abbrev Either : ℕ → Look → Type 0
  Either p b = ReducesOn g (at A) p b ⊎ ReducesOn g (at B) p b

  either : (p : ℕ) (b : Look) → Comes p (length (rhs_of g p)) b → Either p b
  either p b (generated t u v) = inl u
  either p b (inherited r s h u v) = elim ((join r s b).0 h) [ inl i ↦ inl (u b i) | inr i ↦ inr (v b i) ]

  abbrev Clashes : Type 0
  Clashes = HasConflict g (at A) ⊎ HasConflict g (at B)

  with_shift : (z p : ℕ) → ShiftsOn g (at J) z → ReducesOn g (at J) p (Token z) → Clashes
  with_shift z p s r = elim (either p (Token z) (comes p (length (rhs_of g p)) (Token z) r)) [
    | inl i ↦ inl (shift_reduce (shifts z s).0 i)
    | inr i ↦ inr (shift_reduce (shifts z s).1 i)
  ]

  module _ (p q : ℕ) (differ : p ≡ q → ⊥) where
    abbrev end_p : ℕ
    end_p = length (rhs_of g p)

    abbrev end_q : ℕ
    end_q = length (rhs_of g q)

    -- Both looks are inherited from one item.
    one_place : (r s : ℕ) (b : Look) → J r s b
        → ((c : Look) → A r s c → ReducesOn g (at A) p c) → ((c : Look) → B r s c → ReducesOn g (at B) p c)
        → ((c : Look) → A r s c → ReducesOn g (at A) q c) → ((c : Look) → B r s c → ReducesOn g (at B) q c) → Clashes
    one_place r s b h u v x y = elim ((join r s b).0 h) [
      | inl i ↦ inl (reduce_reduce differ (u b i) (x b i))
      | inr i ↦ inr (reduce_reduce differ (v b i) (y b i))
    ]

    -- The looks are inherited from two different items.
    two_places : (r s r' s' : ℕ) (b : Look) → (r ≡ r' → s ≡ s' → ⊥) → J r s b → J r' s' b
        → ((c : Look) → A r s c → ReducesOn g (at A) p c) → ((c : Look) → B r s c → ReducesOn g (at B) p c)
        → ((c : Look) → A r' s' c → ReducesOn g (at A) q c) → ((c : Look) → B r' s' c → ReducesOn g (at B) q c) → Clashes
    two_places r s r' s' b apart h k u v x y = elim ((join r s b).0 h) [
      | inl i ↦ elim ((join r' s' b).0 k) [
        | inl j ↦ inl (reduce_reduce differ (u b i) (x b j))
        | inr j ↦ elim (weak r s r' s' apart) [
          | inl none ↦ absurd (none.0 (b, i, j))
          | inr m ↦ common m
        ]
      ]
      | inr i ↦ elim ((join r' s' b).0 k) [
        | inl j ↦ elim (weak r s r' s' apart) [
          | inl none ↦ absurd (none.1 (b, j, i))
          | inr m ↦ common m
        ]
        | inr j ↦ inr (reduce_reduce differ (v b i) (y b j))
      ]
    ]
      where
        common : HaveCommonLook A r s A r' s' ⊎ HaveCommonLook B r s B r' s' → Clashes
        common (inl m) = inl (reduce_reduce differ (u m.0 m.1) (x m.0 m.2))
        common (inr m) = inr (reduce_reduce differ (v m.0 m.1) (y m.0 m.2))

    two : (b : Look) → Comes p end_p b → Comes q end_q b → Clashes
    two b (generated t u v) (generated t' x y) = inl (reduce_reduce differ u x)
    two b (generated t u v) (inherited r' s' k x y) = elim ((join r' s' b).0 k) [
      | inl j ↦ inl (reduce_reduce differ u (x b j))
      | inr j ↦ inr (reduce_reduce differ v (y b j))
    ]
    two b (inherited r s h u v) (generated t' x y) = elim ((join r s b).0 h) [
      | inl i ↦ inl (reduce_reduce differ (u b i) x)
      | inr i ↦ inr (reduce_reduce differ (v b i) y)
    ]
    two b (inherited r s h u v) (inherited r' s' k x y) = elim (same_place r s r' s') [
      | inl e ↦ one_place r' s' b k
          (subst₂ (λ m n. (c : Look) → A m n c → ReducesOn g (at A) p c) e.0 e.1 u)
          (subst₂ (λ m n. (c : Look) → B m n c → ReducesOn g (at B) p c) e.0 e.1 v) x y
      | inr apart ↦ two_places r s r' s' b apart h k u v x y
    ]

    -- The conflict is found in the set from which the reduction on the end of the stream comes: the other reduction has
    -- a look there.
    abbrev Faults : Type 0
    Faults = HasAnyConflict g (at A) ⊎ HasAnyConflict g (at B)

    beside : (I : ItemSet) → ReducesOn g (at I) p End → (c : Look) → ReducesOn g (at I) q c → HasAnyConflict g (at I)
    beside I r (Token z) s = inr (reduce differ r s)
    beside I r End s = inl (reduce_reduce differ r s)

    two_ends : (z : ℕ) → Comes p end_p End → Comes q end_q (Token z) → Faults
    two_ends z (generated t u v) o = absurd t
    two_ends z (inherited r s h u v) o =
        let has = from_both g A B J (joined_core A B J core join) (Close g (at A)) (Close g (at B)) q end_q (Token z) o in
        elim ((join r s End).0 h) [
          | inl i ↦ inl (beside A (u End i) has.0.0 has.0.1)
          | inr i ↦ inr (beside B (v End i) has.1.0 has.1.1)
        ]

  -- If a path leads from the join to a conflict, it leads from one of the two sets to a conflict.
  pub conflict_of_join : HasConflict g (at J) → HasConflict g (at A) ⊎ HasConflict g (at B)
  conflict_of_join (shift_reduce {z} {p} s r) = with_shift z p s r
  conflict_of_join (reduce_reduce {p} {q} {look} differ r s) = two p q differ look (comes p (length (rhs_of g p)) look r) (comes q (length (rhs_of g q)) look s)

  end_shift : (z p : ℕ) → ReducesOn g (at J) p End → ShiftsOn g (at J) z → HasAnyConflict g (at A) ⊎ HasAnyConflict g (at B)
  end_shift z p r s = elim (either p End (comes p (length (rhs_of g p)) End r)) [
    | inl i ↦ inl (inr (shift i (shifts z s).0))
    | inr i ↦ inr (inr (shift i (shifts z s).1))
  ]

  end_joined : HasStreamConflict g (at J) → HasAnyConflict g (at A) ⊎ HasAnyConflict g (at B)
  end_joined (shift {z} {p} r s) = end_shift z p r s
  end_joined (reduce {z} {p} {q} differ r s) = two_ends p q differ z (comes p (length (rhs_of g p)) End r) (comes q (length (rhs_of g q)) (Token z) s)

  -- If a path leads from the join to either kind of conflict, it leads from one of the two sets to one.
  pub any_conflict_of_join : HasAnyConflict g (at J) → HasAnyConflict g (at A) ⊎ HasAnyConflict g (at B)
  any_conflict_of_join (inl c) = elim (conflict_of_join c) [ inl x ↦ inl (inl x) | inr x ↦ inr (inl x) ]
  any_conflict_of_join (inr c) = end_joined c
