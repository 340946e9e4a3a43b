-- Lemmas on the tally of the reductions that were counted.
use Rattle.std.proofs.Common.{◌≡◌, ℕ, ◌⊎◌, Option, Some, None, Bool, true, false, ◌||◌, lt-ltb, le-ltb, ap, sym, ◌∙◌, arith, inl, inr}
use Rattle.std.specs.Prelude.{MatchBool}
use Rattle.std.proofs.lemmas.Bool.{cases_lt}
use Rattle.mh_resolve_cells.specs.declared.levels.Comparison.{Comparison}
use Rattle.mh_resolve_cells.specs.declared.levels.Comparison.TheVariants.{Reduces, Shifts, Neither, Unknown}
use Rattle.mh_resolve_cells.specs.declared.cells.Tally.{Tally}
use Rattle.mh_resolve_cells.specs.Cells.{IsForShift}
use Rattle.mh_resolve_cells.specs.code.Tallies.{lower_production, empty_tally, is_another_production, tally_with, IsLowest, TwoReduce, IsTally}

pub empty_is : (by : ℕ → Comparison) (Has : ℕ → Type 0) → ((p : ℕ) → Has p → ⊥) → IsTally by Has empty_tally
empty_is by Has none = record {
  lowest = λ p h r. none p h;
  some = none;
  two = λ p q h k r s. absurd (none p h);
  shifts = λ p h. absurd (none p h);
  unknown = λ p h r. none p h;
}

-- The productions are those before and one more.
pub record IsMore (Has Has' : ℕ → Type 0) (p : ℕ) : Type 0 where
  pub new : (q : ℕ) → Has' q → Has q ⊎ (q ≡ p)
  pub old : (q : ℕ) → Has q → Has' q
  pub added : Has' p

lowest_more : (by : ℕ → Comparison) (Has Has' : ℕ → Type 0) (p : ℕ) → IsMore Has Has' p → by p ≡ Reduces → (lo : Option ℕ) → IsLowest by Has lo → IsLowest by Has' (Some (lower_production lo p))
lowest_more by Has Has' p m e None l = (m.added, e, λ q h r. elim (m.new q h) [ inl k ↦ absurd (l q k r) | inr s ↦ omega arith ])
lowest_more by Has Has' p m e (Some o) l =
    elim (cases_lt p o) [
      | inl lt ↦ rw (lt-ltb p o lt) (m.added, e, λ q h r. elim (m.new q h) [ inl k ↦ (let le = l.2 q k r in omega arith) | inr s ↦ omega arith ])
      | inr ge ↦ rw (le-ltb p o ge) (m.old o l.0, l.1, λ q h r. elim (m.new q h) [ inl k ↦ l.2 q k r | inr s ↦ omega arith ])
    ]

lowest_kept : (by : ℕ → Comparison) (Has Has' : ℕ → Type 0) (p : ℕ) → IsMore Has Has' p → (by p ≡ Reduces → ⊥) → (lo : Option ℕ) → IsLowest by Has lo → IsLowest by Has' lo
lowest_kept by Has Has' p m e None l = λ q h r. elim (m.new q h) [ inl k ↦ l q k r | inr s ↦ e (ap by (sym s) ∙ r) ]
lowest_kept by Has Has' p m e (Some o) l = (m.old o l.0, l.1, λ q h r. elim (m.new q h) [ inl k ↦ l.2 q k r | inr s ↦ absurd (e (ap by (sym s) ∙ r)) ])

abbrev IsTwo : (ℕ → Comparison) → (ℕ → Type 0) → Bool → Type 0
IsTwo by Has two = MatchBool two (TwoReduce by Has) ((p q : ℕ) → Has p → Has q → by p ≡ Reduces → by q ≡ Reduces → p ≡ q)

two_old : (by : ℕ → Comparison) (Has Has' : ℕ → Type 0) → ((q : ℕ) → Has q → Has' q) → TwoReduce by Has → TwoReduce by Has'
two_old by Has Has' old t = record { one = t.one; other = t.other; has_one = old t.one t.has_one; has_other = old t.other t.has_other; reduces_one = t.reduces_one; reduces_other = t.reduces_other; below = t.below }

two_kept : (by : ℕ → Comparison) (Has Has' : ℕ → Type 0) (p : ℕ) → IsMore Has Has' p → (by p ≡ Reduces → ⊥) → (two : Bool) → IsTwo by Has two → IsTwo by Has' two
two_kept by Has Has' p m e true t = two_old by Has Has' m.old t
two_kept by Has Has' p m e false t = λ a b h k r s.
    elim (m.new a h) [
      | inl x ↦ elim (m.new b k) [ inl y ↦ t a b x y r s | inr y ↦ absurd (e (ap by (sym y) ∙ s)) ]
      | inr x ↦ absurd (e (ap by (sym x) ∙ r))
    ]

-- If no production but p won before, the new production p does not change whether two productions win.
two_same : (by : ℕ → Comparison) (Has Has' : ℕ → Type 0) (p : ℕ) → IsMore Has Has' p → ((q : ℕ) → Has q → by q ≡ Reduces → q ≡ p) → (two : Bool) → IsTwo by Has two → IsTwo by Has' two
two_same by Has Has' p m e true t = two_old by Has Has' m.old t
two_same by Has Has' p m e false t = λ a b h k r s.
    let x : a ≡ p = elim (m.new a h) [ inl x ↦ e a x r | inr x ↦ x ] in
    let y : b ≡ p = elim (m.new b k) [ inl y ↦ e b y s | inr y ↦ y ] in
    x ∙ sym y

two_more : (by : ℕ → Comparison) (Has Has' : ℕ → Type 0) (p : ℕ) → IsMore Has Has' p → by p ≡ Reduces → (lo : Option ℕ) → IsLowest by Has lo → (two : Bool) → IsTwo by Has two → IsTwo by Has' (is_another_production lo p || two)
two_more by Has Has' p m e None l two t = two_same by Has Has' p m (λ q h r. absurd (l q h r)) two t
two_more by Has Has' p m e (Some o) l two t =
    elim (cases_lt p o) [
      | inl lt ↦ rw (lt-ltb p o lt) (record { one = p; other = o; has_one = m.added; has_other = m.old o l.0; reduces_one = e; reduces_other = l.1; below = lt })
      | inr ge ↦ rw (le-ltb p o ge) (
          elim (cases_lt o p) [
            | inl lt ↦ rw (lt-ltb o p lt) (record { one = o; other = p; has_one = m.old o l.0; has_other = m.added; reduces_one = l.1; reduces_other = e; below = lt })
            | inr le ↦ rw (le-ltb o p le) (go two t (omega arith))
          ])
    ]
  where
    go : (two : Bool) → IsTwo by Has two → o ≡ p → IsTwo by Has' two
    go true t s = two_old by Has Has' m.old t
    go false t s = λ a b h k r q.
        let x : a ≡ p = elim (m.new a h) [ inl x ↦ t a o x l.0 r l.1 ∙ s | inr x ↦ x ] in
        let y : b ≡ p = elim (m.new b k) [ inl y ↦ t b o y l.0 q l.1 ∙ s | inr y ↦ y ] in
        x ∙ sym y

abbrev IsShifts : (ℕ → Comparison) → (ℕ → Type 0) → Bool → Type 0
IsShifts by Has b = MatchBool b ((p : ℕ) → Has p → IsForShift (by p)) ((p : ℕ) × Has p × (IsForShift (by p) → ⊥))

shifts_kept : (by : ℕ → Comparison) (Has Has' : ℕ → Type 0) (p : ℕ) → IsMore Has Has' p → IsForShift (by p) → (b : Bool) → IsShifts by Has b → IsShifts by Has' b
shifts_kept by Has Has' p m e true s = λ q h. elim (m.new q h) [ inl k ↦ s q k | inr x ↦ (let y : by q ≡ by p = ap by x in rw y e) ]
shifts_kept by Has Has' p m e false s = (s.0, m.old s.0 s.1, s.2)

abbrev IsUnknownIn : (ℕ → Comparison) → (ℕ → Type 0) → Bool → Type 0
IsUnknownIn by Has b = MatchBool b ((p : ℕ) × Has p × (by p ≡ Unknown)) ((p : ℕ) → Has p → by p ≡ Unknown → ⊥)

unknown_kept : (by : ℕ → Comparison) (Has Has' : ℕ → Type 0) (p : ℕ) → IsMore Has Has' p → (by p ≡ Unknown → ⊥) → (b : Bool) → IsUnknownIn by Has b → IsUnknownIn by Has' b
unknown_kept by Has Has' p m e true s = (s.0, m.old s.0 s.1, s.2)
unknown_kept by Has Has' p m e false s = λ q h r. elim (m.new q h) [ inl k ↦ s q k r | inr x ↦ e (ap by (sym x) ∙ r) ]

not_for : (c d : Comparison) → c ≡ d → (d ≡ Shifts → ⊥) → (d ≡ Unknown → ⊥) → IsForShift c → ⊥
not_for c d e x y (inl s) = x (sym e ∙ s)
not_for c d e x y (inr s) = y (sym e ∙ s)

pub more_is : (by : ℕ → Comparison) (Has Has' : ℕ → Type 0) (p : ℕ) (c : Comparison) (t : Tally) → IsMore Has Has' p → by p ≡ c → IsTally by Has t → IsTally by Has' (tally_with t p c)
more_is by Has Has' p Reduces t m e i = record {
  lowest = lowest_more by Has Has' p m e t.lowest i.lowest;
  some = (p, m.added);
  two = two_more by Has Has' p m e t.lowest i.lowest t.two i.two;
  shifts = (p, m.added, not_for (by p) Reduces e (λ x. cc) (λ x. cc));
  unknown = unknown_kept by Has Has' p m (λ u. let no : Reduces ≡ Unknown = sym e ∙ u in cc) t.unknown i.unknown;
}
more_is by Has Has' p Shifts t m e i = record {
  lowest = lowest_kept by Has Has' p m (λ u. let no : Shifts ≡ Reduces = sym e ∙ u in cc) t.lowest i.lowest;
  some = (p, m.added);
  two = two_kept by Has Has' p m (λ u. let no : Shifts ≡ Reduces = sym e ∙ u in cc) t.two i.two;
  shifts = shifts_kept by Has Has' p m (inl e) t.shifts i.shifts;
  unknown = unknown_kept by Has Has' p m (λ u. let no : Shifts ≡ Unknown = sym e ∙ u in cc) t.unknown i.unknown;
}
more_is by Has Has' p Neither t m e i = record {
  lowest = lowest_kept by Has Has' p m (λ u. let no : Neither ≡ Reduces = sym e ∙ u in cc) t.lowest i.lowest;
  some = (p, m.added);
  two = two_kept by Has Has' p m (λ u. let no : Neither ≡ Reduces = sym e ∙ u in cc) t.two i.two;
  shifts = (p, m.added, not_for (by p) Neither e (λ x. cc) (λ x. cc));
  unknown = unknown_kept by Has Has' p m (λ u. let no : Neither ≡ Unknown = sym e ∙ u in cc) t.unknown i.unknown;
}
more_is by Has Has' p Unknown t m e i = record {
  lowest = lowest_kept by Has Has' p m (λ u. let no : Unknown ≡ Reduces = sym e ∙ u in cc) t.lowest i.lowest;
  some = (p, m.added);
  two = two_kept by Has Has' p m (λ u. let no : Unknown ≡ Reduces = sym e ∙ u in cc) t.two i.two;
  shifts = shifts_kept by Has Has' p m (inr e) t.shifts i.shifts;
  unknown = (p, m.added, e);
}

-- A tally is correct for every set with the same productions.
pub same_is : (by : ℕ → Comparison) (Has Has' : ℕ → Type 0) (t : Tally) → ((q : ℕ) → Has' q → Has q) → ((q : ℕ) → Has q → Has' q) → IsTally by Has t → IsTally by Has' t
same_is by Has Has' t new old i = record {
  lowest = low t.lowest i.lowest;
  some = some t.some i.some;
  two = two t.two i.two;
  shifts = shifts t.shifts i.shifts;
  unknown = unknown t.unknown i.unknown;
}
  where
    low : (lo : Option ℕ) → IsLowest by Has lo → IsLowest by Has' lo
    low None l = λ q h r. l q (new q h) r
    low (Some o) l = (old o l.0, l.1, λ q h r. l.2 q (new q h) r)

    some : (b : Bool) → MatchBool b ((p : ℕ) × Has p) ((p : ℕ) → Has p → ⊥) → MatchBool b ((p : ℕ) × Has' p) ((p : ℕ) → Has' p → ⊥)
    some true s = (s.0, old s.0 s.1)
    some false s = λ q h. s q (new q h)

    two : (b : Bool) → IsTwo by Has b → IsTwo by Has' b
    two true t = two_old by Has Has' old t
    two false t = λ p q h k r s. t p q (new p h) (new q k) r s

    shifts : (b : Bool) → IsShifts by Has b → IsShifts by Has' b
    shifts true s = λ q h. s q (new q h)
    shifts false s = (s.0, old s.0 s.1, s.2)

    unknown : (b : Bool) → IsUnknownIn by Has b → IsUnknownIn by Has' b
    unknown true s = (s.0, old s.0 s.1, s.2)
    unknown false s = λ q h r. s q (new q h) r
