-- Lemmas on the invariant of the best-first search over rests: each step keeps the invariant, and each word is settled
-- with the least one.
use Rattle.std.proofs.Common.{◌≡◌, ℕ, zero, suc, ◌⊎◌, inl, inr, List, [], ◌∷◌, ◌++◌, length, Some}
use Rattle.mh_grammar.specs.Plain.{rhs_of}
use Rattle.mh_tables_core.specs.Table.{TableData}
use Rattle.mh_facts.specs.code.BestFirst.{WordOrderLaws, key}
use Rattle.mh_reach_rests.specs.declared.sought.Sought.{Sought}
use Rattle.mh_reach_rests.specs.declared.sought.Sought.TheVariants as soughts
use Rattle.mh_reach_rests.specs.code.RestSearch.{Settled, goto, IsSettledBefore, IsPendingBefore, Concludes, IsClosedStore, IsSoundFor, RestInvariant, RestStep}

-- A conclusion on P is a conclusion on what follows from P.
pub concludes_weaker : (t : TableData) (rep : ℕ → ℕ → ℕ) (P Q : Sought → List ℕ → Type 0) → ((k : Sought) (u : List ℕ) → P k u → Q k u) → (s p d a z : ℕ) (w : List ℕ) → Concludes t rep P s p d a z w → Concludes t rep Q s p d a z w
concludes_weaker t rep P Q on s p zero a z w h = λ e g y end move edge lt same. on _ w (h e g y end move edge lt same)
concludes_weaker t rep P Q on s p (suc d) a z w h = on (soughts.Rest (key s p (suc d) a z)) w h

-- A closed store is closed for what follows.
pub closed_weaker : (t : TableData) (rep : ℕ → ℕ → ℕ) (store : Settled) (P Q : Sought → List ℕ → Type 0) → ((k : Sought) (u : List ℕ) → P k u → Q k u) → IsClosedStore t rep store P → IsClosedStore t rep store Q
closed_weaker t rep store P Q on h = record {
  ends = λ s p z known lt move. concludes_weaker t rep P Q on s p (length (rhs_of t.grammar p)) (rep s z) (rep s z) [] (h.ends s p z known lt move);
  shifts = λ s p d x b z j v known symbol move e. concludes_weaker t rep P Q on s p d (rep s x) z (x ∷ v) (h.shifts s p d x b z j v known symbol move e);
  joins = λ s p d n a y z g u v known symbol edge e e'. concludes_weaker t rep P Q on s p d a z (u ++ v) (h.joins s p d n a y z g u v known symbol edge e e');
}

module _ (t : TableData) (rep : ℕ → ℕ → ℕ) (Le : List ℕ → List ℕ → Type 0) (laws : WordOrderLaws Le) (store : Settled) (queue : Sought → List ℕ → Type 0) (h : RestInvariant t rep Le store queue) where
  -- If the queue is empty, the store is closed under the rules.
  pub empty_closed : ((k : Sought) (u : List ℕ) → queue k u → ⊥) → IsClosedStore t rep store (IsSettledBefore Le store)
  empty_closed none = closed_weaker t rep store (IsPendingBefore Le store queue) (IsSettledBefore Le store) (λ k u p. elim p [ inl there ↦ there | inr waits ↦ absurd (none k waits.0 waits.1) ]) h.closed

  module _ (new : Settled) (later : Sought → List ℕ → Type 0) (k : Sought) (m : List ℕ) (waited : queue k m) (turn : RestStep t rep Le store new queue later k m) where
    -- A step keeps all that is pending.
    held_on : (o : Sought) (w : List ℕ) → IsPendingBefore Le store queue o w → IsPendingBefore Le new later o w
    held_on o w (inl there) = inl (there.0, turn.kept o there.0 there.1, there.2)
    held_on o w (inr waits) =
        elim (turn.still_pending o waits.0 waits.1) [
          | inl on ↦ inr (waits.0, on, waits.2)
          | inr stored ↦ inl (stored.0, stored.1, laws.transitive stored.0 waits.0 w stored.2 waits.2)
        ]

    concluded : (s p d a z : ℕ) (w : List ℕ) → Concludes t rep (IsPendingBefore Le store queue) s p d a z w → Concludes t rep (IsPendingBefore Le new later) s p d a z w
    concluded s p d a z w c = concludes_weaker t rep (IsPendingBefore Le store queue) (IsPendingBefore Le new later) held_on s p d a z w c

    settle_closed : IsClosedStore t rep new (IsPendingBefore Le new later)
    settle_closed = record {
      ends = λ s p z known lt move. concluded s p (length (rhs_of t.grammar p)) (rep s z) (rep s z) [] (h.closed.ends s p z known lt move);
      shifts = λ s p d x b z j v known symbol move e. elim (turn.only (soughts.Rest (key j p (suc d) b z)) v e) [
        | inl before ↦ concluded s p d (rep s x) z (x ∷ v) (h.closed.shifts s p d x b z j v known symbol move before)
        | inr here ↦ rw here.1 (turn.shifts s p d x b z j here.0 known symbol move)
      ];
      joins = λ s p d n a y z g u v known symbol edge e e'. elim (turn.only (soughts.Rest (key g p (suc d) y z)) v e') [
        | inl before ↦ (elim (turn.only (soughts.Goto (goto s n a y)) u e) [
          | inl was ↦ concluded s p d a z (u ++ v) (h.closed.joins s p d n a y z g u v known symbol edge was before)
          | inr here ↦ rw here.1 (turn.gotos s p d n a y z g v here.0 known symbol edge e')
        ])
        | inr here ↦ rw here.1 (turn.rests s p d n a y z g u here.0 known symbol edge e)
      ];
    }

    settle_sound : (o : Sought) (u : List ℕ) → new o ≡ Some u → IsSoundFor t rep o u
    settle_sound o u e = elim (turn.only o u e) [ inl before ↦ h.stored o u before | inr here ↦ rw (here.0, here.1) (h.queued k m waited) ]

    settle_before : (o l : Sought) (u w : List ℕ) → new o ≡ Some u → later l w → Le u w
    settle_before o l u w e waits = elim (turn.only o u e) [
      | inl before ↦ laws.transitive u m w (h.before o k u m before waited) (turn.after l w waits)
      | inr here ↦ rw here.1 (turn.after l w waits)
    ]

    -- A step that settles the first entry of the queue keeps the invariant.
    pub settles : RestInvariant t rep Le new later
    settles = record { closed = settle_closed; stored = settle_sound; queued = turn.sound; before = settle_before }

  -- A step that drops entries of the queue for which a word is settled keeps the invariant.
  pub drops : (later : Sought → List ℕ → Type 0) → ((o : Sought) (u : List ℕ) → queue o u → later o u ⊎ ((v : List ℕ) × (store o ≡ Some v))) → ((o : Sought) (u : List ℕ) → later o u → queue o u) → RestInvariant t rep Le store later
  drops later on back =
      let held : (o : Sought) (w : List ℕ) → IsPendingBefore Le store queue o w → IsPendingBefore Le store later o w = λ o w c. elim c [
        | inl there ↦ inl there
        | inr x ↦ (elim (on o x.0 x.1) [
          | inl still ↦ inr (x.0, still, x.2)
          | inr stored ↦ inl (stored.0, stored.1, laws.transitive stored.0 x.0 w (h.before o o stored.0 x.0 stored.1 x.1) x.2)
        ])
      ] in
      record {
        closed = closed_weaker t rep store (IsPendingBefore Le store queue) (IsPendingBefore Le store later) held h.closed;
        stored = h.stored;
        queued = λ o w x. h.queued o w (back o w x);
        before = λ o l u m e x. h.before o l u m e (back l m x);
      }
