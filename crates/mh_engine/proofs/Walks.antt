-- Lemmas on steps that are shifts and reductions, and on branches that are fed along these steps.
use Rattle.std.proofs.Common.{◌≡◌, ◌⊎◌, ℕ, zero, suc, ◌≤◌, Bool, true, false, List, refl, sym, ap, ◌∙◌, arith, inl, inr}
use Rattle.mh_tables_core.specs.Table.{TableData}
use Rattle.mh_tables_core.specs.TooDeep.{too_deep}
use Rattle.mh_engine.specs.Branches.{Branch, HasPosition, position_of, with_step}
use Rattle.mh_engine.specs.Feeding.{Feeding, feeding_of, moved_in, phase_in, after_moves}
use Rattle.mh_engine.specs.Phases.{phase_of, phase_if_refused, CanResume}
use Rattle.mh_engine.specs.Positions.{Position}
use Rattle.mh_engine.specs.Steps.{resumed, refused_position}
use Rattle.mh_engine.specs.code.ManySteps.{after_steps, CanMakeSteps}
use Rattle.mh_engine.specs.declared.phase.Phase.{Phase}
use Rattle.mh_engine.specs.declared.phase.Phase.TheVariants as phases
use Rattle.mh_engine.proofs.BranchPosition.{HasPosition-step}
use Rattle.mh_engine.proofs.OneMoreStep.{resumed_table, table_after}
use Rattle.mh_engine.proofs.Resumed.{resumed_refused}
use Rattle.mh_engine.proofs.SentenceTokens.{error_phase_refuses}

-- In this phase the next step is a shift or a reduction.
abbrev pub MovesOn : Phase → Type 0
MovesOn (phases.InputNeeded s) = ⊥
MovesOn (phases.Shifting s z) = Unit {0}
MovesOn (phases.AboutToReduce s p) = Unit {0}
MovesOn (phases.HandlingError s) = ⊥
MovesOn phases.Accepted = ⊥
MovesOn phases.Rejected = ⊥

-- The next n steps are shifts and reductions.
abbrev pub Walks : ℕ → Position → Type 0
Walks zero c = Unit {0}
Walks (suc n) c = MovesOn (phase_of c) × Walks n (resumed c)

pub can_move : (p : Phase) → MovesOn p → CanResume p
can_move (phases.InputNeeded s) h = h
can_move (phases.Shifting s z) h = tt
can_move (phases.AboutToReduce s p) h = tt
can_move (phases.HandlingError s) h = absurd h
can_move phases.Accepted h = h
can_move phases.Rejected h = h

-- A step that can be made is a shift, a reduction or a refusal.
resumable : (p : Phase) → CanResume p → MovesOn p ⊎ ((s : ℕ) × (p ≡ phases.HandlingError s))
resumable (phases.InputNeeded s) h = absurd h
resumable (phases.Shifting s z) h = inl tt
resumable (phases.AboutToReduce s p) h = inl tt
resumable (phases.HandlingError s) h = inr (s, refl)
resumable phases.Accepted h = absurd h
resumable phases.Rejected h = absurd h

-- No step follows a refusal.
no_resume : (b : Bool) (c : Position) → b ≡ true → CanResume (phase_if_refused b c) → ⊥
no_resume true c e h = h
no_resume false c e h = cc

refused_stays : (c : Position) → c.refused ≡ true → CanResume (phase_of c) → ⊥
unfolding phase_of
refused_stays c e h = no_resume c.refused c e h

refusal : (c : Position) (s : ℕ) → phase_of c ≡ phases.HandlingError s → resumed c ≡ refused_position c
refusal c s e = resumed_refused c (error_phase_refuses c s e).0

refused_next : (c : Position) (s : ℕ) → phase_of c ≡ phases.HandlingError s → (resumed c).refused ≡ true
refused_next c s e = ap (λ (p : Position). p.refused) (refusal c s e)

refused_end : (n : ℕ) (c : Position) → CanMakeSteps n c → (after_steps n c).refused ≡ false → c.refused ≡ true → ⊥
refused_end zero c h r e = let both = sym e ∙ r in cc
refused_end (suc n) c h r e = refused_stays c e h.0

-- Steps to a position that is not refused are shifts and reductions.
pub walks_to : (n : ℕ) (c : Position) → CanMakeSteps n c → (after_steps n c).refused ≡ false → Walks n c
walks_to zero c h r = tt
walks_to (suc n) c h r = elim (resumable (phase_of c) h.0) [
  | inl moves ↦ (moves, walks_to n (resumed c) h.1 r)
  | inr error ↦ absurd (refused_end n (resumed c) h.1 r (refused_next c error.0 error.1))
]

deep_refused : (n : ℕ) (c : Position) (s : ℕ) → phase_of c ≡ phases.HandlingError s → CanMakeSteps n (resumed c) → too_deep (after_steps n (resumed c)).pairs.trees ≡ true → too_deep c.pairs.trees ≡ true
deep_refused zero c s e h d = ap (λ (p : Position). too_deep p.pairs.trees) (sym (refusal c s e)) ∙ d
deep_refused (suc n) c s e h d = absurd (refused_stays (resumed c) (refused_next c s e) h.0)

-- A position that is too deep is reached by shifts and reductions, since a refusal keeps the stack.
pub walks_to_deep : (n : ℕ) (c : Position) → CanMakeSteps n c → too_deep (after_steps n c).pairs.trees ≡ true → (m : ℕ) × Walks m c × (too_deep (after_steps m c).pairs.trees ≡ true)
walks_to_deep zero c h d = (0, tt, d)
walks_to_deep (suc n) c h d = elim (resumable (phase_of c) h.0) [
  | inl moves ↦ (let rest = walks_to_deep n (resumed c) h.1 d in (suc rest.0, (moves, rest.1), rest.2))
  | inr error ↦ (0, tt, deep_refused n c error.0 error.1 h.1 d)
]

walks_front : (m n : ℕ) (c : Position) → m ≤ n → Walks n c → Walks m c
walks_front zero n c le h = tt
walks_front (suc m) zero c le h = absurd (omega arith)
walks_front (suc m) (suc n) c le h = (h.0, walks_front m n (resumed c) (omega arith) h.1)

-- The position that is computed for a branch is the position that the branch has.
pub branch_position : (t : TableData) (b : Branch) (c : Position) → c.table ≡ t → HasPosition b c → position_of t b ≡ c
branch_position t b c e h = ap (λ (u : TableData). position_of u b) (sym e) ∙ sym h.position

pub move_step : (p : Phase) (b : Branch) (waiting : List ℕ) → MovesOn p → moved_in p (feeding_of b waiting) ≡ feeding_of (with_step b) waiting
move_step (phases.InputNeeded s) b waiting h = absurd h
move_step (phases.Shifting s z) b waiting h = refl
move_step (phases.AboutToReduce s p) b waiting h = refl
move_step (phases.HandlingError s) b waiting h = absurd h
move_step phases.Accepted b waiting h = absurd h
move_step phases.Rejected b waiting h = absurd h

-- A branch that is fed makes the shifts and reductions of its position.
module _ (t : TableData) (waiting : List ℕ) where
  pub walk_moves : (n : ℕ) (b : Branch) (c : Position) → c.table ≡ t → HasPosition b c → Walks n c → (next : Branch) × (after_moves t n (feeding_of b waiting) ≡ feeding_of next waiting) × HasPosition next (after_steps n c) × (next.offered ≡ b.offered)
  walk_moves zero b c e h w = (b, refl, h, refl)
  walk_moves (suc n) b c e h w =
      let moves : moved_in (phase_in t (feeding_of b waiting)) (feeding_of b waiting) ≡ feeding_of (with_step b) waiting =
      ap (λ (p : Position). moved_in (phase_of p) (feeding_of b waiting)) (branch_position t b c e h) ∙ move_step (phase_of c) b waiting w.0 in
      let rest = walk_moves n (with_step b) (resumed c) (resumed_table c ∙ e) (HasPosition-step b c h (can_move (phase_of c) w.0)) w.1 in
      (rest.0, ap (after_moves t n) moves ∙ rest.1, rest.2, rest.3)

  -- The branch after m of these steps has the position after m steps.
  pub walk_position : (n m : ℕ) (b : Branch) (c : Position) → c.table ≡ t → HasPosition b c → Walks n c → m ≤ n → position_of t (after_moves t m (feeding_of b waiting)).branch ≡ after_steps m c
  walk_position n m b c e h w le =
      let there = walk_moves m b c e h (walks_front m n c le w) in
      ap (λ (f : Feeding). position_of t f.branch) there.1 ∙ branch_position t there.0 (after_steps m c) (table_after m c ∙ e) there.2
