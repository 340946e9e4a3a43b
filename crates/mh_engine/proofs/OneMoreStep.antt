-- Lemmas on lists of steps: one more step at the end, and one more token after the tokens to come.
use Rattle.std.proofs.Common.{◌≡◌, ℕ, zero, suc, ◌+◌, List, [], ◌∷◌, ◌++◌, Some, None, Option, Bool, true, false, refl, ap, sym, subst, ◌∙◌}
use Rattle.mh_grammar.specs.Plain.{rhs_of}
use Rattle.mh_tables_core.specs.Table.{TableData}
use Rattle.mh_tables_core.specs.Run.{Config, RunMove, Accepts, Asks, Refuses, Shifts, Reduces, run_move_of, top_of, step, step_by, goes_to, next_of, reduce, initial, after}
use Rattle.mh_tables_core.specs.RunTrees.{trees_after_move, trees_after}
use Rattle.mh_tables_core.proofs.Reductions.{no_shift_at_end}
use Rattle.mh_tables_core.proofs.RefusalStays.{move_longer}
use Rattle.mh_tables_core.proofs.RunEnds.{step_moves}
use Rattle.mh_grammar.specs.Trees.{SyntaxTree}
use Rattle.mh_engine.specs.Positions.{Pairs, Position}
use Rattle.mh_engine.specs.Phases.{next_move, phase_of, phase_by, phase_if_refused, first_of, CanOffer, CanResume}
use Rattle.mh_engine.specs.Steps.{initial_position, resumed, offered, config_of}
use Rattle.mh_engine.specs.code.ManySteps.{after_steps, CanMakeSteps}
use Rattle.mh_engine.specs.declared.phase.Phase.{Phase}
use Rattle.mh_engine.proofs.Resumed.{resumed_by, by_move, resumable_moves}

-- The position after n + 1 steps is one step from the position after n steps.
pub after_steps-suc : (n : ℕ) (c : Position) → after_steps (suc n) c ≡ resumed (after_steps n c)
after_steps-suc zero c = refl
after_steps-suc (suc n) c = after_steps-suc n (resumed c)

pub CanMakeSteps-suc : (n : ℕ) (c : Position) → CanMakeSteps n c → CanResume (phase_of (after_steps n c)) → CanMakeSteps (suc n) c
CanMakeSteps-suc zero c h g = (g, tt)
CanMakeSteps-suc (suc n) c h g = (h.0, CanMakeSteps-suc n (resumed c) h.1 g)

pub resumed_table : (c : Position) → (resumed c).table ≡ c.table
unfolding resumed
resumed_table c = refl

-- A step and an offer of one more token may be exchanged.
next_of-longer : (c : Position) (z p : ℕ) (o : Option (List ℕ)) (trees : List SyntaxTree) → (let next = next_of (config_of (offered c z)) (goes_to (config_of (offered c z)) o) in record { table = c.table; pairs = record { states = next.stack; trees = trees }; left = next.left; refused = false })
    ≡ offered (let next = next_of (config_of c) (goes_to (config_of c) o) in record { table = c.table; pairs = record { states = next.stack; trees = trees }; left = next.left; refused = false }) z
next_of-longer c z p None trees = refl
next_of-longer c z p (Some stack) trees = refl

by_longer : (t : TableData) (pairs : Pairs) (left : List ℕ) (r : Bool) (z : ℕ) (m : RunMove) → ((j : ℕ) → left ≡ [] → m ≡ Shifts j → ⊥)
    → resumed_by (offered (record { table = t; pairs = pairs; left = left; refused = r }) z) m ≡ offered (resumed_by (record { table = t; pairs = pairs; left = left; refused = r }) m) z
by_longer t pairs left r z Accepts h = refl
by_longer t pairs left r z Asks h = refl
by_longer t pairs left r z Refuses h = refl
by_longer t pairs [] r z (Shifts j) h = absurd (h j refl refl)
by_longer t pairs (y ∷ left) r z (Shifts j) h = refl
by_longer t pairs left r z (Reduces p) h = next_of-longer (record { table = t; pairs = pairs; left = left; refused = r }) z p (reduce t p pairs.states) (trees_after_move t (Reduces p) left pairs.trees)

pub move_offered : (c : Position) (z : ℕ) → (next_move c ≡ Asks → ⊥) → next_move (offered c z) ≡ next_move c
move_offered c z h = move_longer c.table (top_of c.pairs.states) c.left (z ∷ []) h

no_shift : (c : Position) (j : ℕ) → c.left ≡ [] → next_move c ≡ Shifts j → ⊥
no_shift c j e m = no_shift_at_end c.table (top_of c.pairs.states) j (subst (λ (l : List ℕ). run_move_of c.table (top_of c.pairs.states) l ≡ Shifts j) e m)

resumed_offered : (c : Position) (z : ℕ) → (next_move c ≡ Asks → ⊥) → resumed (offered c z) ≡ offered (resumed c) z
resumed_offered c z h =
    by_move (offered c z) (next_move c) (move_offered c z h) ∙ by_longer c.table c.pairs c.left c.refused z (next_move c) (no_shift c) ∙ ap (λ (p : Position). offered p z) (sym (by_move c (next_move c) refl))

phase_longer : (m : RunMove) (s : ℕ) (left : List ℕ) (z : ℕ) → ((j : ℕ) → left ≡ [] → m ≡ Shifts j → ⊥) → phase_by m s (left ++ z ∷ []) ≡ phase_by m s left
phase_longer Accepts s left z h = refl
phase_longer Asks s left z h = refl
phase_longer Refuses s left z h = refl
phase_longer (Shifts j) s [] z h = absurd (h j refl refl)
phase_longer (Shifts j) s (y ∷ left) z h = refl
phase_longer (Reduces p) s left z h = refl

where_offered : (b : Bool) (c : Position) (z : ℕ) → (next_move c ≡ Asks → ⊥) → phase_if_refused b (offered c z) ≡ phase_if_refused b c
where_offered true c z h = refl
where_offered false c z h = ap (λ (m : RunMove). phase_by m (top_of c.pairs.states) (c.left ++ z ∷ [])) (move_offered c z h) ∙ phase_longer (next_move c) (top_of c.pairs.states) c.left z (no_shift c)

pub phase_offered : (c : Position) (z : ℕ) → (next_move c ≡ Asks → ⊥) → phase_of (offered c z) ≡ phase_of c
unfolding phase_of
phase_offered c z h = where_offered c.refused c z h

pub steps_offered : (n : ℕ) (c : Position) (z : ℕ) → CanMakeSteps n c → CanMakeSteps n (offered c z) × (after_steps n (offered c z) ≡ offered (after_steps n c) z)
steps_offered zero c z h = (tt, refl)
steps_offered (suc n) c z h =
    let no = (resumable_moves c h.0).1 in
    let rest = steps_offered n (resumed c) z h.1 in
    let same = sym (resumed_offered c z no) in (
      (subst CanResume (sym (phase_offered c z no)) h.0, subst (CanMakeSteps n) same rest.0),
      ap (after_steps n) (sym same) ∙ rest.1,
    )

pub table_after : (n : ℕ) (c : Position) → (after_steps n c).table ≡ c.table
table_after zero c = refl
table_after (suc n) c = table_after n (resumed c) ∙ resumed_table c
