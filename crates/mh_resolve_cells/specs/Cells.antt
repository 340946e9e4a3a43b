-- One cell of a state: its raw actions, those that remain after precedence, and the action that is chosen. The rules of
-- precedence are those of the Menhir manual; the order that they leave open is this project's own.
use Rattle.std.specs.Prelude.{◌≡◌, ◌<◌, ◌≤◌, ◌⊎◌, ℕ}
use Rattle.mh_tables_core.specs.declared.parts.Action.{Action}
use Rattle.mh_tables_core.specs.declared.parts.Action.TheVariants.{Shift, Reduce, Refuse}
use Rattle.mh_resolve_cells.specs.declared.levels.Comparison.{Comparison}
use Rattle.mh_resolve_cells.specs.declared.levels.Comparison.TheVariants.{Reduces, Shifts, Unknown}

-- The comparison lets the shift remain.
abbrev pub IsForShift : Comparison → Type 0
IsForShift c = (c ≡ Shifts) ⊎ (c ≡ Unknown)

-- A raw action remains. A shift remains if the comparison of each reduction lets it; a reduction remains if it wins its
-- comparison with each shift, so always if there is no shift (Menhir manual).
abbrev pub Remains : (ℕ → Comparison) → (Action → Type 0) → Action → Type 0
Remains by Raw (Shift j) = Raw (Shift j) × ((p : ℕ) → Raw (Reduce p) → IsForShift (by p))
Remains by Raw (Reduce p) = Raw (Reduce p) × ((j : ℕ) → Raw (Shift j) → by p ≡ Reduces)
Remains by Raw Refuse = ⊥

-- The action is chosen: the shift if it remains, else the remaining reduction with the lowest production (this
-- project's own).
abbrev pub IsChosen : (ℕ → Comparison) → (Action → Type 0) → Action → Type 0
IsChosen by Raw (Shift j) = Remains by Raw (Shift j)
IsChosen by Raw (Reduce p) = Remains by Raw (Reduce p) × ((q : ℕ) → Remains by Raw (Reduce q) → p ≤ q)
IsChosen by Raw Refuse = ⊥

-- The cell is a hole: it has raw actions, and none remains.
pub record IsHole (by : ℕ → Comparison) (Raw : Action → Type 0) : Type 0 where
  pub action : Action
  pub raw : Raw action
  pub none_remains : (a : Action) → Remains by Raw a → ⊥

-- The cell has two raw actions (Knuth 1965).
pub record IsConflict (Raw : Action → Type 0) : Type 0 where
  pub one : Action
  pub other : Action
  pub raw_one : Raw one
  pub raw_other : Raw other
  pub differ : one ≡ other → ⊥

-- Some comparison of a reduction with a shift has no comparable levels.
pub record HasUnknownComparison (by : ℕ → Comparison) (Raw : Action → Type 0) : Type 0 where
  pub target : ℕ
  pub production : ℕ
  pub shift : Raw (Shift target)
  pub reduce : Raw (Reduce production)
  pub unknown : by production ≡ Unknown

-- Two reductions remain.
pub record HasTwoReductions (by : ℕ → Comparison) (Raw : Action → Type 0) : Type 0 where
  pub one : ℕ
  pub other : ℕ
  pub one_remains : Remains by Raw (Reduce one)
  pub other_remains : Remains by Raw (Reduce other)
  pub below : one < other

-- Levels did not decide the conflict: some comparison has no comparable levels, or two reductions remain (Menhir
-- manual).
abbrev pub IsUnsolved : (ℕ → Comparison) → (Action → Type 0) → Type 0
IsUnsolved by Raw = HasUnknownComparison by Raw ⊎ HasTwoReductions by Raw
