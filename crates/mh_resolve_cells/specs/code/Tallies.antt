-- The tally of a cell.
use Rattle.std.specs.Prelude.{◌≡◌, ◌<◌, ◌≤◌, ◌⊎◌, ℕ, Bool, true, false, ◌&&◌, ◌||◌, nat_lt, if◌then◌else◌, Option, Some, None, is_some, MatchBool}
use Rattle.mh_tables_core.specs.declared.parts.Action.{Action}
use Rattle.mh_tables_core.specs.declared.parts.Action.TheVariants.{Shift, Reduce, Refuse}
use Rattle.mh_resolve_cells.specs.declared.levels.Comparison.{Comparison}
use Rattle.mh_resolve_cells.specs.declared.levels.Comparison.TheVariants.{Reduces, Shifts, Neither, Unknown}
use Rattle.mh_resolve_cells.specs.declared.kinds.ConflictKind.{ConflictKind}
use Rattle.mh_resolve_cells.specs.declared.kinds.ConflictKind.TheVariants.{Solved, Unsolved, Stream}
use Rattle.mh_resolve_cells.specs.declared.cells.Cell.{Cell}
use Rattle.mh_resolve_cells.specs.declared.cells.Tally.{Tally}
use Rattle.mh_resolve_cells.specs.Cells.{IsForShift, Remains, IsChosen, IsConflict, IsUnsolved}

-- The tally of no reductions.
abbrev pub empty_tally : Tally
empty_tally = record { lowest = None; some = false; two = false; shifts = true; unknown = false }

-- The lower of a production and the lowest one so far.
abbrev pub lower_production : Option ℕ → ℕ → ℕ
lower_production None p = p
lower_production (Some q) p = if nat_lt p q then p else q

-- There is a lowest production so far, and p is another one.
abbrev pub is_another_production : Option ℕ → ℕ → Bool
is_another_production None p = false
is_another_production (Some q) p = nat_lt p q || nat_lt q p

-- The tally after one more reduction with this comparison.
abbrev pub tally_with : Tally → ℕ → Comparison → Tally
tally_with t p Reduces = record { lowest = Some (lower_production t.lowest p); some = true; two = is_another_production t.lowest p || t.two; shifts = false; unknown = t.unknown }
tally_with t p Shifts = record t { some = true }
tally_with t p Neither = record t { some = true; shifts = false }
tally_with t p Unknown = record t { some = true; unknown = true }

-- The comparison of a reduction with the shift; without a shift the reduction remains.
abbrev pub comparison_with_shift : (ℕ → Comparison) → Option ℕ → ℕ → Comparison
comparison_with_shift by None p = Reduces
comparison_with_shift by (Some j) p = by p

-- The action of a cell: the lowest remaining reduction, else the shift if it remains, else a refusal.
abbrev pub action_from : Option ℕ → Option ℕ → Bool → Action
action_from (Some p) shift shifts = Reduce p
action_from None (Some j) shifts = if shifts then Shift j else Refuse
action_from None None shifts = Refuse

-- The cell of a tally and a shift.
abbrev pub cell_from : Tally → Option ℕ → Cell
cell_from t shift = record {
  action = action_from t.lowest shift t.shifts;
  raw = t.some || is_some shift;
  kind = if t.two || t.unknown then Some Unsolved else if t.some && is_some shift then Some Solved else None;
}

-- The lowest production that wins its comparison.
abbrev pub IsLowest : (ℕ → Comparison) → (ℕ → Type 0) → Option ℕ → Type 0
IsLowest by Has None = (p : ℕ) → Has p → by p ≡ Reduces → ⊥
IsLowest by Has (Some p) = Has p × (by p ≡ Reduces) × ((q : ℕ) → Has q → by q ≡ Reduces → p ≤ q)

-- Two different productions win their comparison.
pub record TwoReduce (by : ℕ → Comparison) (Has : ℕ → Type 0) : Type 0 where
  pub one : ℕ
  pub other : ℕ
  pub has_one : Has one
  pub has_other : Has other
  pub reduces_one : by one ≡ Reduces
  pub reduces_other : by other ≡ Reduces
  pub below : one < other

-- The tally is correct for the productions that were counted.
pub record IsTally (by : ℕ → Comparison) (Has : ℕ → Type 0) (t : Tally) : Type 0 where
  pub lowest : IsLowest by Has t.lowest
  pub some : MatchBool t.some ((p : ℕ) × Has p) ((p : ℕ) → Has p → ⊥)
  pub two : MatchBool t.two (TwoReduce by Has) ((p q : ℕ) → Has p → Has q → by p ≡ Reduces → by q ≡ Reduces → p ≡ q)
  pub shifts : MatchBool t.shifts ((p : ℕ) → Has p → IsForShift (by p)) ((p : ℕ) × Has p × (IsForShift (by p) → ⊥))
  pub unknown : MatchBool t.unknown ((p : ℕ) × Has p × (by p ≡ Unknown)) ((p : ℕ) → Has p → by p ≡ Unknown → ⊥)

-- The action is the chosen one, or a refusal if no action remains.
abbrev pub IsChosenOrRefuse : (ℕ → Comparison) → (Action → Type 0) → Action → Type 0
IsChosenOrRefuse by Raw a = IsChosen by Raw a ⊎ ((a ≡ Refuse) × ((b : Action) → Remains by Raw b → ⊥))

-- The kind of the conflict of a cell, if it has one.
abbrev pub IsKind : (ℕ → Comparison) → (Action → Type 0) → Option ConflictKind → Type 0
IsKind by Raw None = IsConflict Raw → ⊥
IsKind by Raw (Some Solved) = IsConflict Raw × (IsUnsolved by Raw → ⊥)
IsKind by Raw (Some Unsolved) = IsUnsolved by Raw
IsKind by Raw (Some Stream) = ⊥

-- The cell is correct for the raw actions.
pub record IsDecided (by : ℕ → Comparison) (Raw : Action → Type 0) (cell : Cell) : Type 0 where
  pub action : IsChosenOrRefuse by Raw cell.action
  pub raw : MatchBool cell.raw ((a : Action) × Raw a) ((a : Action) → Raw a → ⊥)
  pub kind : IsKind by Raw cell.kind
