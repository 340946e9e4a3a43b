-- Proves that a cell that is decided by a set of raw actions is also decided by each set with the same actions.
use Rattle.std.proofs.Common.{ℕ, Option, Some, None, Bool, true, false, inl, inr}
use Rattle.std.specs.Prelude.{MatchBool}
use Rattle.mh_tables_core.specs.declared.parts.Action.{Action}
use Rattle.mh_tables_core.specs.declared.parts.Action.TheVariants.{Shift, Reduce, Refuse}
use Rattle.mh_resolve_cells.specs.declared.levels.Comparison.{Comparison}
use Rattle.mh_resolve_cells.specs.declared.kinds.ConflictKind.{ConflictKind}
use Rattle.mh_resolve_cells.specs.declared.kinds.ConflictKind.TheVariants.{Solved, Unsolved, Stream}
use Rattle.mh_resolve_cells.specs.declared.cells.Cell.{Cell}
use Rattle.mh_resolve_cells.specs.Cells.{Remains, IsChosen, IsConflict, IsUnsolved}
use Rattle.mh_resolve_cells.specs.code.Tallies.{IsChosenOrRefuse, IsKind, IsDecided}

-- The two sets of actions have the same elements.
pub record AreAlike (R S : Action → Type 0) : Type 0 where
  pub to : (a : Action) → R a → S a
  pub from : (a : Action) → S a → R a

pub alike_sym : {R S : Action → Type 0} → AreAlike R S → AreAlike S R
alike_sym e = record { to = e.from; from = e.to }

pub stays_same : (by : ℕ → Comparison) (R S : Action → Type 0) → AreAlike R S → (a : Action) → Remains by R a → Remains by S a
stays_same by R S e (Shift j) s = (e.to (Shift j) s.0, λ p h. s.1 p (e.from (Reduce p) h))
stays_same by R S e (Reduce p) s = (e.to (Reduce p) s.0, λ j h. s.1 j (e.from (Shift j) h))
stays_same by R S e Refuse s = s

takes_same : (by : ℕ → Comparison) (R S : Action → Type 0) → AreAlike R S → (a : Action) → IsChosen by R a → IsChosen by S a
takes_same by R S e (Shift j) s = stays_same by R S e (Shift j) s
takes_same by R S e (Reduce p) s = (stays_same by R S e (Reduce p) s.0, λ q h. s.1 q (stays_same by S R (alike_sym e) (Reduce q) h))
takes_same by R S e Refuse s = s

conflict_same : (R S : Action → Type 0) → AreAlike R S → IsConflict R → IsConflict S
conflict_same R S e c = record { one = c.one; other = c.other; raw_one = e.to c.one c.raw_one; raw_other = e.to c.other c.raw_other; differ = c.differ }

unsolved_same : (by : ℕ → Comparison) (R S : Action → Type 0) → AreAlike R S → IsUnsolved by R → IsUnsolved by S
unsolved_same by R S e (inl u) = inl (record { target = u.target; production = u.production; shift = e.to (Shift u.target) u.shift; reduce = e.to (Reduce u.production) u.reduce; unknown = u.unknown })
unsolved_same by R S e (inr t) = inr (record { one = t.one; other = t.other; one_remains = stays_same by R S e (Reduce t.one) t.one_remains; other_remains = stays_same by R S e (Reduce t.other) t.other_remains; below = t.below })

kind_same : (by : ℕ → Comparison) (R S : Action → Type 0) → AreAlike R S → (k : Option ConflictKind) → IsKind by R k → IsKind by S k
kind_same by R S e None h = λ c. h (conflict_same S R (alike_sym e) c)
kind_same by R S e (Some Solved) h = (conflict_same R S e h.0, λ u. h.1 (unsolved_same by S R (alike_sym e) u))
kind_same by R S e (Some Unsolved) h = unsolved_same by R S e h
kind_same by R S e (Some Stream) h = h

taken_same : (by : ℕ → Comparison) (R S : Action → Type 0) → AreAlike R S → (a : Action) → IsChosenOrRefuse by R a → IsChosenOrRefuse by S a
taken_same by R S e a (inl t) = inl (takes_same by R S e a t)
taken_same by R S e a (inr n) = inr (n.0, λ b h. n.1 b (stays_same by S R (alike_sym e) b h))

raw_same : (R S : Action → Type 0) → AreAlike R S → (b : Bool) → MatchBool b ((a : Action) × R a) ((a : Action) → R a → ⊥) → MatchBool b ((a : Action) × S a) ((a : Action) → S a → ⊥)
raw_same R S e true h = (h.0, e.to h.0 h.1)
raw_same R S e false h = λ a r. h a (e.from a r)

pub decided_same : (by : ℕ → Comparison) (R S : Action → Type 0) → AreAlike R S → (cell : Cell) → IsDecided by R cell → IsDecided by S cell
decided_same by R S e cell d = record {
  action = taken_same by R S e cell.action d.action;
  raw = raw_same R S e cell.raw d.raw;
  kind = kind_same by R S e cell.kind d.kind;
}
