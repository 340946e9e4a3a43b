-- Proves that the cell that is made from a tally is correct for its raw actions.
use Rattle.std.proofs.Common.{◌≡◌, ℕ, Option, Some, None, is_some, Bool, true, false, ◌||◌, ◌&&◌, refl, ap, arith, inl, inr}
use Rattle.std.specs.Prelude.{MatchBool, if◌then◌else◌}
use Rattle.mh_grammar.specs.declared.types.Look.{Look}
use Rattle.mh_tables_core.specs.declared.parts.Action.{Action}
use Rattle.mh_tables_core.specs.declared.parts.Action.TheVariants.{Shift, Reduce, Refuse}
use Rattle.mh_grammar.specs.ItemSets.{ItemSet}
use Rattle.mh_grammar.specs.declared.types.Grammar.{Grammar}
use Rattle.mh_resolve_cells.specs.declared.levels.Comparison.{Comparison}
use Rattle.mh_resolve_cells.specs.declared.levels.Comparison.TheVariants.{Reduces, Unknown}
use Rattle.mh_resolve_cells.specs.declared.kinds.ConflictKind.TheVariants.{Solved, Unsolved}
use Rattle.mh_resolve_cells.specs.declared.cells.Tally.{Tally}
use Rattle.mh_resolve_cells.specs.Cells.{IsForShift, Remains, HasTwoReductions}
use Rattle.mh_resolve_cells.specs.States.{RawOf}
use Rattle.mh_resolve_cells.specs.code.LookTallies.{IsCompleteOn}
use Rattle.mh_resolve_cells.specs.code.Tallies.{comparison_with_shift, action_from, cell_from, IsLowest, TwoReduce, IsTally, IsChosenOrRefuse, IsKind, IsDecided}

action_is : (by : ℕ → Comparison) (g : Grammar) (items : ItemSet) (look : Look) (shift lo : Option ℕ) (b : Bool) → IsLowest (comparison_with_shift by shift) (IsCompleteOn g items look) lo
    → MatchBool b ((p : ℕ) → IsCompleteOn g items look p → IsForShift (comparison_with_shift by shift p)) ((p : ℕ) × IsCompleteOn g items look p × (IsForShift (comparison_with_shift by shift p) → ⊥))
    → IsChosenOrRefuse by (RawOf g items look shift) (action_from lo shift b)
action_is by g items look None None b l s = inr (refl, nothing)
  where
    nothing : (a : Action) → Remains by (RawOf g items look None) a → ⊥
    nothing (Shift j) s = let e : None ≡ Some j = s.0 in cc
    nothing (Reduce p) s = l p s.0 refl
    nothing Refuse s = s
action_is by g items look None (Some p) b l s = inl ((l.0, λ j e. cc), λ q s. l.2 q s.0 refl)
action_is by g items look (Some j) None true l s = inl (refl, s)
action_is by g items look (Some j) None false l s = inr (refl, nothing)
  where
    nothing : (a : Action) → Remains by (RawOf g items look (Some j)) a → ⊥
    nothing (Shift k) t = s.2 (t.1 s.0 s.1)
    nothing (Reduce p) t = l p t.0 (t.1 j refl)
    nothing Refuse t = t
action_is by g items look (Some j) (Some p) b l s = inl ((l.0, λ k e. l.1), λ q s. l.2 q s.0 (s.1 j refl))

raw_is : (g : Grammar) (items : ItemSet) (look : Look) (shift : Option ℕ) (b : Bool) → MatchBool b ((p : ℕ) × IsCompleteOn g items look p) ((p : ℕ) → IsCompleteOn g items look p → ⊥)
    → MatchBool (b || is_some shift) ((a : Action) × RawOf g items look shift a) ((a : Action) → RawOf g items look shift a → ⊥)
raw_is g items look shift true s = (Reduce s.0, s.1)
raw_is g items look (Some j) false s = (Shift j, refl)
raw_is g items look None false s = nothing
  where
    nothing : (a : Action) → RawOf g items look None a → ⊥
    nothing (Shift j) e = cc
    nothing (Reduce p) h = s p h
    nothing Refuse h = h

two_stay : (by : ℕ → Comparison) (g : Grammar) (items : ItemSet) (look : Look) (shift : Option ℕ) → TwoReduce (comparison_with_shift by shift) (IsCompleteOn g items look) → HasTwoReductions by (RawOf g items look shift)
two_stay by g items look None t = record { one = t.one; other = t.other; one_remains = (t.has_one, λ j e. cc); other_remains = (t.has_other, λ j e. cc); below = t.below }
two_stay by g items look (Some j) t = record { one = t.one; other = t.other; one_remains = (t.has_one, λ k e. t.reduces_one); other_remains = (t.has_other, λ k e. t.reduces_other); below = t.below }

kind_is : (by : ℕ → Comparison) (g : Grammar) (items : ItemSet) (look : Look) (shift : Option ℕ) (two unknown some : Bool)
    → MatchBool two (TwoReduce (comparison_with_shift by shift) (IsCompleteOn g items look)) ((p q : ℕ) → IsCompleteOn g items look p → IsCompleteOn g items look q → comparison_with_shift by shift p ≡ Reduces → comparison_with_shift by shift q ≡ Reduces → p ≡ q)
    → MatchBool unknown ((p : ℕ) × IsCompleteOn g items look p × (comparison_with_shift by shift p ≡ Unknown)) ((p : ℕ) → IsCompleteOn g items look p → comparison_with_shift by shift p ≡ Unknown → ⊥)
    → MatchBool some ((p : ℕ) × IsCompleteOn g items look p) ((p : ℕ) → IsCompleteOn g items look p → ⊥)
    → IsKind by (RawOf g items look shift) (if two || unknown then Some Unsolved else if some && is_some shift then Some Solved else None)
kind_is by g items look shift true unknown some t u s = inr (two_stay by g items look shift t)
kind_is by g items look None false true some t u s = let e : Reduces ≡ Unknown = u.2 in cc
kind_is by g items look (Some j) false true some t u s = inl (record { target = j; production = u.0; shift = refl; reduce = u.1; unknown = u.2 })
kind_is by g items look None false false true t u s = λ c. apart c.one c.other c.raw_one c.raw_other c.differ
  where
    apart : (a b : Action) → RawOf g items look None a → RawOf g items look None b → (a ≡ b → ⊥) → ⊥
    apart (Reduce p) (Reduce q) h k ne = ne (ap Reduce (t p q h k refl refl))
    apart (Shift i) b h k ne = cc
    apart (Reduce p) (Shift i) h k ne = cc
    apart (Reduce p) Refuse h k ne = k
    apart Refuse b h k ne = h
kind_is by g items look None false false false t u s = λ c. apart c.one c.raw_one
  where
    apart : (a : Action) → RawOf g items look None a → ⊥
    apart (Reduce p) h = s p h
    apart (Shift i) h = cc
    apart Refuse h = h
kind_is by g items look (Some j) false false true t u s = (
  record { one = Shift j; other = Reduce s.0; raw_one = refl; raw_other = s.1; differ = λ e. cc },
  λ x. elim x [
    | inl n ↦ u n.production n.reduce n.unknown
    | inr n ↦ (let e : n.one ≡ n.other = t n.one n.other n.one_remains.0 n.other_remains.0 (n.one_remains.1 j refl) (n.other_remains.1 j refl) in let b = n.below in omega arith)
  ],
)
kind_is by g items look (Some j) false false false t u s = λ c. apart c.one c.other c.raw_one c.raw_other c.differ
  where
    apart : (a b : Action) → RawOf g items look (Some j) a → RawOf g items look (Some j) b → (a ≡ b → ⊥) → ⊥
    apart (Shift i) (Shift k) e f ne = ne (let same : i ≡ k = cc in ap Shift same)
    apart (Reduce p) b h k ne = s p h
    apart (Shift i) (Reduce q) h k ne = s q k
    apart (Shift i) Refuse h k ne = k
    apart Refuse b h k ne = h

pub decided : (by : ℕ → Comparison) (g : Grammar) (items : ItemSet) (look : Look) (shift : Option ℕ) (t : Tally) → IsTally (comparison_with_shift by shift) (IsCompleteOn g items look) t → IsDecided by (RawOf g items look shift) (cell_from t shift)
decided by g items look shift t i = record {
  action = action_is by g items look shift t.lowest t.shifts i.lowest i.shifts;
  raw = raw_is g items look shift t.some i.some;
  kind = kind_is by g items look shift t.two t.unknown t.some i.two i.unknown i.some;
}
