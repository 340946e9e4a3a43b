-- Lemmas on passes over the productions of a grammar that set flags: a backward and a forward pass, repeated until
-- neither sets a flag.
use Rattle.std.proofs.Common.{◌≡◌, ℕ, ◌+◌, ◌<◌, ◌||◌, Bool, false, List, Some, length, get_or, refl, arith, inl, inr}
use Rattle.std.specs.List.{slice_get}
use Rattle.std.proofs.lemmas.Bool.{cases_eq, or_parts}
use Rattle.std.proofs.lemmas.Option.{slice_get_read, slice_get_within}
use Rattle.mh_grammar.specs.declared.types.Production.{Production}
use Rattle.mh_grammar.specs.FlagTable.{Grows}
use Rattle.mh_grammar.proofs.FlagTable.{Grows-refl, Grows-trans}

-- The invariant of the two passes after i productions of the forward one: `old` are the flags before both passes, and
-- `Done` is a property of each production that set no flag.
pub record PassSoFar (Done : List Bool → Production → Type 0) (ps : List Production) (old new : List Bool) (grown : Bool) (i : ℕ) : Type 0 where
  pub grows : Grows old new grown
  pub done : grown ≡ false → (k : ℕ) (p : Production) → k < i → slice_get ps k ≡ Some p → Done new p

module _ (Done : List Bool → Production → Type 0) (ps : List Production) (old : List Bool) where
  pub pass-start : PassSoFar Done ps old old false 0
  pass-start = record { grows = Grows-refl old; done = λ e k p l. absurd (omega arith) }

  -- One more production of a pass. A production of the backward pass adds nothing to `Done`.
  module _ (flags new : List Bool) (grown more : Bool) (g : Grows flags new more) where
    pub pass-back : PassSoFar Done ps old flags grown 0 → PassSoFar Done ps old new (grown || more) 0
    pass-back h = record { grows = Grows-trans old flags new grown more h.grows g; done = λ e k p l. absurd (omega arith) }

    pub pass-step : (i : ℕ) (p : Production) → i < length ps → p ≡ get_or ps i p → (more ≡ false → Done new p) → PassSoFar Done ps old flags grown i → PassSoFar Done ps old new (grown || more) (i + 1)
    pass-step i p l is d h =
        let at : slice_get ps i ≡ Some p = slice_get_read ps (length ps) i p refl l is in
        record {
          grows = Grows-trans old flags new grown more h.grows g;
          done = λ e k q m read. let both = or_parts grown more e in elim (cases_eq k i) [
            | inl same ↦ (let one : q ≡ p = cc in rw one (d both.1))
            | inr other ↦ rw (g.same both.1) (h.done both.0 k q (omega arith) read)
          ];
        }

  -- If two passes set no flag, every production is `Done`.
  pub pass-end : (new : List Bool) (grown : Bool) (i : ℕ) → length ps < i + 1 → grown ≡ false → PassSoFar Done ps old new grown i → (k : ℕ) (p : Production) → slice_get ps k ≡ Some p → Done new p
  pass-end new grown i all e h k p at = h.done e k p (omega (arith, slice_get_within ps k p at)) at
