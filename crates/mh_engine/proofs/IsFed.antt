-- Proves that feeding leads to one branch.
use Rattle.std.proofs.Common.{◌≡◌, ℕ, zero, suc, ◌+◌, ◌-◌, List, [], length, refl, sym, ap, subst, ◌∙◌, arith, inl, inr}
use Rattle.std.proofs.lemmas.Bool.{cases_lt}
use Rattle.mh_tables_core.specs.Table.{TableData}
use Rattle.mh_engine.specs.Branches.{Branch, position_of}
use Rattle.mh_engine.specs.Feeding.{Feeding, feeding_of, with_offer, moved_in, phase_in, after_moves, HasStopped, IsFed}
use Rattle.mh_engine.specs.declared.phase.Phase.{Phase}
use Rattle.mh_engine.specs.declared.phase.Phase.TheVariants as phases

pub moves_add : (t : TableData) (n m : ℕ) (f : Feeding) → after_moves t (n + m) f ≡ after_moves t m (after_moves t n f)
moves_add t zero m f = let e : zero + m ≡ m = omega arith in rw e refl
moves_add t (suc n) m f = let e : suc n + m ≡ suc (n + m) = omega arith in rw e (moves_add t n m (moved_in (phase_in t f) f))

no_offer : (b : Branch) (waiting : List ℕ) → waiting ≡ [] → with_offer b waiting ≡ feeding_of b waiting
no_offer b waiting e = rw e refl

-- A feeding that has stopped does not move.
no_move : (p : Phase) (f : Feeding) → HasStopped p f.waiting → moved_in p f ≡ f
no_move (phases.InputNeeded s) f h = no_offer f.branch f.waiting h
no_move (phases.Shifting s z) f h = absurd h
no_move (phases.AboutToReduce s p) f h = absurd h
no_move (phases.HandlingError s) f h = refl
no_move phases.Accepted f h = refl
no_move phases.Rejected f h = refl

pub stays_stopped : (t : TableData) (n : ℕ) (f : Feeding) → HasStopped (phase_in t f) f.waiting → after_moves t n f ≡ f
stays_stopped t zero f h = refl
stays_stopped t (suc n) f h = ap (after_moves t n) (no_move (phase_in t f) f h) ∙ stays_stopped t n f h

-- After a stop, no number of further moves changes anything.
stopped_later : (t : TableData) (f : Feeding) (n m : ℕ) → HasStopped (phase_in t (after_moves t n f)) (after_moves t n f).waiting → after_moves t (n + m) f ≡ after_moves t n f
stopped_later t f n m h = moves_add t n m f ∙ stays_stopped t m (after_moves t n f) h

same_stop : (t : TableData) (f : Feeding) (n m : ℕ) → HasStopped (phase_in t (after_moves t n f)) (after_moves t n f).waiting → HasStopped (phase_in t (after_moves t m f)) (after_moves t m f).waiting → after_moves t n f ≡ after_moves t m f
same_stop t f n m h k = elim (cases_lt n m) [
  | inl lt ↦ (let e : m ≡ n + (m - n) = omega arith in sym (ap (λ (i : ℕ). after_moves t i f) e ∙ stopped_later t f n (m - n) h))
  | inr ge ↦ (let e : n ≡ m + (n - m) = omega arith in ap (λ (i : ℕ). after_moves t i f) e ∙ stopped_later t f m (n - m) k)
]

-- Feeding the same tokens to the same branch leads to one branch, with one number of shifted tokens.
pub fed_once : (t : TableData) (b : Branch) (tokens : List ℕ) (x y : Branch) (k l : ℕ) → IsFed t b tokens x k → IsFed t b tokens y l → (x ≡ y) × (k ≡ l)
fed_once t b tokens x y k l h j =
    let same : x ≡ y = sym h.reaches ∙ ap (λ (f : Feeding). f.branch) (same_stop t (feeding_of b tokens) h.moves j.moves h.stops j.stops) ∙ j.reaches in
    let counted : length b.offered + k + length (position_of t y).left ≡ length y.offered = subst (λ (next : Branch). length b.offered + k + length (position_of t next).left ≡ length next.offered) same h.count in
    let other = j.count in
    (same, omega arith)
