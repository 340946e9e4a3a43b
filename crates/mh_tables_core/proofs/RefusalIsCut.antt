-- Proves that a run that is refused is refused in the same way without the tokens after the refused one.
use Rattle.std.proofs.Common.{◌≡◌, ℕ, zero, suc, ◌+◌, ◌<◌, ◌≤◌, List, [], ◌∷◌, ◌++◌, length, take, drop, Some, None, Option, refl, ap, sym, subst, arith, ◌∙◌}
use Rattle.mh_tables_core.specs.Table.{TableData}
use Rattle.mh_tables_core.specs.Run.{Config, RunMove, Accepts, Asks, Refuses, Shifts, Reduces, run_move_of, top_of, reduce, step, step_by, goes_to, Step, Goes, Ends, Stuck, after, next_of, VerdictOf, Ending, Rejected, Accepted, Overshot}
use Rattle.mh_tables_core.proofs.MoveCases.{no_refusal_at_end, goes_to_no_end}
use Rattle.mh_tables_core.proofs.Reductions.{no_shift_at_end, move_at_next}
use Rattle.mh_tables_core.proofs.RunEnds.{step_moves, after_ended}

abbrev at_left : List ℕ → ℕ → List ℕ → Config
at_left stack read left = record { stack = stack; read = read; left = left }

record IsRefusal (c : Config) (m : RunMove) (at s : ℕ) : Type 0 where
  move : m ≡ Refuses
  place : c.read ≡ at
  state : top_of c.stack ≡ s

refusal_by : (t : TableData) (c : Config) (m : RunMove) (at s : ℕ) → step_by t c m ≡ Ends (Rejected at s) → IsRefusal c m at s
refusal_by t c Accepts at s e = cc
refusal_by t c Asks at s e = cc
refusal_by t c Refuses at s e = record { move = refl; place = cc; state = cc }
refusal_by t c (Shifts j) at s e = cc
refusal_by t c (Reduces p) at s e = absurd (goes_to_no_end c (reduce t p c.stack) (Rejected at s) e)

-- The run from this configuration, with fewer tokens left, is refused after n steps.
record Cut (t : TableData) (n : ℕ) (stack : List ℕ) (read : ℕ) (left : List ℕ) (at s : ℕ) : Type 0 where
  more : ℕ
  place : at + 1 ≡ read + suc more
  within : suc more ≤ length left
  same : step t (after t n (at_left stack read (take (suc more) left))) ≡ Ends (Rejected at s)

stays : (t : TableData) (n : ℕ) (c : Config) (how : Ending) → step t c ≡ Ends how → step t (after t n c) ≡ Ends how
stays t n c how e = ap (step t) (after_ended t n c how e) ∙ e

cut_now : (t : TableData) (n : ℕ) (stack : List ℕ) (read : ℕ) (left : List ℕ) (at s : ℕ) → step_by t (at_left stack read left) (run_move_of t (top_of stack) left) ≡ Ends (Rejected at s) → Cut t n stack read left at s
cut_now t n stack read [] at s e = absurd (no_refusal_at_end t (top_of stack) (refusal_by t (at_left stack read []) (run_move_of t (top_of stack) []) at s e).move)
cut_now t n stack read (z ∷ rest) at s e =
    let r = refusal_by t (at_left stack read (z ∷ rest)) (run_move_of t (top_of stack) (z ∷ rest)) at s e in
    let place : read ≡ at = r.place in
    let state : top_of stack ≡ s = r.state in
    let refuses : run_move_of t (top_of stack) (z ∷ []) ≡ Refuses = sym (move_at_next t (top_of stack) z rest) ∙ r.move in
    record {
      more = zero;
      place = omega arith;
      within = omega arith;
      same = stays t n (at_left stack read (z ∷ [])) (Rejected at s) (step_moves t (at_left stack read (z ∷ [])) Refuses refuses ∙ (rw (place, state) refl));
    }

after_stuck : (t : TableData) (n : ℕ) (c : Config) → step t c ≡ Stuck → after t n c ≡ c
after_stuck t zero c e = refl
after_stuck t (suc n) c e = rw e (after_stuck t n c e)

stuck_not : (t : TableData) (n : ℕ) (c : Config) (how : Ending) → step t c ≡ Stuck → step t (after t n c) ≡ Ends how → ⊥
stuck_not t n c how e h = let both : Ends how ≡ Stuck = sym h ∙ ap (step t) (after_stuck t n c e) ∙ e in cc

abbrev Earlier : TableData → ℕ → ℕ → ℕ → Type 0
Earlier t n at s = (stack : List ℕ) (read : ℕ) (left : List ℕ) → step t (after t n (at_left stack read left)) ≡ Ends (Rejected at s) → Cut t n stack read left at s

-- If the run ends at its first step, this end is the refusal, and the run with fewer tokens is refused too.
cut_ended : (t : TableData) (n : ℕ) (stack : List ℕ) (read : ℕ) (left : List ℕ) (at s : ℕ) (m : RunMove) (how : Ending) → run_move_of t (top_of stack) left ≡ m → step_by t (at_left stack read left) m ≡ Ends how
    → step t (after t n (at_left stack read left)) ≡ Ends (Rejected at s) → Cut t (suc n) stack read left at s
cut_ended t n stack read left at s m how e ended h =
    let first : step t (at_left stack read left) ≡ Ends how = step_moves t (at_left stack read left) m e ∙ ended in
    let same : Ends how ≡ Ends (Rejected at s) = sym first ∙ sym (ap (step t) (after_ended t n (at_left stack read left) how first)) ∙ h in
    cut_now t (suc n) stack read left at s (rw e (ended ∙ same))

cut_shifted : (t : TableData) (n : ℕ) (stack : List ℕ) (read : ℕ) (left : List ℕ) (at s j : ℕ) → run_move_of t (top_of stack) left ≡ Shifts j → step t (after t n (at_left (stack ++ j ∷ []) (read + 1) (drop 1 left))) ≡ Ends (Rejected at s)
    → Earlier t n at s → Cut t (suc n) stack read left at s
cut_shifted t n stack read [] at s j e h ih = absurd (no_shift_at_end t (top_of stack) j e)
cut_shifted t n stack read (z ∷ rest) at s j e h ih =
    let r = ih (stack ++ j ∷ []) (read + 1) rest h in
    let place = r.place in
    let within = r.within in
    let first : step t (at_left stack read (z ∷ take (suc r.more) rest)) ≡ Goes (at_left (stack ++ j ∷ []) (read + 1) (take (suc r.more) rest)) =
    step_moves t (at_left stack read (z ∷ take (suc r.more) rest)) (Shifts j) (move_at_next t (top_of stack) z (take (suc r.more) rest) ∙ sym (move_at_next t (top_of stack) z rest) ∙ e) in
    record {
      more = suc r.more;
      place = omega arith;
      within = omega arith;
      same = rw first r.same;
    }

cut_reduced : (t : TableData) (n : ℕ) (stack : List ℕ) (read : ℕ) (left : List ℕ) (at s p : ℕ) (o : Option (List ℕ)) → run_move_of t (top_of stack) left ≡ Reduces p → reduce t p stack ≡ o
    → step t (after t n (next_of (at_left stack read left) (goes_to (at_left stack read left) o))) ≡ Ends (Rejected at s) → Earlier t n at s → Cut t (suc n) stack read left at s
cut_reduced t n stack read left at s p None e is h ih =
    absurd (stuck_not t n (at_left stack read left) (Rejected at s) (step_moves t (at_left stack read left) (Reduces p) e ∙ ap (goes_to (at_left stack read left)) is) h)
cut_reduced t n stack read [] at s p (Some new) e is h ih = let r = ih new read [] h in let within = r.within in absurd (omega arith)
cut_reduced t n stack read (z ∷ rest) at s p (Some new) e is h ih =
    let r = ih new read (z ∷ rest) h in
    let first : step t (at_left stack read (z ∷ take r.more rest)) ≡ Goes (at_left new read (z ∷ take r.more rest)) =
    step_moves t (at_left stack read (z ∷ take r.more rest)) (Reduces p) (move_at_next t (top_of stack) z (take r.more rest) ∙ sym (move_at_next t (top_of stack) z rest) ∙ e)
    ∙ ap (goes_to (at_left stack read (z ∷ take r.more rest))) is in
    record { more = r.more; place = r.place; within = r.within; same = rw first r.same }

by_move : (t : TableData) (n : ℕ) (stack : List ℕ) (read : ℕ) (left : List ℕ) (at s : ℕ) (m : RunMove) → run_move_of t (top_of stack) left ≡ m
    → step t (after t n (next_of (at_left stack read left) (step_by t (at_left stack read left) m))) ≡ Ends (Rejected at s) → Earlier t n at s → Cut t (suc n) stack read left at s
by_move t n stack read left at s Accepts e h ih = cut_ended t n stack read left at s Accepts (Accepted read) e refl h
by_move t n stack read left at s Asks e h ih = cut_ended t n stack read left at s Asks (Overshot (top_of stack)) e refl h
by_move t n stack read left at s Refuses e h ih = cut_ended t n stack read left at s Refuses (Rejected read (top_of stack)) e refl h
by_move t n stack read left at s (Shifts j) e h ih = cut_shifted t n stack read left at s j e h ih
by_move t n stack read left at s (Reduces p) e h ih = cut_reduced t n stack read left at s p (reduce t p stack) e refl h ih

rejected_cut : (t : TableData) (n : ℕ) (at s : ℕ) (stack : List ℕ) (read : ℕ) (left : List ℕ) → step t (after t n (at_left stack read left)) ≡ Ends (Rejected at s) → Cut t n stack read left at s
rejected_cut t zero at s stack read left h =
    cut_now t zero stack read left at s (sym (step_moves t (at_left stack read left) (run_move_of t (top_of stack) left) refl) ∙ h)
rejected_cut t (suc n) at s stack read left h =
    by_move t n stack read left at s (run_move_of t (top_of stack) left) refl
    (subst (λ (x : Step). step t (after t n (next_of (at_left stack read left) x)) ≡ Ends (Rejected at s)) (step_moves t (at_left stack read left) (run_move_of t (top_of stack) left) refl) h) (rejected_cut t n at s)

-- The tokens after the refused one do not matter.
pub verdict_cut : (t : TableData) (start : ℕ) (w : List ℕ) (at s : ℕ) → VerdictOf t start w (Rejected at s) → (at < length w) × VerdictOf t start (take (at + 1) w) (Rejected at s)
verdict_cut t start w at s v =
    let r = rejected_cut t v.0 at s (start ∷ []) 0 w v.1 in
    let place = r.place in
    let within = r.within in
    let e : suc r.more ≡ at + 1 = omega arith in
    (omega arith, (v.0, rw e at r.same))
