-- Lemmas on the next move, and on sequences of reductions.
use Rattle.std.proofs.Common.{◌≡◌, ℕ, zero, suc, ◌+◌, ◌-◌, ◌<◌, ◌⊎◌, inl, inr, List, [], ◌∷◌, ◌++◌, length, take, drop, Some, None, Option, Bool, true, false, cond, nat_lt, refl, ap, sym, arith, length-drop, ◌∙◌}
use Rattle.std.proofs.lemmas.Bool.{ltb-true}
use Rattle.std.proofs.lemmas.List.{get_or-drop, length-take-le, drop-append-le, drop-take}
use Rattle.std.specs.Option.{option_and_then}
use Rattle.mh_tables_core.specs.declared.parts.Action.{Action}
use Rattle.mh_tables_core.specs.declared.parts.Action.TheVariants as actions
use Rattle.mh_tables_core.specs.declared.parts.Fallback.{Fallback}
use Rattle.mh_tables_core.specs.declared.parts.Fallback.TheVariants as fallbacks
use Rattle.mh_grammar.specs.Plain.{rhs_of}
use Rattle.mh_tables_core.specs.Table.{TableData, cell_of, fallback_of}
use Rattle.mh_tables_core.specs.Facts.{ReducesBy}
use Rattle.mh_tables_core.specs.Run.{Config, RunMove, Accepts, Asks, Refuses, Shifts, Reduces as Reducing, run_move_of, move_of_next, move_of_action, move_by_default, top_of, reduce, push_goto, reduction, reductions, reduced_by, Goes, step, after, next_of}
use Rattle.mh_tables_core.proofs.IsPath.{FindsStatesAndEdge, reduce_is}

pub action_reduces : (a : Action) (p : ℕ) → move_of_action a ≡ Reducing p → a ≡ actions.Reduce p
action_reduces (actions.Shift j) p e = cc
action_reduces (actions.Reduce q) p e = cc
action_reduces actions.Refuse p e = cc

action_shifts : (a : Action) (j : ℕ) → move_of_action a ≡ Shifts j → a ≡ actions.Shift j
action_shifts (actions.Shift i) j e = cc
action_shifts (actions.Reduce q) j e = cc
action_shifts actions.Refuse j e = cc

next_reduces : (t : TableData) (s : ℕ) (left : List ℕ) (p : ℕ) → move_of_next t s left ≡ Reducing p → (z : ℕ) × (cell_of t s z ≡ actions.Reduce p)
next_reduces t s [] p e = cc
next_reduces t s (z ∷ left) p e = (z, action_reduces (cell_of t s z) p e)

by_default_reduces : (f : Option Fallback) (m : RunMove) (p : ℕ) → move_by_default f m ≡ Reducing p → (f ≡ Some (fallbacks.Reduce p)) ⊎ (m ≡ Reducing p)
by_default_reduces None m p e = inr e
by_default_reduces (Some fallbacks.Accept) m p e = cc
by_default_reduces (Some (fallbacks.Reduce q)) m p e = inl cc

by_default_shifts : (f : Option Fallback) (m : RunMove) (j : ℕ) → move_by_default f m ≡ Shifts j → m ≡ Shifts j
by_default_shifts None m j e = e
by_default_shifts (Some fallbacks.Accept) m j e = cc
by_default_shifts (Some (fallbacks.Reduce q)) m j e = cc

-- A state that reduces a production does so by its default or by a cell.
pub reduces_from_move : (t : TableData) (s : ℕ) (left : List ℕ) (p : ℕ) → run_move_of t s left ≡ Reducing p → ReducesBy t s p
unfolding run_move_of
reduces_from_move t s left p e =
    elim (by_default_reduces (fallback_of t s) (move_of_next t s left) p e) [ inl d ↦ inl d | inr m ↦ inr (next_reduces t s left p m) ]

-- A state that shifts a token does so by the cell of this token.
pub shifts_from_move : (t : TableData) (s z : ℕ) (left : List ℕ) (j : ℕ) → run_move_of t s (z ∷ left) ≡ Shifts j → cell_of t s z ≡ actions.Shift j
unfolding run_move_of
shifts_from_move t s z left j e = action_shifts (cell_of t s z) j (by_default_shifts (fallback_of t s) _ j e)

-- Without a next token no state shifts.
pub no_shift_at_end : (t : TableData) (s j : ℕ) → run_move_of t s [] ≡ Shifts j → ⊥
unfolding run_move_of
no_shift_at_end t s j e = let m : Asks ≡ Shifts j = by_default_shifts (fallback_of t s) Asks j e in cc

-- The move depends only on the next token.
pub move_at_next : (t : TableData) (s z : ℕ) (left : List ℕ) → run_move_of t s (z ∷ left) ≡ run_move_of t s (z ∷ [])
unfolding run_move_of
move_at_next t s z left = refl

pub top-drop : (stack : List ℕ) (floor : ℕ) → floor < length stack → top_of (drop floor stack) ≡ top_of stack
top-drop stack floor lt =
    rw (length-drop floor stack, get_or-drop floor stack (length stack - floor - 1) 0)
    (let e : floor + (length stack - floor - 1) ≡ length stack - 1 = omega arith in rw e refl)

chosen : (b : Bool) (o : Option (List ℕ)) (y : List ℕ) → cond b o None ≡ Some y → (b ≡ true) × (o ≡ Some y)
chosen true o y e = (refl, e)
chosen false o y e = cc

push_goto_some : (kept : List ℕ) (o : Option ℕ) (new : List ℕ) → push_goto kept o ≡ Some new → (g : ℕ) × (o ≡ Some g) × (new ≡ kept ++ g ∷ [])
push_goto_some kept None new e = cc
push_goto_some kept (Some g) new e = (g, refl, cc)

-- A reduction that succeeds finds its states and its edge.
pub record Reduced (t : TableData) (p : ℕ) (stack new : List ℕ) : Type 0 where
  pub found : FindsStatesAndEdge t p stack
  pub is : new ≡ take (length stack - length (rhs_of t.grammar p)) stack ++ found.goto.0 ∷ []

pub reduced : (t : TableData) (p : ℕ) (stack new : List ℕ) → reduce t p stack ≡ Some new → Reduced t p stack new
unfolding reduce
reduced t p stack new e =
    let both = chosen (nat_lt (length (rhs_of t.grammar p)) (length stack)) _ new e in
    let pushed = push_goto_some (take (length stack - length (rhs_of t.grammar p)) stack) _ new both.1 in
    record {
      found = record { states = ltb-true _ _ both.0; goto = (pushed.0, pushed.1) };
      is = pushed.2;
    }

-- A reduction that does not reach down to index `floor` is also a reduction of the stack from this index on.
pub reduce-drop : (t : TableData) (p : ℕ) (stack : List ℕ) (floor : ℕ) (new : List ℕ) → floor + length (rhs_of t.grammar p) < length stack → Reduced t p stack new → reduce t p (drop floor stack) ≡ Some (drop floor new)
reduce-drop t p stack floor new lt r =
    let m = length (rhs_of t.grammar p) in
    let kept : List ℕ = take (length stack - m) stack in
    let len : length (drop floor stack) - m ≡ length stack - floor - m = let l = length-drop floor stack in omega arith in
    let same : take (length (drop floor stack) - m) (drop floor stack) ≡ drop floor kept =
    rw len (let e : floor + (length stack - floor - m) ≡ length stack - m = omega arith in rw (← drop-take floor (length stack - floor - m) stack, e) refl) in
    let within : floor < length kept = rw (length-take-le (length stack - m) stack (omega arith)) (omega arith) in
    let found : FindsStatesAndEdge t p (drop floor stack) = record {
      states = let l = length-drop floor stack in omega arith;
      goto = (r.found.goto.0, rw (same, top-drop kept floor within) r.found.goto.1);
    } in
    reduce_is t p (drop floor stack) found ∙ ap (λ (l : List ℕ). Some l) (rw same (rw r.is (sym (drop-append-le floor kept (r.found.goto.0 ∷ []) (omega arith)))))

reduced_by_some : (t : TableData) (stack new : List ℕ) (m : RunMove) → reduced_by t stack m ≡ Some new → (p : ℕ) × (m ≡ Reducing p) × (reduce t p stack ≡ Some new)
reduced_by_some t stack new Accepts e = cc
reduced_by_some t stack new Asks e = cc
reduced_by_some t stack new Refuses e = cc
reduced_by_some t stack new (Shifts j) e = cc
reduced_by_some t stack new (Reducing p) e = (p, refl, e)

pub reduction_some : (t : TableData) (left stack new : List ℕ) → reduction t left stack ≡ Some new → (p : ℕ) × (run_move_of t (top_of stack) left ≡ Reducing p) × (reduce t p stack ≡ Some new)
unfolding reduction
reduction_some t left stack new e = reduced_by_some t stack new (run_move_of t (top_of stack) left) e

pub reduction_is : (t : TableData) (left stack new : List ℕ) (p : ℕ) → run_move_of t (top_of stack) left ≡ Reducing p → reduce t p stack ≡ Some new → reduction t left stack ≡ Some new
unfolding reduction
reduction_is t left stack new p m e = rw m e

-- If the next move is a reduction that does not reach down to index `floor`, it is also the next move of the stack from
-- this index on.
pub reduction-drop : (t : TableData) (left stack new : List ℕ) (floor p : ℕ) → run_move_of t (top_of stack) left ≡ Reducing p → floor + length (rhs_of t.grammar p) < length stack → reduce t p stack ≡ Some new
    → reduction t left (drop floor stack) ≡ Some (drop floor new)
reduction-drop t left stack new floor p m lt e =
    reduction_is t left (drop floor stack) (drop floor new) p (rw (top-drop stack floor (omega arith)) m) (reduce-drop t p stack floor new lt (reduced t p stack new e))

-- A reduction followed by n reductions makes n + 1 reductions.
pub reductions_before : (t : TableData) (left stack mid new : List ℕ) (n : ℕ) → reduction t left stack ≡ Some mid → reductions t left n mid ≡ Some new → reductions t left (suc n) stack ≡ Some new
unfolding reductions
reductions_before t left stack mid new n a b = rw a b

first_reduction : (t : TableData) (left stack new : List ℕ) (n : ℕ) (o : Option (List ℕ)) → option_and_then (reductions t left n) o ≡ Some new → (mid : List ℕ) × (o ≡ Some mid) × (reductions t left n mid ≡ Some new)
first_reduction t left stack new n None e = cc
first_reduction t left stack new n (Some mid) e = (mid, refl, e)

pub reductions_split : (t : TableData) (left stack new : List ℕ) (n : ℕ) → reductions t left (suc n) stack ≡ Some new → (mid : List ℕ) × (reduction t left stack ≡ Some mid) × (reductions t left n mid ≡ Some new)
unfolding reductions
reductions_split t left stack new n e = first_reduction t left stack new n (reduction t left stack) e

pub reductions_none : (t : TableData) (left stack : List ℕ) → reductions t left 0 stack ≡ Some stack
unfolding reductions
reductions_none t left stack = refl

pub reductions_zero : (t : TableData) (left stack new : List ℕ) → reductions t left 0 stack ≡ Some new → stack ≡ new
unfolding reductions
reductions_zero t left stack new e = cc

-- Reductions followed by one reduction make one reduction more.
pub reductions_more : (t : TableData) (left stack mid new : List ℕ) (n : ℕ) → reductions t left n stack ≡ Some mid → reduction t left mid ≡ Some new → reductions t left (suc n) stack ≡ Some new
reductions_more t left stack mid new zero a b =
    reductions_before t left stack new new zero (rw (reductions_zero t left stack mid a) b) (reductions_none t left new)
reductions_more t left stack mid new (suc n) a b =
    let split = reductions_split t left stack mid n a in
    reductions_before t left stack split.0 new (suc n) split.1 (reductions_more t left split.0 mid new n split.2 b)

-- A reduction is one step.
pub step_reduces : (t : TableData) (c : Config) (new : List ℕ) → reduction t c.left c.stack ≡ Some new → step t c ≡ Goes (record { stack = new; read = c.read; left = c.left })
unfolding step
step_reduces t c new e = let r = reduction_some t c.left c.stack new e in rw (r.1, r.2) refl

-- If a run can make n reductions, they are its next n steps.
pub after_reductions : (t : TableData) (read : ℕ) (left stack new : List ℕ) (n : ℕ) → reductions t left n stack ≡ Some new
    → after t n (record { stack = stack; read = read; left = left }) ≡ record { stack = new; read = read; left = left }
after_reductions t read left stack new zero e = ap (λ (s : List ℕ). record { stack = s; read = read; left = left }) (reductions_zero t left stack new e)
after_reductions t read left stack new (suc n) e =
    let split = reductions_split t left stack new n e in
    rw (step_reduces t (record { stack = stack; read = read; left = left }) split.0 split.1) (after_reductions t read left split.0 new n split.2)

-- After n + m steps the run is where it is m steps after the first n.
pub after-add : (t : TableData) (n m : ℕ) (c : Config) → after t (n + m) c ≡ after t m (after t n c)
after-add t zero m c = let e : zero + m ≡ m = omega arith in rw e refl
after-add t (suc n) m c = let e : suc n + m ≡ suc (n + m) = omega arith in rw e (after-add t n m (next_of c (step t c)))

-- Reductions depend only on the next token.
reduction_at_next : (t : TableData) (z : ℕ) (rest stack : List ℕ) → reduction t (z ∷ rest) stack ≡ reduction t (z ∷ []) stack
unfolding reduction run_move_of
reduction_at_next t z rest stack = refl

pub reductions_at_next : (t : TableData) (z : ℕ) (rest stack new : List ℕ) (n : ℕ) → reductions t (z ∷ []) n stack ≡ Some new → reductions t (z ∷ rest) n stack ≡ Some new
reductions_at_next t z rest stack new zero e = rw (reductions_zero t (z ∷ []) stack new e) (reductions_none t (z ∷ rest) new)
reductions_at_next t z rest stack new (suc n) e =
    let split = reductions_split t (z ∷ []) stack new n e in
    reductions_before t (z ∷ rest) stack split.0 new n (reduction_at_next t z rest stack ∙ split.1) (reductions_at_next t z rest split.0 new n split.2)
