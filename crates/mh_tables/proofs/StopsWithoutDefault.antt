-- Proves that a relative run without a token makes the same reductions with every token. A relative run makes
-- reductions from a start state alone, or above a state as long as this state is not removed.
use Rattle.std.proofs.Common.{◌≡◌, ℕ, zero, suc, Bool, true, false, List, [], ◌∷◌, Some, None, Option, refl, ap, arith, ◌∙◌}
use Rattle.std.specs.Prelude.{is_some, not}
use Rattle.mh_tables_core.specs.declared.parts.Action.{Action}
use Rattle.mh_tables_core.specs.declared.parts.Action.TheVariants as actions
use Rattle.mh_tables_core.specs.declared.parts.Fallback.{Fallback}
use Rattle.mh_tables_core.specs.declared.parts.Fallback.TheVariants as fallbacks
use Rattle.mh_tables_core.specs.Table.{TableData, fallback_of, cell_of}
use Rattle.mh_tables_core.specs.Run.{RunMove, Reduces, run_move_of, move_by_default, move_of_next, top_of, reduced_by, reduction, reductions}
use Rattle.mh_tables_core.specs.Limits.{max_reductions}
use Rattle.mh_tables_core.specs.Halting.{RunLoops, NeverLoops, look_list, beginning}
use Rattle.mh_tables.specs.code.Relative.{StopsWithinLimit, StopsWithoutDefault, IsReducedWithinResult, LoopsOrNot, LoopsOrStops}
use Rattle.mh_tables_core.proofs.Reductions.{action_reduces, reduction_some, reduction_is, reductions_zero, reductions_none, reductions_split, reductions_before}
use Rattle.mh_tables_core.proofs.RefusalStays.{move_longer}
use Rattle.mh_tables.proofs.ReducedWithin.{no_more_reductions, no_reduction}

-- A default is used whatever token is next.
default_first : (t : TableData) (s : ℕ) (left : List ℕ) (p : ℕ) → run_move_of t s [] ≡ Reduces p → run_move_of t s left ≡ Reduces p
default_first t s left p e = move_longer t s [] left (λ asks. cc) ∙ e

reduction_first : (t : TableData) (left stack new : List ℕ) → reduction t [] stack ≡ Some new → reduction t left stack ≡ Some new
reduction_first t left stack new e =
    let r = reduction_some t [] stack new e in
    reduction_is t left stack new r.0 (default_first t (top_of stack) left r.0 r.1) r.2

reductions_first : (t : TableData) (left stack new : List ℕ) (n : ℕ) → reductions t [] n stack ≡ Some new → reductions t left n stack ≡ Some new
reductions_first t left stack new zero e = rw (reductions_zero t [] stack new e) (reductions_none t left new)
reductions_first t left stack new (suc n) e =
    let split = reductions_split t [] stack new n e in
    reductions_before t left stack split.0 new n (reduction_first t left stack split.0 split.1) (reductions_first t left split.0 new n split.2)

by_default : (f : Fallback) (m m' : RunMove) → move_by_default (Some f) m ≡ move_by_default (Some f) m'
by_default fallbacks.Accept m m' = refl
by_default (fallbacks.Reduce p) m m' = refl

-- A state with a default makes the same move whatever token is next.
same_by_default : (t : TableData) (left stack : List ℕ) (f : Fallback) → fallback_of t (top_of stack) ≡ Some f → reduction t left stack ≡ reduction t [] stack
unfolding reduction run_move_of
same_by_default t left stack f e = rw e (ap (reduced_by t stack) (by_default f (move_of_next t (top_of stack) left) (move_of_next t (top_of stack) [])))

-- A relative run that stops does not loop.
pub stops_not_loops : (t : TableData) (below : Option ℕ) (s : ℕ) (look : Option ℕ) (stack : List ℕ) → StopsWithinLimit t below s look stack → RunLoops t below s look → ⊥
stops_not_loops t below s look stack out loops =
    let few = out.few in
    no_more_reductions t (look_list look) out.count 10001 (beginning below s) stack loops.0 out.stack_is out.stops (omega arith) loops.1

-- A relative run that was tried loops exactly if it did not stop within the limit.
module _ (t : TableData) (below : Option ℕ) (s : ℕ) (look : Option ℕ) (stack : List ℕ) where
  pub loops_or : (stopped : Option ℕ) (found : Bool) → is_some stopped ≡ not found → IsReducedWithinResult t below s look max_reductions stack stopped → LoopsOrNot t below s look found
  loops_or None true e made = (stack, made)
  loops_or None false e made = cc
  loops_or (Some count) true e stops = cc
  loops_or (Some count) false e stops = stops_not_loops t below s look stack (record { count = count; few = stops.few; stack_is = stops.stack_is; stops = stops.stops })

  pub tried_or : (stopped : Option ℕ) (found : Bool) → is_some stopped ≡ not found → IsReducedWithinResult t below s look max_reductions stack stopped → LoopsOrStops t below s look stack found
  tried_or None true e made = (stack, made)
  tried_or None false e made = cc
  tried_or (Some count) true e stops = cc
  tried_or (Some count) false e stops = record { count = count; few = stops.few; stack_is = stops.stack_is; stops = stops.stops }

-- A relative run that stops in a state with a default does not loop with any token.
pub not_loops_by_default : (t : TableData) (below : Option ℕ) (s top : ℕ) (stack : List ℕ) (f : Fallback) → StopsWithinLimit t below s None stack → top ≡ top_of stack → fallback_of t top ≡ Some f → NeverLoops t below s
not_loops_by_default t below s top stack f out is e look known loops =
    let few = out.few in
    no_more_reductions t (look_list look) out.count 10001 (beginning below s) stack loops.0 (reductions_first t (look_list look) (beginning below s) stack out.count out.stack_is)
    (same_by_default t (look_list look) stack f (rw is at e) ∙ out.stops) (omega arith) loops.1

bare_reduces : (t : TableData) (s z : ℕ) (left : List ℕ) (p : ℕ) → fallback_of t s ≡ None → run_move_of t s (z ∷ left) ≡ Reduces p → cell_of t s z ≡ actions.Reduce p
unfolding run_move_of
bare_reduces t s z left p bare e = action_reduces (cell_of t s z) p (rw bare at e)

-- A relative run does not loop with a token whose cell is not a reduction.
pub not_loops_without_reduce : (t : TableData) (below : Option ℕ) (s top z : ℕ) (a : Action) → StopsWithoutDefault t below s top → a ≡ cell_of t top z → ((p : ℕ) → a ≡ actions.Reduce p → ⊥) → RunLoops t below s (Some z) → ⊥
not_loops_without_reduce t below s top z a w is none loops =
    let few = w.stops.few in
    no_more_reductions t (z ∷ []) w.stops.count 10001 (beginning below s) w.stack loops.0 (reductions_first t (z ∷ []) (beginning below s) w.stack w.stops.count w.stops.stack_is)
    (no_reduction t (z ∷ []) w.stack (λ p e. none p (is ∙ (bare_reduces t top z [] p w.no_default (rw (← w.top_is) at e))))) (omega arith) loops.1
