-- Lemmas on the reductions of one relative run, from a start state alone or above a state that is not removed.
use Rattle.std.proofs.Common.{◌≡◌, ℕ, zero, suc, ◌-◌, ◌<◌, ◌≤◌, List, length, take, get_or, Some, None, Option, refl, arith, lt-ltb, le-ltb}
use Rattle.mh_grammar.specs.declared.types.Symbol.TheVariants.{N}
use Rattle.mh_grammar.specs.Plain.{rhs_of, lhs_of}
use Rattle.mh_tables_core.specs.Table.{TableData, edge_of}
use Rattle.mh_tables_core.specs.Facts.{Facts}
use Rattle.mh_tables_core.specs.Run.{RunMove, Accepts, Asks, Refuses, Shifts, Reduces, run_move_of, top_of, reduce, push_goto, reduction, reductions, reduced_by}
use Rattle.mh_tables.specs.code.Relative.{IsReductionResult, ReducesNext}
use Rattle.mh_tables_core.proofs.IsPath.{top_of_take}
use Rattle.mh_tables_core.proofs.Reductions.{reduces_from_move, reductions_split, reductions_zero}

not_by : (t : TableData) (stack : List ℕ) (m : RunMove) → ((p : ℕ) → m ≡ Reduces p → ⊥) → reduced_by t stack m ≡ None
not_by t stack Accepts h = refl
not_by t stack Asks h = refl
not_by t stack Refuses h = refl
not_by t stack (Shifts j) h = refl
not_by t stack (Reduces p) h = absurd (h p refl)

pub no_reduction : (t : TableData) (left stack : List ℕ) → ((p : ℕ) → run_move_of t (top_of stack) left ≡ Reduces p → ⊥) → reduction t left stack ≡ None
unfolding reduction
no_reduction t left stack h = not_by t stack (run_move_of t (top_of stack) left) h

pub by_reduce : (t : TableData) (left stack : List ℕ) (p : ℕ) (o : Option (List ℕ)) → run_move_of t (top_of stack) left ≡ Reduces p → reduce t p stack ≡ o → reduction t left stack ≡ o
unfolding reduction
by_reduce t left stack p o m e = rw m e

pub reduces_next : (t : TableData) (f : Facts t) (left stack : List ℕ) (p : ℕ) → run_move_of t (top_of stack) left ≡ Reduces p → ReducesNext t left stack (Some p)
reduces_next t f left stack p m =
    let range = f.ordinary (top_of stack) p (reduces_from_move t (top_of stack) left p m) in
    (m, range.0, range.1)

pub reduce_short : (t : TableData) (p : ℕ) (stack : List ℕ) (m : ℕ) → m ≡ length (rhs_of t.grammar p) → length stack ≤ m → reduce t p stack ≡ None
unfolding reduce
reduce_short t p stack m e le = rw (le-ltb (length (rhs_of t.grammar p)) (length stack) (omega arith)) refl

top_kept : (stack : List ℕ) (m : ℕ) → m < length stack → top_of (take (length stack - m) stack) ≡ get_or stack (length stack - m - 1) 0
top_kept stack m lt = top_of_take stack (length stack - m) (omega arith) (omega arith)

pub reduce_by : (t : TableData) (p : ℕ) (stack : List ℕ) (m l : ℕ) (o : Option ℕ) → m ≡ length (rhs_of t.grammar p) → l ≡ lhs_of t.grammar p → m < length stack → edge_of t (get_or stack (length stack - m - 1) 0) (N l) ≡ o
    → reduce t p stack ≡ push_goto (take (length stack - m) stack) o
unfolding reduce
reduce_by t p stack m l o e_m e_l lt e =
    rw (← e_m, ← e_l) (rw (lt-ltb m (length stack) lt, top_kept stack m lt, e) refl)

pub StackReduced-result : (t : TableData) (f : Facts t) (p : ℕ) (stack : List ℕ) (m l g : ℕ) → m ≡ length (rhs_of t.grammar p) → l ≡ lhs_of t.grammar p → m < length stack → edge_of t (get_or stack (length stack - m - 1) 0) (N l) ≡ Some g
    → IsReductionResult t p stack (length stack - m) g
StackReduced-result t f p stack m l g e_m e_l lt e = record {
  is = reduce_by t p stack m l (Some g) e_m e_l lt e;
  keeps_some = omega arith;
  within = omega arith;
  known = f.each_target _ _ g e;
}

-- If no reduction follows the first k reductions, there are no more.
pub no_more_reductions : (t : TableData) (left : List ℕ) (k n : ℕ) (from stop new : List ℕ) → reductions t left k from ≡ Some stop → reduction t left stop ≡ None → k < n → reductions t left n from ≡ Some new → ⊥
no_more_reductions t left zero zero from stop new a none lt b = omega arith
no_more_reductions t left zero (suc n) from stop new a none lt b =
    let split = reductions_split t left from new n b in
    let same = reductions_zero t left from stop a in
    let made : reduction t left stop ≡ Some split.0 = rw (← same) split.1 in cc
no_more_reductions t left (suc k) zero from stop new a none lt b = omega arith
no_more_reductions t left (suc k) (suc n) from stop new a none lt b =
    let one = reductions_split t left from stop k a in
    let two = reductions_split t left from new n b in
    let e : two.0 ≡ one.0 = let x = one.1 in let y = two.1 in cc in
    no_more_reductions t left k n one.0 stop new one.2 none (omega arith) (rw e at two.2)
