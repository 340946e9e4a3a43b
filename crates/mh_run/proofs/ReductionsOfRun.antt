-- Proves that the code's reductions are those of the definition.
use Rattle.std.proofs.Common.{◌≡◌, ℕ, ◌-◌, ◌<◌, List, [], ◌∷◌, ◌++◌, length, take, get_or, Some, ap, sym, arith, ◌∙◌}
use Rattle.std.proofs.lemmas.List.{get_or-take, get_or_default, length-take-le}
use Rattle.mh_grammar.specs.declared.types.Symbol.TheVariants.{N}
use Rattle.mh_grammar.specs.Plain.{rhs_of, lhs_of}
use Rattle.mh_tables_core.specs.Table.{TableData, edge_of}
use Rattle.mh_tables_core.specs.Facts.{Facts, ReducesBy}
use Rattle.mh_tables_core.specs.Run.{top_of, reduce, IsRunStack}
use Rattle.mh_tables_core.proofs.IsPath.{FindsStatesAndEdge, finds_states_and_edge, reduce_is, top_of_take, IsRunStack-in_range}
use Rattle.mh_run.specs.code.Reductions.{CanReduce, below_of}

below_is : (t : TableData) (p : ℕ) (stack : List ℕ) → length (rhs_of t.grammar p) < length stack → top_of (take (length stack - length (rhs_of t.grammar p)) stack) ≡ below_of t p stack
below_is t p stack lt = top_of_take stack (length stack - length (rhs_of t.grammar p)) (omega arith) (omega arith)

-- On the stack of a run, the reduction that the top state makes is possible.
pub can_reduce : (t : TableData) (f : Facts t) (stack : List ℕ) (run : IsRunStack t stack) (p : ℕ) → ReducesBy t (top_of stack) p → CanReduce t p stack
can_reduce t f stack run p r =
    let found = finds_states_and_edge t f stack run p r in
    let range = f.ordinary (top_of stack) p r in
    record {
      ordinary = range.0;
      known = range.1;
      states = found.states;
      below = let s = found.states in IsRunStack-in_range t f stack run (length stack - length (rhs_of t.grammar p) - 1) (omega arith);
      goto = rw (← below_is t p stack found.states) found.goto;
    }

pub finds_from : (t : TableData) (p : ℕ) (stack : List ℕ) → CanReduce t p stack → FindsStatesAndEdge t p stack
finds_from t p stack h = record { states = h.states; goto = rw (below_is t p stack h.states) h.goto }

reduce_to : (t : TableData) (p : ℕ) (stack : List ℕ) (h : CanReduce t p stack) (g : ℕ) → edge_of t (below_of t p stack) (N (lhs_of t.grammar p)) ≡ Some g
    → reduce t p stack ≡ Some (take (length stack - length (rhs_of t.grammar p)) stack ++ g ∷ [])
unfolding finds_from
reduce_to t p stack h g e =
    let same : g ≡ h.goto.0 = let two = h.goto.1 in cc in
    rw same (reduce_is t p stack (finds_from t p stack h))

-- The code's operations on the stack give the stack after the reduction.
pub reduced_is : (t : TableData) (p : ℕ) (stack : List ℕ) (h : CanReduce t p stack) (len m r l g : ℕ) (mid new : List ℕ) → len ≡ length stack → m ≡ length (rhs_of t.grammar p) → mid ≡ take (len - m) stack
    → r ≡ get_or mid (len - m - 1) r → l ≡ lhs_of t.grammar p → edge_of t r (N l) ≡ Some g → new ≡ mid ++ g ∷ [] → reduce t p stack ≡ Some new
reduced_is t p stack h len m r l g mid new e_len e_m e_mid e_r e_l edge e_new =
    let n : ℕ = length stack - length (rhs_of t.grammar p) in
    let states = h.states in
    let e_n : len - m ≡ n = omega arith in
    let e_mid' : mid ≡ take n stack = rw (← e_n) e_mid in
    let inside : n - 1 < length (take n stack) = rw (length-take-le n stack (omega arith)) (omega arith) in
    let at : r ≡ below_of t p stack =
    e_r ∙ rw (e_mid', e_n) (get_or_default (take n stack) (n - 1) r 0 inside ∙ get_or-take n stack (n - 1) 0 (omega arith)) in
    let edge' : edge_of t (below_of t p stack) (N (lhs_of t.grammar p)) ≡ Some g = rw (← at, ← e_l) edge in
    reduce_to t p stack h g edge' ∙ ap (λ (s : List ℕ). Some s) (rw (← e_mid') (sym e_new))
