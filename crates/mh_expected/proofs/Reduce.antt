-- Proves that the reduction of the code is the reduction of the run.
use Rattle.std.proofs.Common.{◌≡◌, ℕ, ◌-◌, ◌<◌, ◌≤◌, List, [], ◌∷◌, ◌++◌, length, take, Some, sym, ap, arith, ◌∙◌}
use Rattle.mh_grammar.specs.declared.types.Symbol.TheVariants.{N}
use Rattle.mh_grammar.specs.Plain.{rhs_of, lhs_of}
use Rattle.mh_tables_core.specs.Table.{TableData, edge_of}
use Rattle.mh_tables_core.specs.Run.{top_of, reduce}
use Rattle.mh_tables_core.proofs.IsPath.{FindsStatesAndEdge, reduce_is, top_of_take}
use Rattle.mh_run.specs.code.Reductions.{CanReduce}
use Rattle.mh_run.proofs.ReductionsOfRun.{finds_from}

module _ (t : TableData) (p : ℕ) (stack : List ℕ) (h : CanReduce t p stack) (len m : ℕ) (mid : List ℕ) (e_len : len ≡ length stack) (e_m : m ≡ length (rhs_of t.grammar p)) (e_mid : mid ≡ take (len - m) stack) where
  abbrev kept : ℕ
  kept = length stack - length (rhs_of t.grammar p)

  mid_is : mid ≡ take kept stack
  mid_is = let e : len - m ≡ kept = omega arith in e_mid ∙ ap (λ (n : ℕ). take n stack) e

  -- After the right side is taken off the stack, the top state is a state of the table.
  pub top_known : top_of mid < length t.states
  top_known =
      let s = h.states in
      let at = top_of_take stack kept (omega arith) (omega arith) in
      rw (mid_is, at) h.below

  pub top_goto : (g : ℕ) (l : ℕ) → l ≡ lhs_of t.grammar p → edge_of t (top_of mid) (N l) ≡ Some g → (new : List ℕ) → new ≡ mid ++ g ∷ [] → reduce t p stack ≡ Some new
  top_goto g l e_l edge new is =
      let there : edge_of t (top_of (take kept stack)) (N (lhs_of t.grammar p)) ≡ Some g = rw (← mid_is, ← e_l) edge in
      reduce_is t p stack (record { states = h.states; goto = (g, there) }) ∙ ap (λ (s : List ℕ). Some s) (ap (λ (s : List ℕ). s ++ g ∷ []) (sym mid_is) ∙ sym is)

  -- The top state then has a goto on the left side.
  pub some_goto : (u : ℕ) × (edge_of t (top_of mid) (N (lhs_of t.grammar p)) ≡ Some u)
  some_goto = let f = finds_from t p stack h in rw mid_is f.goto
