-- The complete items of a closed state compare what the state compares.
use Rattle.std.proofs.Common.{◌≡◌, ℕ, ◌<◌, List, Option, None, Some, length, get_or, sym, ap, ◌∙◌, arith, inl, inr}
use Rattle.std.proofs.lemmas.Bool.{cases_lt}
use Rattle.std.proofs.lemmas.List.{get_or_past}
use Rattle.mh_grammar.proofs.Lists.{recursion_contains}
use Rattle.mh_grammar.specs.declared.types.Grammar.{Grammar}
use Rattle.mh_grammar.specs.declared.types.Look.TheVariants.{Token}
use Rattle.mh_grammar.specs.Plain.{plain_of, rhs_of, IsLookBelow}
use Rattle.mh_items_kernels.specs.Automaton.{edges_at}
use Rattle.mh_items_kernels.specs.KernelTypes.{Automaton, Kernel}
use Rattle.mh_items_kernels.specs.Kernels.{IsKernelItem}
use Rattle.mh_resolve_cells.specs.code.LookTallies.{AreShifts}
use Rattle.mh_lint_states.specs.code.ClosedStates.{IsClosedState}
use Rattle.mh_lint_states.specs.code.ComparedPairs.{ItemsCompare, MarksPairs}
use Rattle.mh_lint_states.specs.code.ShownStates.{StateCompares}
use Rattle.mh_lint_states.specs.declared.comparisons.ComparedLevels.{ComparedLevels}
use Rattle.mh_lint_states.proofs.MarkedPairs.{pairs_same}

module _ (g : Grammar) (a : Automaton) (s : ℕ) (closed : Kernel) (shifts : List (Option ℕ)) (is : IsClosedState g a s closed) (of : AreShifts (length g.tokens) (edges_at a s) shifts) where
  -- A token with a shift is a token of the grammar.
  shifted : (z j : ℕ) → get_or shifts z None ≡ Some j → z < length g.tokens
  shifted z j e = elim (cases_lt z (length shifts)) [
    | inl l ↦ (let n = of.len in omega arith)
    | inr past ↦ (let none = get_or_past shifts z None (omega arith) in absurd cc)
  ]

  to : (p z : ℕ) → ItemsCompare g shifts closed.items p z → StateCompares g a s p z
  to p z x =
      let l = x.compares.look in
      let dot = x.complete ∙ ap (λ n. length (rhs_of (plain_of g) n)) (sym x.compares.production_is) in
      record {
        target = x.compares.shift.0;
        shift = sym (of.each z (shifted z x.compares.shift.0 x.compares.shift.1)) ∙ x.compares.shift.1;
        reduce = (is.items p (length (rhs_of (plain_of g) p)) (Token z)).0 (x.item, x.of_items, sym x.compares.production_is, dot, l);
        comparable = x.compares.comparable;
      }

  from : (p z : ℕ) → StateCompares g a s p z → ItemsCompare g shifts closed.items p z
  from p z x =
      let h = (is.items p (length (rhs_of (plain_of g) p)) (Token z)).1 x.reduce in
      let item = recursion_contains (IsKernelItem (plain_of g)) closed.items is.is_list.items h.0 h.1 in
      let known : z < length g.tokens = recursion_contains (IsLookBelow (length g.tokens)) h.0.looks item.looks (Token z) h.4 in
      record {
        item = h.0;
        of_items = h.1;
        complete = h.3 ∙ ap (λ n. length (rhs_of (plain_of g) n)) (sym h.2);
        compares = record { production_is = sym h.2; look = h.4; shift = (x.target, of.each z known ∙ x.shift); comparable = x.comparable };
      }

  pub state_pairs : (old new : ComparedLevels) → MarksPairs (ItemsCompare g shifts closed.items) old new → MarksPairs (StateCompares g a s) old new
  state_pairs old new h = pairs_same _ _ old new to from h
