-- Closed states: their items, and the looks of their conflicts.
use Rattle.std.proofs.Common.{◌≡◌, ℕ, ◌<◌, ◌↔◌, Bool, IsTrue, List, Option, length, get_or, sym, ap, ◌∙◌, subst, inl, inr}
use Rattle.std.specs.Prelude.{is_some}
use Rattle.mh_grammar.proofs.Lists.{recursion_contains}
use Rattle.mh_grammar.specs.declared.types.Grammar.{Grammar}
use Rattle.mh_grammar.specs.Edges.{find_edge}
use Rattle.mh_grammar.specs.declared.edges.Edge.{Edge}
use Rattle.mh_grammar.specs.declared.types.Look.{Look}
use Rattle.mh_grammar.specs.declared.types.Look.TheVariants.{Token}
use Rattle.mh_grammar.specs.declared.types.Symbol.TheVariants.{T}
use Rattle.mh_grammar.specs.ItemSets.{AreSameItems, Close}
use Rattle.mh_grammar.specs.Plain.{IsLookBelow, plain_of}
use Rattle.mh_items_kernels.specs.Automaton.{closure_of, edges_at}
use Rattle.mh_items_kernels.specs.KernelTypes.{Automaton, Kernel}
use Rattle.mh_items_kernels.specs.Kernels.{Holds, IsItemList, IsKernelItem}
use Rattle.mh_resolve_cells.specs.States.{HasConflictOn, shift_on, state_of}
use Rattle.mh_resolve_cells.specs.declared.kinds.ConflictKind.TheVariants.{Unsolved}
use Rattle.mh_resolve_cells.proofs.AreResolved.{kernel_is}
use Rattle.mh_lint_states.specs.ConflictKinds.{CanShift}
use Rattle.mh_lint_states.specs.code.ClosedStates.{IsClosedState}
use Rattle.mh_lint_states.proofs.MarkedPairs.{some_from}

-- The closure of the kernel of a state has the items of the state.
pub closed_is : (g : Grammar) (a : Automaton) (n : ℕ) (kernel closed : Kernel) → n < length a.kernels → kernel ≡ get_or a.kernels n kernel → IsItemList (plain_of g) closed → AreSameItems (Holds closed) (Close (plain_of g) (Holds kernel)) → IsClosedState g a n closed
closed_is g a n kernel closed known at list same = record {
  is_state = known;
  is_list = list;
  items = subst (λ (k : Kernel). AreSameItems (Holds closed) (Close (plain_of g) (Holds k))) (sym (kernel_is a n kernel known at)) same;
}

module _ (g : Grammar) (a : Automaton) (s : ℕ) (closed : Kernel) (is : IsClosedState g a s closed) where
  -- A look of an item of the closure is one of the grammar.
  look_known : (p d : ℕ) (look : Look) → closure_of (plain_of g) a s p d look → IsLookBelow (length g.tokens) look
  look_known p d look c =
      let h = (is.items p d look).1 c in
      let known = recursion_contains (IsKernelItem (plain_of g)) closed.items is.is_list.items h.0 h.1 in
      recursion_contains (IsLookBelow (length g.tokens)) h.0.looks known.looks look h.4

  -- A conflict that levels do not decide has a reduction on its look.
  pub conflict_look : (look : Look) → HasConflictOn (state_of g a s) look Unsolved → IsLookBelow (length g.tokens) look
  conflict_look look (inl unknown) = look_known _ _ look unknown.reduce
  conflict_look look (inr two) = look_known _ _ look two.one_remains.0

-- A state can shift a token exactly if it has an edge on the token.
pub shifts_is : (g : Grammar) (a : Automaton) (s : ℕ) (edges : List Edge) (look : Look) (z : ℕ) (found : Option ℕ) (answer : Bool) → edges_at a s ≡ edges → look ≡ Token z → found ≡ find_edge edges (T z) → answer ≡ is_some found → IsTrue answer ↔ CanShift g a s look
shifts_is g a s edges look z found answer same token is test =
    let here : shift_on (edges_at a s) look ≡ found = ap (shift_on (edges_at a s)) token ∙ ap (λ es. find_edge es (T z)) same ∙ sym is in (
      λ yes. (let some = some_from found (sym test ∙ yes) in (some.0, here ∙ some.1)),
      λ can. test ∙ ap is_some (sym here ∙ can.1),
    )
