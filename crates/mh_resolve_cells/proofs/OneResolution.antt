-- Proves that the resolution of a state is unique.
use Rattle.std.proofs.Common.{◌≡◌, ℕ, ◌<◌, ◌⊎◌, List, length, get_or, Option, Some, None, refl, ap, sym, ◌∙◌, arith, inl, inr}
use Rattle.std.proofs.lemmas.List.{same_lists, get_or_default}
use Rattle.mh_grammar.specs.declared.types.Grammar.{Grammar}
use Rattle.mh_items_kernels.specs.KernelTypes.{Automaton}
use Rattle.mh_items_kernels.specs.Automaton.{kernel_at}
use Rattle.mh_tables_core.specs.Table.{no_state}
use Rattle.mh_grammar.specs.declared.types.Look.{Look}
use Rattle.mh_grammar.specs.declared.types.Look.TheVariants.{Token}
use Rattle.mh_tables_core.specs.declared.parts.Action.{Action}
use Rattle.mh_tables_core.specs.declared.parts.Action.TheVariants.{Shift, Reduce, Refuse}
use Rattle.mh_tables_core.specs.declared.parts.Fallback.{Fallback}
use Rattle.mh_tables_core.specs.declared.parts.Fallback.TheVariants as fallbacks
use Rattle.mh_items_kernels.specs.KernelTypes.{Kernel}
use Rattle.mh_tables_core.specs.declared.parts.StateParts.{StateParts}
use Rattle.mh_resolve_cells.specs.declared.kinds.Mode.{Mode}
use Rattle.std.proofs.lemmas.Bool.{cases_lt}
use Rattle.mh_resolve_cells.specs.Cells.{IsConflict}
use Rattle.mh_resolve_cells.specs.States.{Raw, IsChosenOn, State, state_of, AreResolved, HasDefault, IsFallback, IsErrorReduction, FillsCell, IsCell, IsResolved, IsTableOf}
use Rattle.mh_grammar.specs.Edges.{IsLookBefore}
use Rattle.mh_tables_core.specs.Table.{TableData}
use Rattle.mh_resolve_cells.specs.declared.conflicts.Conflict.{Conflict}
use Rattle.mh_resolve_cells.specs.Conflicts.{AreConflicts, IsConflictBefore, IsKindBefore}
use Rattle.mh_grammar.proofs.EdgeOrder.{look_order_asymmetric}
use Rattle.mh_grammar.proofs.Lists.{rising_same}
use Rattle.mh_resolve_cells.proofs.IsResolved.{chosen_unique, chosen_is_raw}

errors_once : (s : State) (p q : ℕ) → IsErrorReduction s p → IsErrorReduction s q → p ≡ q
errors_once s p q f g =
    elim (f.lowest q g.rank g.candidate) [
      | inl e ↦ sym e
      | inr lt ↦ elim (g.lowest p f.rank f.candidate) [ inl e ↦ e | inr gt ↦ omega arith ]
    ]

fills_once : (mode : Mode) (s : State) (z : ℕ) (a b : Action) → FillsCell mode s z a → FillsCell mode s z b → a ≡ b
fills_once mode s z a b (inl t) (inl u) = chosen_unique s (Token z) a b t u
fills_once mode s z a b (inl t) (inr f) = absurd (f.0 a (chosen_is_raw s (Token z) a t))
fills_once mode s z a b (inr f) (inl u) = absurd (f.0 b (chosen_is_raw s (Token z) b u))
fills_once mode s z a b (inr f) (inr g) = let same = errors_once s f.2 g.2 f.4 g.4 in f.3 ∙ ap Reduce same ∙ sym g.3

pub cell_once : (mode : Mode) (s : State) (z : ℕ) (a b : Action) → IsCell mode s z a → IsCell mode s z b → a ≡ b
cell_once mode s z a b (inl f) (inl g) = fills_once mode s z a b f g
cell_once mode s z a b (inl f) (inr n) = absurd (n.1 a f)
cell_once mode s z a b (inr n) (inl g) = absurd (n.1 b g)
cell_once mode s z a b (inr n) (inr m) = n.0 ∙ sym m.0

default_once : (mode : Mode) (s : State) (p q : ℕ) → HasDefault mode s p → HasDefault mode s q → p ≡ q
default_once mode s p q d e = let same : Reduce q ≡ Reduce p = d.all e.look (Reduce q) e.some in cc

pub fallback_once : (mode : Mode) (s : State) (f g : Option Fallback) → IsFallback mode s f → IsFallback mode s g → f ≡ g
fallback_once mode s None None d e = refl
fallback_once mode s None (Some fallbacks.Accept) d e = absurd (d e.0 e.2)
fallback_once mode s None (Some (fallbacks.Reduce q)) d e = absurd (d q e.1)
fallback_once mode s (Some fallbacks.Accept) None d e = absurd (e d.0 d.2)
fallback_once mode s (Some fallbacks.Accept) (Some fallbacks.Accept) d e = refl
fallback_once mode s (Some fallbacks.Accept) (Some (fallbacks.Reduce q)) d e = let same = default_once mode s d.0 q d.2 e.1 in absurd (omega (arith, d.1, e.0))
fallback_once mode s (Some (fallbacks.Reduce p)) None d e = absurd (e p d.1)
fallback_once mode s (Some (fallbacks.Reduce p)) (Some fallbacks.Accept) d e = let same = default_once mode s p e.0 d.1 e.2 in absurd (omega (arith, d.0, e.1))
fallback_once mode s (Some (fallbacks.Reduce p)) (Some (fallbacks.Reduce q)) d e = let same = default_once mode s p q d.1 e.1 in ap (λ n. Some (fallbacks.Reduce n)) same

pub resolved_once : (mode : Mode) (s : State) (kernel : Kernel) (a b : StateParts) → IsResolved mode s kernel a → IsResolved mode s kernel b → a ≡ b
resolved_once mode s kernel a b p q =
    let w = p.width in
    let v = q.width in
    let cells : a.cells ≡ b.cells = same_lists a.cells b.cells (w ∙ sym v) (λ z d lt.
    let here : z < length s.grammar.tokens = omega arith in
    get_or_default a.cells z d Refuse lt ∙ cell_once mode s z (get_or a.cells z Refuse) (get_or b.cells z Refuse) (p.cells z here) (q.cells z here) ∙ get_or_default b.cells z Refuse d (omega arith)) in
    let fallback = fallback_once mode s a.fallback b.fallback p.fallback q.fallback in
    let edges = p.edges ∙ sym q.edges in
    let core = p.core ∙ sym q.core in
    λ i. record { cells = cells i; fallback = fallback i; edges = edges i; core = core i }

-- An automaton has at most one list of resolved states.
pub resolved_states_once : (g : Grammar) (a : Automaton) (mode : Mode) (xs ys : List StateParts) → AreResolved g a mode xs → AreResolved g a mode ys → xs ≡ ys
resolved_states_once g a mode xs ys p q =
    let n = p.count in
    let m = q.count in
    same_lists xs ys (n ∙ sym m) (λ s d lt.
    let here : s < length a.kernels = omega arith in
    get_or_default xs s d no_state lt ∙ resolved_once mode (state_of g a s) (kernel_at a s) (get_or xs s no_state) (get_or ys s no_state) (p.each s here) (q.each s here) ∙ get_or_default ys s no_state d (omega arith))

-- Without a conflict the raw action of a cell is chosen.
pub raw_is_chosen : (s : State) (look : Look) → (IsConflict (Raw s look) → ⊥) → (a : Action) → Raw s look a → IsChosenOn s look a
raw_is_chosen s look clear (Shift j) r = (r, λ p h. absurd (clear (record { one = Shift j; other = Reduce p; raw_one = r; raw_other = h; differ = λ e. cc })))
raw_is_chosen s look clear (Reduce p) r = (
  (r, λ j h. absurd (clear (record { one = Shift j; other = Reduce p; raw_one = h; raw_other = r; differ = λ e. cc }))),
  λ q h. elim (cases_lt q p) [
    | inl lt ↦ absurd (clear (record { one = Reduce q; other = Reduce p; raw_one = h.0; raw_other = r; differ = λ e. let same : q ≡ p = cc in omega arith }))
    | inr ge ↦ ge
  ],
)
raw_is_chosen s look clear Refuse r = absurd r

-- An automaton has at most one table.
pub one_table : (g : Grammar) (a : Automaton) (mode : Mode) (x y : TableData) → IsTableOf g a mode x → IsTableOf g a mode y → x ≡ y
one_table g a mode x y p q =
    let grammar : x.grammar ≡ y.grammar = p.grammar ∙ sym q.grammar in
    let costs : x.costs ≡ y.costs = p.costs ∙ sym q.costs in
    let states : x.states ≡ y.states = resolved_states_once g a mode x.states y.states p.states q.states in
    λ i. record { grammar = grammar i; costs = costs i; states = states i }

looks_same : (a b : Look) → a ≡ b → IsLookBefore a b → ⊥
looks_same a b e h = let r : IsLookBefore b b = rw e at h in look_order_asymmetric b b r r

conflicts_apart : (c d : Conflict) → IsConflictBefore c d → IsConflictBefore d c → ⊥
conflicts_apart c d (inl h) (inl k) = omega arith
conflicts_apart c d (inl h) (inr k) = omega (arith, k.0)
conflicts_apart c d (inr h) (inl k) = omega (arith, h.0)
conflicts_apart c d (inr h) (inr k) = on_looks h.1 k.1
  where
    on_looks : IsLookBefore c.look d.look ⊎ ((c.look ≡ d.look) × IsKindBefore c.kind d.kind) → IsLookBefore d.look c.look ⊎ ((d.look ≡ c.look) × IsKindBefore d.kind c.kind) → ⊥
    on_looks (inl x) (inl y) = look_order_asymmetric c.look d.look x y
    on_looks (inl x) (inr y) = looks_same c.look d.look (sym y.0) x
    on_looks (inr x) (inl y) = looks_same d.look c.look (sym x.0) y
    on_looks (inr x) (inr y) = y.1.0 x.1.1

-- An automaton has at most one list of conflicts.
pub conflicts_once : (g : Grammar) (a : Automaton) (xs ys : List Conflict) → AreConflicts g a xs → AreConflicts g a ys → xs ≡ ys
conflicts_once g a xs ys p q = rising_same IsConflictBefore conflicts_apart xs ys p.order q.order (λ c. ((λ h. (q.members c).1 ((p.members c).0 h)), (λ h. (p.members c).1 ((q.members c).0 h))))
