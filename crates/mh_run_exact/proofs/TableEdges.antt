-- Lemmas on the edges of a table of an automaton, and on kernels of one item.
use Rattle.std.proofs.Common.{◌≡◌, ℕ, ◌<◌, ◌≤◌, List, [], ◌∷◌, length, refl, ap, sym, subst, arith, ◌∙◌, inl, inr}
use Rattle.std.specs.List.{Contains}
use Rattle.std.proofs.lemmas.Bool.{cases_lt}
use Rattle.std.proofs.lemmas.List.{get_or_past}
use Rattle.mh_grammar.specs.declared.types.Symbol.{Symbol}
use Rattle.mh_grammar.specs.declared.types.Look.{Look}
use Rattle.mh_grammar.specs.declared.types.Look.TheVariants.{End}
use Rattle.mh_grammar.specs.declared.types.Grammar.{Grammar}
use Rattle.mh_grammar.specs.declared.edges.Edge.{Edge}
use Rattle.mh_grammar.specs.Edges.{find_edge}
use Rattle.mh_grammar.specs.Plain.{PlainGrammar, plain_of}
use Rattle.mh_items_kernels.specs.KernelTypes.{KernelItem}
use Rattle.mh_items_kernels.specs.KernelTypes.{Kernel}
use Rattle.mh_items_kernels.specs.KernelTypes.{Automaton}
use Rattle.mh_items_kernels.specs.Kernels.{Holds, HasCoreItem}
use Rattle.mh_items_kernels.specs.Automaton.{IsAutomaton, edges_at, kernel_of, leads_to}
use Rattle.mh_tables_core.specs.declared.parts.StateParts.{StateParts}
use Rattle.mh_tables_core.specs.Table.{TableData, no_state, state_at, edge_of}
use Rattle.mh_resolve_cells.specs.declared.kinds.Mode.{Mode}
use Rattle.mh_resolve_cells.specs.States.{IsTableOf}
use Rattle.mh_grammar.proofs.Lists.{contains_at, contains_one}

-- The automaton and the table have the same edges.
pub record HasEdgesOf (t : TableData) (a : Automaton) : Type 0 where
  pub automaton : IsAutomaton t.grammar a
  pub edges : (s : ℕ) (X : Symbol) → edge_of t s X ≡ leads_to a s X

edges_past : (a : Automaton) (s : ℕ) → length a.edges ≤ s → edges_at a s ≡ []
unfolding edges_at
edges_past a s h = get_or_past a.edges s [] h

state_past : (t : TableData) (s : ℕ) → length t.states ≤ s → state_at t s ≡ no_state
state_past t s h = get_or_past t.states s no_state h

pub has_edges_of : (g : Grammar) (a : Automaton) (mode : Mode) (t : TableData) → IsAutomaton (plain_of g) a → IsTableOf g a mode t → HasEdgesOf t a
unfolding edge_of
has_edges_of g a mode t h is = record {
  automaton = subst (λ (p : PlainGrammar). IsAutomaton p a) (sym is.grammar) h;
  edges = λ s X. elim (cases_lt s (length a.kernels)) [
    | inl lt ↦ ap (λ (es : List Edge). find_edge es X) (is.states.each s lt).edges
    | inr ge ↦ (
        let count = is.states.count in
        let rows = h.rows in
        let below : (state_at t s).edges ≡ [] = ap (λ (parts : StateParts). parts.edges) (state_past t s (omega arith)) in
        let above : edges_at a s ≡ [] = edges_past a s (omega arith) in
        ap (λ (es : List Edge). find_edge es X) (below ∙ sym above))
  ];
}

-- The item (p, d, look) is the one with production q, dot e and the end of the stream as its look.
pub record IsSingleItem (q e p d : ℕ) (look : Look) : Type 0 where
  pub production : p ≡ q
  pub dot : d ≡ e
  pub at_end : look ≡ End

abbrev pub kernel_with : ℕ → ℕ → Kernel
kernel_with q e = record { items = record { production = q; dot = e; looks = End ∷ [] } ∷ [] }

pub Holds-kernel_with : (q e : ℕ) → Holds (kernel_with q e) q e End
Holds-kernel_with q e =
    let item : KernelItem = record { production = q; dot = e; looks = End ∷ [] } in
    (item, contains_at (item ∷ []) 0 item refl, refl, refl, contains_at (End ∷ []) 0 End refl)

pub HasCoreItem-kernel_with : (q e p d : ℕ) → HasCoreItem (kernel_with q e) p d → (p ≡ q) × (d ≡ e)
HasCoreItem-kernel_with q e p d (item, there, x, y) =
    let one : KernelItem = record { production = q; dot = e; looks = End ∷ [] } in
    let same : item ≡ one = sym (contains_one one item there) in
    (sym x ∙ ap (λ (i : KernelItem). i.production) same, sym y ∙ ap (λ (i : KernelItem). i.dot) same)

pub Holds-kernel_with_only : (q e p d : ℕ) (look : Look) → Holds (kernel_with q e) p d look → IsSingleItem q e p d look
Holds-kernel_with_only q e p d look (item, there, x, y, l) =
    let one : KernelItem = record { production = q; dot = e; looks = End ∷ [] } in
    let same : item ≡ one = sym (contains_one one item there) in
    let place = HasCoreItem-kernel_with q e p d (item, there, x, y) in
    let looks : Contains (End ∷ []) look = subst (λ (i : KernelItem). Contains i.looks look) same l in
    record { production = place.0; dot = place.1; at_end = sym (contains_one End look looks) }

pub start_item : (g : PlainGrammar) (a : Automaton) → IsAutomaton g a → (i : ℕ) → i < length g.starts → kernel_of a i i 0 End
start_item g a h i lt = subst (λ (k : Kernel). Holds k i 0 End) (sym (h.starts i lt)) (Holds-kernel_with i 0)

pub start_item_only : (g : PlainGrammar) (a : Automaton) → IsAutomaton g a → (i p d : ℕ) (look : Look) → i < length g.starts → kernel_of a i p d look → IsSingleItem i 0 p d look
start_item_only g a h i p d look lt held = Holds-kernel_with_only i 0 p d look (subst (λ (k : Kernel). Holds k p d look) (h.starts i lt) held)
