-- Proves that a valid file spells an automaton of the grammar.
use Rattle.std.proofs.lemmas.List.{get_or_past}
use Rattle.std.proofs.lemmas.Bool.{cases_lt}
use Rattle.std.proofs.Common.{inl, inr, ◌≡◌, ◌<◌, ◌≤◌, ◌^◌, ℕ, List, [], ◌∷◌, length, sym, ap, ◌∙◌, subst, arith}
use Rattle.std.specs.Prelude.{slice_index_or, Some}
use Rattle.std.specs.List.{Contains}
use Rattle.mh_grammar.specs.declared.types.Symbol.{Symbol}
use Rattle.mh_grammar.specs.declared.types.Look.{Look}
use Rattle.mh_grammar.specs.declared.types.Look.TheVariants.{End}
use Rattle.mh_grammar.specs.declared.types.Grammar.{Grammar}
use Rattle.mh_grammar.specs.Plain.{plain_of}
use Rattle.mh_grammar.specs.Edges.{find_edge}
use Rattle.mh_grammar.proofs.Lists.{contains_none, contains_one, recursion_contains}
use Rattle.mh_items_kernels.specs.KernelTypes.{KernelItem}
use Rattle.mh_items_kernels.specs.KernelTypes.{Kernel}
use Rattle.mh_items_kernels.specs.KernelTypes.{Automaton}
use Rattle.mh_items_kernels.specs.Automaton.{IsAutomaton, kernel_at, edges_at, leads_to, HasMove, IsTarget}
use Rattle.mh_tables_core.specs.declared.parts.StateParts.{StateParts}
use Rattle.mh_resolve_cells.specs.States.{AreResolved}
use Rattle.mh_resolve_cells.proofs.ClosureItems.{kernel_past}
use Rattle.mh_tabfile_form.specs.declared.types.RawTable.{RawTable}
use Rattle.mh_validate_valid.specs.Valid.{IsValidFor, HasStates, AreKernels, AreEdgesAt, HasEdges, IsKernelAt, HasOnlyEndIfStart, without_edges}

pub resolved_of : (g : Grammar) (raw : RawTable) (a : Automaton) (parts : List StateParts) → IsValidFor g raw a parts → AreResolved g a raw.mode parts
unfolding kernel_at edges_at
resolved_of g raw a parts v = record {
  count = v.count ∙ sym v.kernels.count;
  each = λ s h. (v.each_state s (subst (λ n. s < n) v.kernels.count h)).resolved;
}

-- Kernels.

-- States past the last one have no edges.
edges_past : (a : Automaton) (s : ℕ) → length a.edges ≤ s → edges_at a s ≡ []
unfolding edges_at
edges_past a s h = get_or_past a.edges s [] h

-- The automaton has the kernels and the edges that the file spells.
pub record IsNamed (g : Grammar) (raw : RawTable) (a : Automaton) : Type 0 where
  pub states : HasStates g raw
  pub kernels : AreKernels g raw a.kernels
  pub rows : length a.edges ≡ length raw.states
  pub each : (s : ℕ) → s < length raw.states → HasEdges g raw a.kernels s (slice_index_or a.edges s [])

kernel_is : (g : Grammar) (raw : RawTable) (a : Automaton) → IsNamed g raw a → (s : ℕ) → s < length a.kernels → IsKernelAt g s (kernel_at a s)
unfolding kernel_at
kernel_is g raw a v s h = (v.kernels.each s (subst (λ n. s < n) v.kernels.count h)).kernel

place_known : (a : Automaton) (s : ℕ) (item : KernelItem) → Contains (kernel_at a s).items item → s < length a.kernels
place_known a s item c = elim (cases_lt s (length a.kernels)) [ inl h ↦ h | inr h ↦ absurd (contains_none item (subst (λ (k : Kernel). Contains k.items item) (kernel_past a s h) c)) ]

-- Edges.

pub moves_to : (g : Grammar) (a : Automaton) (s : ℕ) (X : Symbol) → HasMove (plain_of g) a s X → HasMove (plain_of g) (without_edges a.kernels) s X
unfolding kernel_at
moves_to g a s X m = record { production = m.production; dot = m.dot; look = m.look; moves = m.moves }

pub moves_from : (g : Grammar) (a : Automaton) (s : ℕ) (X : Symbol) → HasMove (plain_of g) (without_edges a.kernels) s X → HasMove (plain_of g) a s X
unfolding kernel_at
moves_from g a s X m = record { production = m.production; dot = m.dot; look = m.look; moves = m.moves }

target_from : (g : Grammar) (a : Automaton) (s : ℕ) (X : Symbol) (u : ℕ) → IsTarget (plain_of g) (without_edges a.kernels) s X u → IsTarget (plain_of g) a s X u
unfolding kernel_at
target_from g a s X u t = record { known = t.known; core = t.core; looks = t.looks }

edges_are : (g : Grammar) (raw : RawTable) (a : Automaton) → IsNamed g raw a → (s : ℕ) → s < length a.kernels → AreEdgesAt g a.kernels s (edges_at a s)
unfolding edges_at
edges_are g raw a v s h = (v.each s (subst (λ n. s < n) v.kernels.count h)).are_edges

no_edge : (X : Symbol) (u : ℕ) → find_edge [] X ≡ Some u → ⊥
no_edge X u e = cc

edge_known : (a : Automaton) (s : ℕ) (X : Symbol) (u : ℕ) → length a.edges ≡ length a.kernels → leads_to a s X ≡ Some u → s < length a.kernels
edge_known a s X u n e = elim (cases_lt s (length a.kernels)) [ inl h ↦ h | inr h ↦ absurd (no_edge X u (sym (ap (λ es. find_edge es X) (edges_past a s (omega (arith, n, h)))) ∙ e)) ]

-- Kernels and edges that pass the tests are an automaton of the grammar.
pub automaton_named : (g : Grammar) (raw : RawTable) → length raw.states < 2 ^ 32 → (a : Automaton) → IsNamed g raw a → IsAutomaton (plain_of g) a
automaton_named g raw small a v =
    let rows : length a.edges ≡ length a.kernels = v.rows ∙ sym v.kernels.count in
    let at = kernel_is g raw a v in
    record {
      enough_states = omega (arith, v.states, v.kernels.count);
      few = omega (arith, small, v.kernels.count);
      rows = rows;
      each = λ s h. (at s h).kernel;
      starts = λ i h. (at i (omega (arith, h, v.states, v.kernels.count))).start h;
      filled = λ s h. (at s h).filled;
      at_end = λ s p d look (item, c, e, f, l) low.
          let k = at s (place_known a s item c) in
          let one : item.looks ≡ End ∷ [] = recursion_contains (HasOnlyEndIfStart g) (kernel_at a s).items k.at_end item c (omega (arith, e, low)) in
          sym (contains_one End look (subst (λ (ls : List Look). Contains ls look) one l));
      moved = λ s p d h (item, c, e, f).
          let k = at s (place_known a s item c) in
          omega (arith, f, recursion_contains (λ (i : KernelItem). 0 < i.dot) (kernel_at a s).items (k.moved h) item c);
      order = λ s h. (edges_are g raw a v s h).order;
      edge = λ s X h m. (edges_are g raw a v s h).edge X (moves_to g a s X m);
      target = λ s X u e.
          let t = (edges_are g raw a v s (edge_known a s X u rows e)).target X u e in
          (moves_from g a s X t.0, target_from g a s X u t.1);
    }

-- The automaton of a valid file is an automaton of the grammar.
pub automaton_of : (g : Grammar) (raw : RawTable) → length raw.states < 2 ^ 32 → (a : Automaton) (parts : List StateParts) → IsValidFor g raw a parts → IsAutomaton (plain_of g) a
automaton_of g raw small a parts v = automaton_named g raw small a (record { states = v.states; kernels = v.kernels; rows = v.rows; each = λ s h. (v.each_state s h).has_edges })
