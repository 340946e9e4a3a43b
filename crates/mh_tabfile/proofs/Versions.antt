-- Proves that a valid file of version 1 says what the file of version 2 with the costs of the grammar says.
use Rattle.std.proofs.Common.{◌≡◌, ◌<◌, ℕ, suc, List, [], ◌∷◌, length, map, None, refl, sym, ap, ◌∙◌, subst, arith}
use Rattle.std.specs.Prelude.{slice_index_or}
use Rattle.mh_grammar.specs.declared.types.Grammar.{Grammar}
use Rattle.mh_grammar.specs.declared.edges.Edge.{Edge}
use Rattle.mh_items_kernels.specs.KernelTypes.{Kernel, Automaton}
use Rattle.mh_items_kernels.specs.Automaton.{no_kernel}
use Rattle.mh_tables_core.specs.declared.parts.StateParts.{StateParts}
use Rattle.mh_tables_core.specs.Table.{no_state}
use Rattle.mh_tabfile_form.specs.declared.types.RawItem.{RawItem}
use Rattle.mh_tabfile_form.specs.declared.types.RawEdge.{RawEdge}
use Rattle.mh_tabfile_form.specs.declared.types.RawCells.{RawCells}
use Rattle.mh_tabfile_form.specs.declared.types.RawState.{RawState}
use Rattle.mh_tabfile_form.specs.declared.types.RawTable.{RawTable}
use Rattle.mh_tabfile_form.specs.TableContent.{raw_of, raw_item, raw_edge, raw_cells, raw_states, raw_state_of}
use Rattle.mh_validate_valid.specs.Valid.{AreCostsOf, IsValidFor, no_raw_state, raw_state}
use Rattle.mh_tabfile.specs.Versions.{with_costs}

-- Two contents that are equal but for their costs are valid for the same automaton, if the costs of the second are
-- those of the grammar.
valid_but_for_costs : (g : Grammar) (raw other : RawTable) (a : Automaton) (parts : List StateParts) → other ≡ with_costs g raw → IsValidFor g raw a parts → IsValidFor g other a parts
valid_but_for_costs g raw other a parts e v = subst (λ (r : RawTable). IsValidFor g r a parts) (sym e) (record {
  header = record { tokens = v.header.tokens; costs = refl; starts = v.header.starts; productions = v.header.productions };
  states = v.states;
  kernels = record { count = v.kernels.count; each = λ s l. let k = v.kernels.each s l in record { spelled = k.spelled; kernel = k.kernel } };
  rows = v.rows;
  count = v.count;
  each_state = λ s l. let r = v.each_state s l in record { has_edges = record { spelled = r.has_edges.spelled; are_edges = r.has_edges.are_edges }; resolved = r.resolved; has_cells = r.has_cells };
})

pub valid_with_costs : (g : Grammar) (raw : RawTable) (a : Automaton) (parts : List StateParts) → IsValidFor g raw a parts → IsValidFor g (with_costs g raw) a parts
valid_with_costs g raw a parts v = valid_but_for_costs g raw (with_costs g raw) a parts refl v

pub valid_without_costs : (g : Grammar) (raw : RawTable) (a : Automaton) (parts : List StateParts) → raw.costs ≡ None → IsValidFor g (with_costs g raw) a parts → IsValidFor g raw a parts
valid_without_costs g raw a parts e v = record {
  header = record { tokens = v.header.tokens; costs = subst (AreCostsOf g) (sym e) tt; starts = v.header.starts; productions = v.header.productions };
  states = v.states;
  kernels = record { count = v.kernels.count; each = λ s l. let k = v.kernels.each s l in record { spelled = k.spelled; kernel = k.kernel } };
  rows = v.rows;
  count = v.count;
  each_state = λ s l. let r = v.each_state s l in record { has_edges = record { spelled = r.has_edges.spelled; are_edges = r.has_edges.are_edges }; resolved = r.resolved; has_cells = r.has_cells };
}

-- A state is the one that is written of a kernel, edges and parts, if its items, edges and cells are.
state_is : (g : Grammar) (s : RawState) (k : Kernel) (row : List Edge) (p : StateParts) → s.items ≡ map (raw_item g) k.items → s.edges ≡ map (raw_edge g) row → s.cells ≡ raw_cells g p → s ≡ raw_state_of g k row p
state_is g s k row p items edges cells =
    ap (λ (xs : List RawItem). record { items = xs; edges = s.edges; cells = s.cells }) items
    ∙ ap (λ (xs : List RawEdge). record { items = map (raw_item g) k.items; edges = xs; cells = s.cells }) edges
    ∙ ap (λ (c : RawCells). record { items = map (raw_item g) k.items; edges = map (raw_edge g) row; cells = c }) cells

-- A list of states is the one that is written of kernels, edges and parts, if each state is.
states_are : (g : Grammar) (ks : List Kernel) (rows : List (List Edge)) (parts : List StateParts) (states : List RawState) → length ks ≡ length states → length rows ≡ length states → length parts ≡ length states →
    ((s : ℕ) → s < length states → slice_index_or states s no_raw_state ≡ raw_state_of g (slice_index_or ks s no_kernel) (slice_index_or rows s []) (slice_index_or parts s no_state)) →
    states ≡ raw_states g ks rows parts
states_are g [] rows parts [] e f d at = refl
states_are g (k ∷ ks) rows parts [] e f d at = absurd (omega (arith, e))
states_are g [] rows parts (s ∷ states) e f d at = absurd (omega (arith, e))
states_are g (k ∷ ks) [] parts (s ∷ states) e f d at = absurd (omega (arith, f))
states_are g (k ∷ ks) (row ∷ rows) [] (s ∷ states) e f d at = absurd (omega (arith, d))
states_are g (k ∷ ks) (row ∷ rows) (p ∷ parts) (s ∷ states) e f d at =
    let first : s ≡ raw_state_of g k row p = at 0 (omega arith) in
    let rest : states ≡ raw_states g ks rows parts = states_are g ks rows parts states (omega (arith, e)) (omega (arith, f)) (omega (arith, d)) (λ n l. at (suc n) (omega (arith, l))) in
    ap (λ (x : RawState). x ∷ states) first ∙ ap (λ (xs : List RawState). raw_state_of g k row p ∷ xs) rest

-- A valid content with the costs of the grammar is the content that is written of its automaton and its table.
pub valid_is_written : (g : Grammar) (raw : RawTable) (a : Automaton) (parts : List StateParts) → IsValidFor g raw a parts → with_costs g raw ≡ raw_of g a raw.mode parts
valid_is_written g raw a parts v =
    let at : (s : ℕ) → s < length raw.states → raw_state raw s ≡ raw_state_of g (slice_index_or a.kernels s no_kernel) (slice_index_or a.edges s []) (slice_index_or parts s no_state) =
    λ s l. state_is g (raw_state raw s) (slice_index_or a.kernels s no_kernel) (slice_index_or a.edges s []) (slice_index_or parts s no_state) (v.kernels.each s l).spelled (v.each_state s l).has_edges.spelled (v.each_state s l).has_cells in
    let states : raw.states ≡ raw_states g a.kernels a.edges parts = states_are g a.kernels a.edges parts raw.states v.kernels.count v.rows v.count at in
    let tokens = v.header.tokens in
    let starts = v.header.starts in
    let productions = v.header.productions in
    cc
