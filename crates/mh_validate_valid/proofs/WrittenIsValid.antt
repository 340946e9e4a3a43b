-- Proves that the written table file of an automaton and its table is valid.
use Rattle.std.proofs.Common.{◌≡◌, ◌<◌, ℕ, zero, suc, List, [], ◌∷◌, length, refl, sym, ap, ◌∙◌, subst, arith}
use Rattle.std.specs.Prelude.{slice_index_or}
use Rattle.std.specs.List.{Contains}
use Rattle.mh_grammar.specs.declared.types.Symbol.{Symbol}
use Rattle.mh_grammar.specs.declared.types.Look.{Look}
use Rattle.mh_grammar.specs.declared.types.Look.TheVariants.{End}
use Rattle.mh_grammar.specs.declared.types.Grammar.{Grammar}
use Rattle.mh_grammar.specs.declared.edges.Edge.{Edge}
use Rattle.mh_grammar.specs.Plain.{plain_of}
use Rattle.mh_grammar.specs.Edges.{IsRising, IsLookBefore}
use Rattle.mh_grammar.proofs.Lists.{recursion_contains, recursion-from}
use Rattle.mh_items_kernels.specs.KernelTypes.{KernelItem}
use Rattle.mh_items_kernels.specs.KernelTypes.{Kernel}
use Rattle.mh_items_kernels.specs.KernelTypes.{Automaton}
use Rattle.mh_items_kernels.specs.Kernels.{IsKernelItem}
use Rattle.mh_items_kernels.specs.Automaton.{IsAutomaton, kernel_at, edges_at, IsTarget, no_kernel}
use Rattle.mh_tables_core.specs.declared.parts.StateParts.{StateParts}
use Rattle.mh_tables_core.specs.Table.{no_state}
use Rattle.mh_resolve_cells.specs.declared.kinds.Mode.{Mode}
use Rattle.mh_resolve_cells.specs.States.{AreResolved}
use Rattle.mh_tabfile_form.specs.declared.types.RawState.{RawState}
use Rattle.mh_validate_valid.specs.Valid.{IsValidFor, AreEdgesAt, IsKernelAt, HasOnlyEndIfStart, without_edges, no_raw_state}
use Rattle.mh_tabfile_form.specs.TableContent.{raw_state_of, raw_states, raw_of}
use Rattle.mh_validate_valid.proofs.ValidIsAutomaton.{moves_to, moves_from}

state_at : (g : Grammar) (ks : List Kernel) (rows : List (List Edge)) (parts : List StateParts) → length rows ≡ length ks → length parts ≡ length ks → (s : ℕ) → s < length ks →
    slice_index_or (raw_states g ks rows parts) s no_raw_state ≡ raw_state_of g (slice_index_or ks s no_kernel) (slice_index_or rows s []) (slice_index_or parts s no_state)
state_at g [] rows parts e f s h = absurd (omega (arith, h))
state_at g (k ∷ ks) [] parts e f s h = absurd (omega (arith, e))
state_at g (k ∷ ks) (row ∷ rows) [] e f s h = absurd (omega (arith, f))
state_at g (k ∷ ks) (row ∷ rows) (p ∷ parts) e f zero h = refl
state_at g (k ∷ ks) (row ∷ rows) (p ∷ parts) e f (suc s) h = state_at g ks rows parts (omega (arith, e)) (omega (arith, f)) s (omega (arith, h))

states_count : (g : Grammar) (ks : List Kernel) (rows : List (List Edge)) (parts : List StateParts) → length rows ≡ length ks → length parts ≡ length ks → length (raw_states g ks rows parts) ≡ length ks
states_count g [] rows parts e f = refl
states_count g (k ∷ ks) [] parts e f = absurd (omega (arith, e))
states_count g (k ∷ ks) (row ∷ rows) [] e f = absurd (omega (arith, f))
states_count g (k ∷ ks) (row ∷ rows) (p ∷ parts) e f = ap suc (states_count g ks rows parts (omega (arith, e)) (omega (arith, f)))

-- If a nonempty rising list of looks contains only the end of the stream, it is the list of this look alone.
end_alone : (ls : List Look) → 0 < length ls → IsRising IsLookBefore ls → ((l : Look) → Contains ls l → l ≡ End) → ls ≡ End ∷ []
end_alone [] some r h = absurd (omega (arith, some))
end_alone (l ∷ []) some r h = ap (λ k. k ∷ []) (h l (0, omega arith, refl))
end_alone (l ∷ m ∷ ls) some (r, rs) h = absurd (subst (λ k. IsLookBefore k m) (h l (0, omega arith, refl)) r.0)

kernel_of_state : (g : Grammar) (a : Automaton) → IsAutomaton (plain_of g) a → (s : ℕ) → s < length a.kernels → IsKernelAt g s (kernel_at a s)
kernel_of_state g a h s known =
    let items = (kernel_at a s).items in
    record {
      kernel = h.each s known;
      filled = h.filled s known;
      at_end = recursion-from (HasOnlyEndIfStart g) items (λ item c low.
          let k = recursion_contains (IsKernelItem (plain_of g)) items (h.each s known).items item c in
          end_alone item.looks k.some k.rising (λ l at. h.at_end s item.production item.dot l (item, c, refl, refl, at) low));
      start = λ low. h.starts s low;
      moved = λ high. recursion-from (λ (i : KernelItem). 0 < i.dot) items (λ item c. h.moved s item.production item.dot high (item, c, refl, refl));
    }

target_to : (g : Grammar) (a : Automaton) (s : ℕ) (X : Symbol) (u : ℕ) → IsTarget (plain_of g) a s X u → IsTarget (plain_of g) (without_edges a.kernels) s X u
unfolding kernel_at
target_to g a s X u t = record { known = t.known; core = t.core; looks = t.looks }

edges_of_state : (g : Grammar) (a : Automaton) → IsAutomaton (plain_of g) a → (s : ℕ) → s < length a.kernels → AreEdgesAt g a.kernels s (edges_at a s)
edges_of_state g a h s known = record {
  order = h.order s known;
  edge = λ X m. h.edge s X known (moves_from g a s X m);
  target = λ X u e. let t = h.target s X u e in (moves_to g a s X t.0, target_to g a s X u t.1);
}

-- The content written for an automaton and its table is valid for the grammar.
pub written_is_valid_for : (g : Grammar) (a : Automaton) (mode : Mode) (parts : List StateParts) → IsAutomaton (plain_of g) a → AreResolved g a mode parts → IsValidFor g (raw_of g a mode parts) a parts
unfolding kernel_at edges_at
written_is_valid_for g a mode parts h r =
    let count = states_count g a.kernels a.edges parts h.rows r.count in
    let inside : (s : ℕ) → s < length (raw_states g a.kernels a.edges parts) → s < length a.kernels = λ s l. subst (λ n. s < n) count l in
    let at = λ (s : ℕ) (l : s < length (raw_states g a.kernels a.edges parts)). state_at g a.kernels a.edges parts h.rows r.count s (inside s l) in
    record {
      header = record { tokens = refl; costs = refl; starts = refl; productions = refl };
      states = omega (arith, h.enough_states, count);
      kernels = record { count = sym count; each = λ s l. record { spelled = ap (λ (x : RawState). x.items) (at s l); kernel = kernel_of_state g a h s (inside s l) } };
      rows = h.rows ∙ sym count;
      count = r.count ∙ sym count;
      each_state = λ s l. record {
        has_edges = record { spelled = ap (λ (x : RawState). x.edges) (at s l); are_edges = edges_of_state g a h s (inside s l) };
        resolved = r.each s (inside s l);
        has_cells = ap (λ (x : RawState). x.cells) (at s l);
      };
    }
