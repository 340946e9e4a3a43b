-- Proves that the states at the end of the steps, renumbered, are an automaton of the grammar.
use Rattle.std.proofs.Common.{◌≡◌, ◌^◌, ◌<◌, ◌≤◌, ℕ, List, Some, map, length, sym, ap, ◌∙◌, arith, inl, inr}
use Rattle.std.specs.List.{slice_get}
use Rattle.std.specs.Option.{option_map}
use Rattle.std.proofs.lemmas.Bool.{cases_lt}
use Rattle.std.proofs.lemmas.List.{length-map}
use Rattle.std.proofs.lemmas.Option.{slice_get_within, slice_get-map}
use Rattle.mh_grammar.specs.declared.types.Symbol.{Symbol}
use Rattle.mh_grammar.specs.declared.edges.Edge.{Edge}
use Rattle.mh_grammar.specs.Plain.{PlainGrammar}
use Rattle.mh_grammar.specs.Numbering.{AreNumbersOf}
use Rattle.mh_grammar.proofs.Lists.{contains_none, zip_left, zip_right, zip_length}
use Rattle.mh_grammar.proofs.NumberingUnique.{take_get}
use Rattle.mh_items_kernels.specs.KernelTypes.{Kernel, Automaton}
use Rattle.mh_items_kernels.specs.Kernels.{HasCoreItem}
use Rattle.mh_items_kernels.specs.Automaton.{kernel_at, edges_at, leads_to, start_kernel, HasMove, IsTarget, IsAutomaton}
use Rattle.mh_items_kernels.specs.Collection.{targets_of, edge_symbols}
use Rattle.mh_canon.proofs.IsEdgeRow.{rising_edges, find_edge-contains}
use Rattle.mh_canon.proofs.CollectionIsCanonical.{slice_get-kernel_at, kernel_at-slice_get, slice_get-edges_at, items_within, edges_within}
use Rattle.mh_canon.proofs.ItemSets.{Holds-core_item}
use Rattle.mh_pager.specs.MergeSteps.{IsMerged, HasSymbolsOfRow, start_numbers}
use Rattle.mh_pager.proofs.IsRenumbered.{renamed_to, renamed_from}
use Rattle.mh_pager.proofs.HasItsEdges.{IsRowFor, HasItsEdges, found_target}
use Rattle.mh_pager.proofs.StepsInvariant.{IsSound, StepsInvariant, steps_invariant, start_numbers_at}

module _ (g : PlainGrammar) (a : Automaton) (m : IsMerged g a) where
  run : StepsInvariant g m.last
  run = steps_invariant g m.first m.last m.is_initial m.steps

  settled : (n : ℕ) (k : Kernel) → slice_get m.last.kernels n ≡ Some k → HasItsEdges g m.last n k
  settled n k at = elim (run.settled n k at) [ inl c ↦ absurd (contains_none n (rw m.done at c)) | inr s ↦ s ]

  states_len : length m.states ≡ length a.kernels
  states_len = zip_length (λ n k. slice_get m.last.kernels n ≡ Some k) m.states a.kernels m.kernels

  -- State s of the automaton is state n of the construction.
  pub record IsState (s n : ℕ) : Type 0 where
    pub number : slice_get m.states s ≡ Some n
    pub kernel : slice_get m.last.kernels n ≡ Some (kernel_at a s)

  pub old_number : (s : ℕ) → s < length a.kernels → (n : ℕ) × IsState s n
  old_number s l =
      let z = zip_right (λ n k. slice_get m.last.kernels n ≡ Some k) m.states a.kernels m.kernels s (kernel_at a s) (slice_get-kernel_at a s l) in
      (z.0, record { number = z.1; kernel = z.2 })

  pub new_number : (s n : ℕ) → slice_get m.states s ≡ Some n → (s < length a.kernels) × IsState s n
  new_number s n at =
      let z = zip_left (λ i k. slice_get m.last.kernels i ≡ Some k) m.states a.kernels m.kernels s n at in
      let l : s < length a.kernels = slice_get_within a.kernels s z.0 z.1 in
      (l, record { number = at; kernel = z.2 ∙ ap Some (sym (kernel_at-slice_get a s z.0 z.1)) })

  rows_len : length a.edges ≡ length a.kernels
  rows_len = sym (length-map a.edges targets_of) ∙ m.numbering.len ∙ states_len

  -- The edges of a state are those of the construction, renumbered.
  record HasRow (s : ℕ) : Type 0 where
    row : List Edge
    for : IsRowFor g m.last.kernels (kernel_at a s) row
    symbols : edge_symbols (edges_at a s) ≡ edge_symbols row
    names : AreNumbersOf m.states (targets_of (edges_at a s)) (targets_of row)

  has_row : (s : ℕ) → s < length a.kernels → HasRow s
  has_row s l =
      let n = old_number s l in
      let here : slice_get a.edges s ≡ Some (edges_at a s) = slice_get-edges_at a s (omega (arith, rows_len)) in
      let z = zip_left (HasSymbolsOfRow m.last.rows) m.states a.edges m.symbols s n.0 n.1.number in
      let edges : z.0 ≡ edges_at a s = (let one : Some z.0 ≡ Some (edges_at a s) = sym z.1 ∙ here in cc) in
      let on = z.2 in
      let set = settled n.0 (kernel_at a s) n.1.kernel in
      let same : on.row ≡ set.0 = (let one : Some on.row ≡ Some set.0 = sym on.at ∙ set.1 in cc) in
      let targets : slice_get (map targets_of a.edges) s ≡ Some (targets_of (edges_at a s)) = slice_get-map targets_of a.edges s ∙ ap (option_map targets_of) here in
      let to = m.numbering.rows s n.0 (targets_of (edges_at a s)) n.1.number targets in
      let next = to.next in
      let other : next.row ≡ set.0 = (let one : Some next.row ≡ Some set.0 = sym next.at ∙ set.1 in cc) in
      record {
        row = set.0;
        for = set.2;
        symbols = ap edge_symbols (sym edges) ∙ on.same ∙ ap edge_symbols same;
        names = rw (sym next.targets_are ∙ ap targets_of other) at to.numbers;
      }

  start_at : (i : ℕ) → i < length g.starts → slice_get m.states i ≡ Some i
  start_at i l = take_get (length (start_numbers g)) m.states i i (rw m.numbering.begins (start_numbers_at g i l))

  enough : length g.starts ≤ length a.kernels
  enough = elim (cases_lt (length a.kernels) (length g.starts)) [
    | inl l ↦ absurd (omega (arith, slice_get_within m.states (length a.kernels) (length a.kernels) (start_at (length a.kernels) l), states_len))
    | inr l ↦ l
  ]

  starts : (i : ℕ) → i < length g.starts → kernel_at a i ≡ start_kernel i
  starts i l =
      let s = new_number i i (start_at i l) in
      let one : Some (kernel_at a i) ≡ Some (start_kernel i) = sym s.1.kernel ∙ run.sound.starts i l in
      cc

  each : (s : ℕ) → s < length a.kernels → IsSound g (kernel_at a s)
  each s l = let n = old_number s l in run.sound.each n.0 (kernel_at a s) n.1.kernel

  -- A state of the automaton after the start states has, in the construction, a number after the numbers of the starts.
  later : (s n : ℕ) → slice_get m.states s ≡ Some n → length g.starts ≤ s → length g.starts ≤ n
  later s n at l = elim (cases_lt n (length g.starts)) [
    | inl k ↦ absurd (let e : s ≡ n = m.numbering.distinct.same s n n at (start_at n k) in omega arith)
    | inr k ↦ k
  ]

  moved : (s p d : ℕ) → length g.starts ≤ s → HasCoreItem (kernel_at a s) p d → 0 < d
  moved s p d l place =
      let within = items_within a s p d place in
      let n = old_number s within in
      let look = Holds-core_item g (kernel_at a s) (each s within).valid p d place in
      run.sound.moved n.0 (kernel_at a s) n.1.kernel (later s n.0 n.1.number l) p d look

  edge : (s : ℕ) (X : Symbol) → s < length a.kernels → HasMove g a s X → (u : ℕ) × (leads_to a s X ≡ Some u)
  edge s X l moves =
      let r = has_row s l in
      let c = (r.for.moves X).1 (record { production = moves.production; dot = moves.dot; look = moves.look; holds = moves.moves }) in
      let n = find_edge-contains r.row X c in
      let u = renamed_to m.states X (edges_at a s) r.row r.symbols r.names n.0 n.1 in
      (u.0, u.1)

  target : (s : ℕ) (X : Symbol) (u : ℕ) → leads_to a s X ≡ Some u → HasMove g a s X × IsTarget g a s X u
  target s X u e =
      let l : s < length a.kernels = omega (arith, edges_within a s u X e, rows_len) in
      let r = has_row s l in
      let n = renamed_from m.states X (edges_at a s) r.row r.symbols r.names u e in
      let t = found_target g m.last.kernels (kernel_at a s) r.row r.for.targets_are X n.0 n.1 in
      let here = new_number u n.0 n.2 in
      let same : t.0.0 ≡ kernel_at a u = (let one : Some t.0.0 ≡ Some (kernel_at a u) = sym t.0.1 ∙ here.1.kernel in cc) in
      let extends = rw same at t.0.2 in
      let item = (r.for.moves X).0 t.1 in (
        record { production = item.production; dot = item.dot; look = item.look; moves = item.holds },
        record {
          known = here.0;
          core = λ p d place. (extends.0 p d).1 (Holds-core_item g (kernel_at a u) (each u here.0).valid p d place);
          looks = λ p d look h. extends.1 p d look h;
        },
      )

  pub IsAutomaton-merged : length a.kernels < 2 ^ 32 → IsAutomaton g a
  IsAutomaton-merged few = record {
    enough_states = enough;
    few = few;
    rows = rows_len;
    each = λ s l. (each s l).valid;
    starts = starts;
    filled = λ s l. let c = (each s l).some.holds.1 in omega (arith, c.1);
    at_end = λ s p d look k l. (each s (items_within a s p d (k.0, k.1, k.2, k.3))).at_end p d look k l;
    moved = moved;
    order = λ s l. let r = has_row s l in rising_edges (edges_at a s) (rw r.symbols r.for.rising);
    edge = edge;
    target = target;
  }
