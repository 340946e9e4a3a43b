-- Proves that a table that is read is spelled by the lines: the lines that were read follow from the state of the
-- reader.
use Rattle.std.proofs.Common.{inl, inr, ◌⊎◌, ◌≡◌, ◌≢◌, ◌+◌, ◌-◌, ◌^◌, ◌<◌, ◌≤◌, ℕ, suc, Bool, true, false, nat_eq, ◌==◌, cond, List, [], ◌∷◌, ◌++◌, map, length, Option, Some, None, refl, sym, ap, ◌∙◌, subst, codes, decimal, arith, append_assoc, append-nil, length-append, eqb-true, zero-add, add-zero}
use Rattle.std.proofs.lemmas.Bool.{eqb-false}
use Rattle.std.specs.List.{AllByRecursion}
use Rattle.std.proofs.lemmas.Option.{same_Some}
use Rattle.std.proofs.lemmas.List.{map_push}
use Rattle.mh_grammar.proofs.Lists.{recursion-push}
use Rattle.mh_resolve_cells.specs.declared.kinds.Mode.{Mode}
use Rattle.mh_tables_core.specs.declared.parts.Fallback.{Fallback}
use Rattle.mh_tabfile_form.specs.declared.types.RawProduction.{RawProduction}
use Rattle.mh_tabfile_form.specs.declared.types.RawItem.{RawItem}
use Rattle.mh_tabfile_form.specs.declared.types.RawEdge.{RawEdge}
use Rattle.mh_tabfile_form.specs.declared.types.RawCell.{RawCell}
use Rattle.mh_tabfile_form.specs.declared.types.RawCells.{RawCells}
use Rattle.mh_tabfile_form.specs.declared.types.RawCells.TheVariants as cells
use Rattle.mh_tabfile_form.specs.declared.types.RawState.{RawState}
use Rattle.mh_tabfile_form.specs.declared.types.RawTable.{RawTable}
use Rattle.mh_tabfile_read.specs.declared.places.Reader.{Reader}
use Rattle.mh_tabfile_read.specs.declared.places.LineKind.{LineKind}
use Rattle.mh_tabfile_read.specs.declared.places.LineKind.TheVariants as kinds
use Rattle.mh_tabfile_read.specs.declared.places.ExpectedLine.{ExpectedLine}
use Rattle.mh_tabfile_read.specs.declared.places.ExpectedLine.TheVariants as places
use Rattle.mh_resolve_cells.specs.Names.{mode_name}
use Rattle.mh_tabfile_form.specs.Form.{Line, IsName, IsNumber, IsRawProduction, IsRawItem, IsRawEdge, IsRawCell, IsRawFallback, AreRawCells, IsRawState, IsRawTable, AreCosts, Spells, version_of, head_line, costs_lines, production_line, item_line, edge_line, cell_line, fallback_line, cells_lines, count_line, state_lines, states_lines, end_line, head_lines, grammar_lines, automaton_lines, lines_of}
use Rattle.mh_tabfile_read.specs.code.Numbers.{number_of}
use Rattle.mh_tabfile_read.specs.code.Words.{◌>>=◌, kind_of, count_of, names_of, numbers_of, mode_of, production_of, item_of, edge_of, cell_of, fallback_of}
use Rattle.mh_tabfile_read.specs.code.Machine.{initial_reader, table_of, costs_for, expected_after_tokens, read_head, at_head, at_tokens, at_costs, at_starts, at_productions, at_states, at_production, open_state, at_state, at_end, at_cells, at_edges, at_items, at_production_list, state_ended_by, state_closed, at_between_states, next, next_at, finish, finish_at, run, go_on, ended, Outcome}
use Rattle.mh_tabfile_read.specs.code.Machine.Outcome.{Reads, Stops}
use Rattle.mh_tabfile_read.proofs.ParsedWords.{none_some, bind_some, cond_cases, Named, kind_sound, mode_sound, number_sound, numbers_sound, names_sound, count_sound, production_sound, item_sound, edge_sound, cell_sound, fallback_sound}
use Rattle.mh_tabfile_read.proofs.RunComplete.{expecting}

-- The open state, with the items, edges and cells that were read.
abbrev pub open_state_read : Reader → RawState
open_state_read r = record { items = r.items; edges = r.edges; cells = cells.Cells r.cells }

abbrev pub head_lines_read : Reader → List Line
head_lines_read r = head_lines (table_of r)

abbrev pub production_lines_read : Reader → ℕ → List Line
production_lines_read r count = (codes "starts" ∷ r.starts) ∷ count_line (codes "productions") count ∷ map production_line r.productions

abbrev pub closed_state_lines : Reader → ℕ → List Line
closed_state_lines r count = count_line (codes "states") count ∷ states_lines 0 r.states

abbrev pub open_state_lines : Reader → ℕ → List Line
open_state_lines r left = head_lines_read r ++ (production_lines_read r (length r.productions) ++ (closed_state_lines r (length r.states + 1 + left) ++ state_lines (length r.states) (open_state_read r)))

-- The lines that lead to a place of the reader.
abbrev pub written_at : ExpectedLine → Reader → List Line
written_at places.Head r = []
written_at places.Tokens r = head_line (version_of r.costs) r.mode ∷ []
written_at places.Costs r = head_line (version_of r.costs) r.mode ∷ (codes "tokens" ∷ r.tokens) ∷ []
written_at places.Starts r = head_lines_read r
written_at places.Productions r = head_lines_read r ++ (codes "starts" ∷ r.starts) ∷ []
written_at (places.Listing left) r = head_lines_read r ++ production_lines_read r (length r.productions + left)
written_at (places.Between left) r = head_lines_read r ++ (production_lines_read r (length r.productions) ++ closed_state_lines r (length r.states + left))
written_at (places.Items left) r = open_state_lines r left
written_at (places.Edges left) r = open_state_lines r left
written_at (places.Cells left) r = open_state_lines r left
written_at places.Ended r = lines_of (table_of r)

abbrev pub written : Reader → List Line
written r = written_at r.place r

-- Everything that was read has the form that a table file allows: names are words, and numbers are in range.
pub record PartsHaveForm (r : Reader) : Type 0 where
  pub tokens : AllByRecursion IsName r.tokens
  pub costs : AreCosts r.costs
  pub starts : AllByRecursion IsName r.starts
  pub productions : AllByRecursion IsRawProduction r.productions
  pub states : AllByRecursion IsRawState r.states
  pub items : AllByRecursion IsRawItem r.items
  pub edges : AllByRecursion IsRawEdge r.edges
  pub cells : AllByRecursion IsRawCell r.cells

-- The invariant at each place: the numbers are below 2^32, and the parts that follow later are empty.
abbrev pub InvariantAt : ExpectedLine → Reader → Type 0
InvariantAt places.Head r = (r.productions ≡ []) × (r.states ≡ [])
InvariantAt places.Tokens r = (r.productions ≡ []) × (r.states ≡ [])
InvariantAt places.Costs r = (r.productions ≡ []) × (r.states ≡ []) × (old : List ℕ) × (r.costs ≡ Some old)
InvariantAt places.Starts r = (r.productions ≡ []) × (r.states ≡ [])
InvariantAt places.Productions r = (r.productions ≡ []) × (r.states ≡ [])
InvariantAt (places.Listing left) r = IsNumber (length r.productions + left) × (r.states ≡ [])
InvariantAt (places.Between left) r = IsNumber (length r.productions) × IsNumber (length r.states + left)
InvariantAt (places.Items left) r = IsNumber (length r.productions) × IsNumber (length r.states + 1 + left) × (r.edges ≡ []) × (r.cells ≡ [])
InvariantAt (places.Edges left) r = IsNumber (length r.productions) × IsNumber (length r.states + 1 + left) × (r.cells ≡ [])
InvariantAt (places.Cells left) r = IsNumber (length r.productions) × IsNumber (length r.states + 1 + left)
InvariantAt places.Ended r = IsNumber (length r.productions) × IsNumber (length r.states)

-- The line `x` leads to the reader `t`: its parts have the form, its invariant holds, and its lines are the earlier
-- lines and `x`.
pub record IsSoundStep (before : List Line) (x : Line) (t : Reader) : Type 0 where
  pub parts : PartsHaveForm t
  pub holds : InvariantAt t.place t
  pub written : written t ≡ before ++ x ∷ []

-- Lemmas on appended lists.

snoc2 : (a b c : List Line) → a ++ (b ++ c) ≡ (a ++ b) ++ c
snoc2 a b c = sym (append_assoc a b c)

snoc3 : (a b c d : List Line) → a ++ (b ++ (c ++ d)) ≡ (a ++ (b ++ c)) ++ d
snoc3 a b c d = ap (λ k. a ++ k) (snoc2 b c d) ∙ snoc2 a (b ++ c) d

snoc4 : (a b c d e : List Line) → a ++ (b ++ (c ++ (d ++ e))) ≡ (a ++ (b ++ (c ++ d))) ++ e
snoc4 a b c d e = ap (λ k. a ++ k) (snoc3 b c d e) ∙ snoc2 a (b ++ (c ++ d)) e

states_snoc : (ss : List RawState) (i j : ℕ) (s : RawState) → j ≡ i + length ss → states_lines i (ss ++ s ∷ []) ≡ states_lines i ss ++ state_lines j s
states_snoc [] i j s e = append-nil (state_lines i s) ∙ ap (λ k. state_lines k s) (let f : i ≡ j = omega (arith, e) in f)
states_snoc (x ∷ ss) i j s e = ap (λ l. state_lines i x ++ l) (states_snoc ss (i + 1) j s (omega (arith, e))) ∙ snoc2 (state_lines i x) (states_lines (i + 1) ss) (state_lines j s)

at_place : (r : Reader) (place : ExpectedLine) → PartsHaveForm r → PartsHaveForm (expecting r place)
at_place r place p = record { tokens = p.tokens; costs = p.costs; starts = p.starts; productions = p.productions; states = p.states; items = p.items; edges = p.edges; cells = p.cells }

-- The first lines, up to the costs.

costs_sound : (n : ℕ) (costs : Option (List ℕ)) → costs_for n ≡ Some costs → (n ≡ version_of costs) × AreCosts costs
costs_sound n costs e = elim (cond_cases (nat_eq n 1) (Some None) (cond (nat_eq n 2) (Some (Some [])) None) (Some costs) e) [
  | inl (b, f) ↦ subst (λ c. (n ≡ version_of c) × AreCosts c) (same_Some None costs f) (eqb-true n 1 b, tt)
  | inr (b, f) ↦ elim (cond_cases (nat_eq n 2) (Some (Some [])) None (Some costs) f) [
    | inl (c, g) ↦ subst (λ c. (n ≡ version_of c) × AreCosts c) (same_Some (Some []) costs g) (eqb-true n 2 c, tt)
    | inr (c, g) ↦ absurd (none_some _ g)
  ]
]

head_case : (k : LineKind) (r t : Reader) (w : List ℕ) (ws : Line) → PartsHaveForm r → InvariantAt places.Head r → Named k w → at_head r k ws ≡ Some t → IsSoundStep [] (w ∷ ws) t
head_case kinds.Head r t w [] p h n e = absurd (none_some _ e)
head_case kinds.Head r t w (v ∷ []) p h n e = absurd (none_some _ e)
head_case kinds.Head r t w (v ∷ m ∷ []) p h n e =
    let (number, e1, f1) = bind_some (number_of v) (λ n. costs_for n >>= λ costs. mode_of m >>= λ mode. Some (record r { mode = mode; costs = costs; place = places.Tokens })) t e in
    let (costs, e2, f2) = bind_some (costs_for number) (λ costs. mode_of m >>= λ mode. Some (record r { mode = mode; costs = costs; place = places.Tokens })) t f1 in
    let (mode, e3, f3) = bind_some (mode_of m) (λ mode. Some (record r { mode = mode; costs = costs; place = places.Tokens })) t f2 in
    let version = costs_sound number costs e2 in
    subst (IsSoundStep [] (w ∷ v ∷ m ∷ [])) {x = record r { mode = mode; costs = costs; place = places.Tokens }} (same_Some _ t f3) (record {
      parts = record { tokens = p.tokens; costs = version.1; starts = p.starts; productions = p.productions; states = p.states; items = p.items; edges = p.edges; cells = p.cells };
      holds = h;
      written = sym (ap (λ x. (x ∷ v ∷ m ∷ []) ∷ []) n ∙ ap (λ x. (codes "menhir-tables" ∷ x ∷ m ∷ []) ∷ []) ((number_sound v number e1).1 ∙ ap decimal version.0) ∙ ap (λ x. (codes "menhir-tables" ∷ decimal (version_of costs) ∷ x ∷ []) ∷ []) (mode_sound m mode e3));
    })
head_case kinds.Head r t w (v ∷ m ∷ x ∷ ws) p h n e = absurd (none_some _ e)
head_case _ r t w ws p h n e = absurd (none_some _ e)

with_tokens : (costs : Option (List ℕ)) (r : Reader) (names : Line) → PartsHaveForm r → AreCosts costs → r.productions ≡ [] → r.states ≡ [] → AllByRecursion IsName names →
    IsSoundStep (head_line (version_of costs) r.mode ∷ []) (codes "tokens" ∷ names) (record r { tokens = names; costs = costs; place = expected_after_tokens costs })
with_tokens None r names p c hp hs h = record {
  parts = record { tokens = h; costs = c; starts = p.starts; productions = p.productions; states = p.states; items = p.items; edges = p.edges; cells = p.cells };
  holds = (hp, hs);
  written = refl;
}
with_tokens (Some costs) r names p c hp hs h = record {
  parts = record { tokens = h; costs = c; starts = p.starts; productions = p.productions; states = p.states; items = p.items; edges = p.edges; cells = p.cells };
  holds = (hp, hs, costs, refl);
  written = refl;
}

tokens_case : (k : LineKind) (r t : Reader) (w : List ℕ) (ws : Line) → PartsHaveForm r → InvariantAt places.Tokens r → Named k w → at_tokens r k ws ≡ Some t → IsSoundStep (written_at places.Tokens r) (w ∷ ws) t
tokens_case kinds.Tokens r t w ws p h n e =
    let (names, f, g) = bind_some (names_of ws) (λ names. Some (record r { tokens = names; place = expected_after_tokens r.costs })) t e in
    let is = names_sound ws names f in
    subst (IsSoundStep (written_at places.Tokens r) (w ∷ ws)) (same_Some (record r { tokens = names; place = expected_after_tokens r.costs }) t g)
    (subst (λ x. IsSoundStep (written_at places.Tokens r) x (record r { tokens = names; place = expected_after_tokens r.costs })) (sym (ap (λ x. x ∷ ws) n ∙ ap (λ x. codes "tokens" ∷ x) is.1)) (with_tokens r.costs r names p p.costs h.0 h.1 is.0))
tokens_case _ r t w ws p h n e = absurd (none_some _ e)

costs_case : (k : LineKind) (r t : Reader) (w : List ℕ) (ws : Line) → PartsHaveForm r → InvariantAt places.Costs r → Named k w → at_costs r k ws ≡ Some t → IsSoundStep (written_at places.Costs r) (w ∷ ws) t
costs_case kinds.Costs r t w ws p (hp, hs, old, o) n e =
    let (costs, f, g) = bind_some (numbers_of ws) (λ costs. Some (record r { costs = Some costs; place = places.Starts })) t e in
    let is = numbers_sound ws costs f in
    subst (IsSoundStep (written_at places.Costs r) (w ∷ ws)) (same_Some (record r { costs = Some costs; place = places.Starts }) t g) (record {
      parts = record { tokens = p.tokens; costs = is.0; starts = p.starts; productions = p.productions; states = p.states; items = p.items; edges = p.edges; cells = p.cells };
      holds = (hp, hs);
      written = sym (ap (λ c. head_line (version_of c) r.mode ∷ (codes "tokens" ∷ r.tokens) ∷ (w ∷ ws) ∷ []) o ∙ ap (λ x. head_line 2 r.mode ∷ (codes "tokens" ∷ r.tokens) ∷ x ∷ []) (ap (λ x. x ∷ ws) n ∙ ap (λ x. codes "costs" ∷ x) is.1));
    })
costs_case _ r t w ws p h n e = absurd (none_some _ e)

starts_case : (k : LineKind) (r t : Reader) (w : List ℕ) (ws : Line) → PartsHaveForm r → InvariantAt places.Starts r → Named k w → at_starts r k ws ≡ Some t → IsSoundStep (written_at places.Starts r) (w ∷ ws) t
starts_case kinds.Starts r t w ws p h n e =
    let (names, f, g) = bind_some (names_of ws) (λ names. Some (record r { starts = names; place = places.Productions })) t e in
    let is = names_sound ws names f in
    subst (IsSoundStep (written_at places.Starts r) (w ∷ ws)) (same_Some (record r { starts = names; place = places.Productions }) t g) (record {
      parts = record { tokens = p.tokens; costs = p.costs; starts = is.0; productions = p.productions; states = p.states; items = p.items; edges = p.edges; cells = p.cells };
      holds = h;
      written = ap (λ x. head_lines_read r ++ x ∷ []) (sym (ap (λ x. x ∷ ws) n ∙ ap (λ x. codes "starts" ∷ x) is.1));
    })
starts_case _ r t w ws p h n e = absurd (none_some _ e)

count_case : (k : LineKind) (r t : Reader) (w : List ℕ) (ws : Line) → PartsHaveForm r → InvariantAt places.Productions r → Named k w → at_productions r k ws ≡ Some t → IsSoundStep (written_at places.Productions r) (w ∷ ws) t
count_case kinds.Productions r t w ws p (hp, hs) n e =
    let (m, f, g) = bind_some (count_of ws) (λ n. Some (record r { place = places.Listing n })) t e in
    let is = count_sound ws m f in
    subst (IsSoundStep (written_at places.Productions r) (w ∷ ws)) (same_Some (record r { place = places.Listing m }) t g) (record {
      parts = at_place r (places.Listing m) p;
      holds = (subst (λ ps. IsNumber (length ps + m)) (sym hp) (subst IsNumber (sym (zero-add m)) is.0), hs);
      written = ap (λ ps. head_lines_read r ++ ((codes "starts" ∷ r.starts) ∷ count_line (codes "productions") (length ps + m) ∷ map production_line ps)) hp
          ∙ ap (λ k. head_lines_read r ++ ((codes "starts" ∷ r.starts) ∷ count_line (codes "productions") k ∷ [])) (zero-add m)
          ∙ ap (λ x. head_lines_read r ++ ((codes "starts" ∷ r.starts) ∷ x ∷ [])) (sym (ap (λ x. x ∷ ws) n ∙ ap (λ x. codes "productions" ∷ x) is.1))
          ∙ snoc2 (head_lines_read r) ((codes "starts" ∷ r.starts) ∷ []) ((w ∷ ws) ∷ []);
    })
count_case _ r t w ws p h n e = absurd (none_some _ e)

-- A line that is read in the list of the productions is a sound step (`IsSoundStep`).

production_case : (r t : Reader) (left : ℕ) (line : Line) → PartsHaveForm r → InvariantAt (places.Listing left) r → 0 < left → at_production r left line ≡ Some t → IsSoundStep (written_at (places.Listing left) r) line t
production_case r t left line p (small, hs) some e =
    let (q, f, g) = bind_some (production_of line) (λ q. Some (record r { productions = r.productions ++ q ∷ []; place = places.Listing (left - 1) })) t e in
    let is = production_sound line q f in
    let count : length (r.productions ++ q ∷ []) + (left - 1) ≡ length r.productions + left = omega (arith, length-append r.productions (q ∷ []), some) in
    subst (IsSoundStep (written_at (places.Listing left) r) line) (same_Some (record r { productions = r.productions ++ q ∷ []; place = places.Listing (left - 1) }) t g) (record {
      parts = record { tokens = p.tokens; costs = p.costs; starts = p.starts; productions = recursion-push IsRawProduction r.productions q p.productions is.0; states = p.states; items = p.items; edges = p.edges; cells = p.cells };
      holds = (subst IsNumber (sym count) small, hs);
      written = ap (λ k. head_lines_read r ++ ((codes "starts" ∷ r.starts) ∷ count_line (codes "productions") k ∷ map production_line (r.productions ++ q ∷ []))) count
          ∙ ap (λ ls. head_lines_read r ++ ((codes "starts" ∷ r.starts) ∷ count_line (codes "productions") (length r.productions + left) ∷ ls)) (map_push production_line r.productions q)
          ∙ snoc2 (head_lines_read r) (production_lines_read r (length r.productions + left)) (production_line q ∷ [])
          ∙ ap (λ x. (head_lines_read r ++ production_lines_read r (length r.productions + left)) ++ x ∷ []) (sym is.1);
    })

states_case : (k : LineKind) (r t : Reader) (w : List ℕ) (ws : Line) → PartsHaveForm r → InvariantAt (places.Listing 0) r → Named k w → at_states r k ws ≡ Some t → IsSoundStep (written_at (places.Listing 0) r) (w ∷ ws) t
states_case kinds.States r t w ws p (small, hs) n e =
    let (m, f, g) = bind_some (count_of ws) (λ n. Some (record r { place = places.Between n })) t e in
    let is = count_sound ws m f in
    let none : length r.productions + 0 ≡ length r.productions = add-zero (length r.productions) in
    subst (IsSoundStep (written_at (places.Listing 0) r) (w ∷ ws)) (same_Some (record r { place = places.Between m }) t g) (record {
      parts = at_place r (places.Between m) p;
      holds = (subst IsNumber none small, subst (λ ss. IsNumber (length ss + m)) (sym hs) (subst IsNumber (sym (zero-add m)) is.0));
      written = ap (λ ss. head_lines_read r ++ (production_lines_read r (length r.productions) ++ (count_line (codes "states") (length ss + m) ∷ states_lines 0 ss))) hs
          ∙ ap (λ k. head_lines_read r ++ (production_lines_read r (length r.productions) ++ (count_line (codes "states") k ∷ []))) (zero-add m)
          ∙ snoc2 (head_lines_read r) (production_lines_read r (length r.productions)) (count_line (codes "states") m ∷ [])
          ∙ ap (λ k. (head_lines_read r ++ production_lines_read r k) ++ count_line (codes "states") m ∷ []) (sym none)
          ∙ ap (λ x. (head_lines_read r ++ production_lines_read r (length r.productions + 0)) ++ x ∷ []) (sym (ap (λ x. x ∷ ws) n ∙ ap (λ x. codes "states" ∷ x) is.1));
    })
states_case _ r t w ws p h n e = absurd (none_some _ e)

listing_case : (r t : Reader) (left : ℕ) (w : List ℕ) (ws : Line) → PartsHaveForm r → InvariantAt (places.Listing left) r → at_production_list r left w ws ≡ Some t → IsSoundStep (written_at (places.Listing left) r) (w ∷ ws) t
listing_case r t left w ws p h e = elim (cond_cases (nat_eq left 0) (at_states r (kind_of w) ws) (at_production r left (w ∷ ws)) (Some t) e) [
  | inl (b, f) ↦ subst (λ k. IsSoundStep (written_at (places.Listing k) r) (w ∷ ws) t) (sym (eqb-true left 0 b)) (states_case (kind_of w) r t w ws p (subst (λ k. InvariantAt (places.Listing k) r) (eqb-true left 0 b) h) (kind_sound w) f)
  | inr (b, f) ↦ production_case r t left (w ∷ ws) p h (omega (arith, eqb-false left 0 b)) f
]

-- A line that is read between two states is a sound step.

opened_case : (r t : Reader) (left m : ℕ) → IsNumber (length r.productions) → IsNumber (length r.states + left) → 0 < left → PartsHaveForm r →
    ((nat_eq m (length r.states) ≡ true) × (Some (record r { items = []; edges = []; cells = []; place = places.Items (left - 1) }) ≡ Some t)) ⊎ ((nat_eq m (length r.states) ≡ false) × (None ≡ Some t)) →
    (x : Line) → x ≡ count_line (codes "state") m → IsSoundStep (written_at (places.Between left) r) x t
opened_case r t left m few small some p (inr (b, f)) x is = absurd (none_some _ f)
opened_case r t left m few small some p (inl (b, f)) x is =
    let count : length r.states + 1 + (left - 1) ≡ length r.states + left = omega (arith, some) in
    subst (IsSoundStep (written_at (places.Between left) r) x) (same_Some (record r { items = []; edges = []; cells = []; place = places.Items (left - 1) }) t f) (record {
      parts = record { tokens = p.tokens; costs = p.costs; starts = p.starts; productions = p.productions; states = p.states; items = tt; edges = tt; cells = tt };
      holds = (few, subst IsNumber (sym count) small, refl, refl);
      written = ap (λ k. head_lines_read r ++ (production_lines_read r (length r.productions) ++ (closed_state_lines r k ++ count_line (codes "state") (length r.states) ∷ []))) count
          ∙ snoc3 (head_lines_read r) (production_lines_read r (length r.productions)) (closed_state_lines r (length r.states + left)) (count_line (codes "state") (length r.states) ∷ [])
          ∙ ap (λ y. (head_lines_read r ++ (production_lines_read r (length r.productions) ++ closed_state_lines r (length r.states + left))) ++ y ∷ []) (sym (is ∙ ap (count_line (codes "state")) (eqb-true m (length r.states) b)));
    })

state_case : (k : LineKind) (r t : Reader) (left : ℕ) (w : List ℕ) (ws : Line) → PartsHaveForm r → InvariantAt (places.Between left) r → 0 < left → Named k w → at_state r left k ws ≡ Some t → IsSoundStep (written_at (places.Between left) r) (w ∷ ws) t
state_case kinds.State r t left w ws p (few, small) some n e =
    let (m, f, g) = bind_some (count_of ws) (λ n. open_state r left n) t e in
    let is = count_sound ws m f in
    opened_case r t left m few small some p (cond_cases (nat_eq m (length r.states)) (Some (record r { items = []; edges = []; cells = []; place = places.Items (left - 1) })) None (Some t) g) (w ∷ ws) (ap (λ x. x ∷ ws) n ∙ ap (λ x. codes "state" ∷ x) is.1)
state_case _ r t left w ws p h some n e = absurd (none_some _ e)

end_case : (k : LineKind) (r t : Reader) (w : List ℕ) (ws : Line) → PartsHaveForm r → InvariantAt (places.Between 0) r → Named k w → at_end r k ws ≡ Some t → IsSoundStep (written_at (places.Between 0) r) (w ∷ ws) t
end_case kinds.End r t w [] p (few, small) n e =
    let none : length r.states + 0 ≡ length r.states = add-zero (length r.states) in
    subst (IsSoundStep (written_at (places.Between 0) r) (w ∷ [])) (same_Some (record r { place = places.Ended }) t e) (record {
      parts = at_place r places.Ended p;
      holds = (few, subst IsNumber none small);
      written = snoc3 (head_lines_read r) (production_lines_read r (length r.productions)) (closed_state_lines r (length r.states)) (end_line ∷ [])
          ∙ ap (λ k. (head_lines_read r ++ (production_lines_read r (length r.productions) ++ closed_state_lines r k)) ++ end_line ∷ []) (sym none)
          ∙ ap (λ v. (head_lines_read r ++ (production_lines_read r (length r.productions) ++ closed_state_lines r (length r.states + 0))) ++ (v ∷ []) ∷ []) (sym n);
    })
end_case kinds.End r t w (v ∷ ws) p h n e = absurd (none_some _ e)
end_case _ r t w ws p h n e = absurd (none_some _ e)

between_case : (k : LineKind) (r t : Reader) (left : ℕ) (w : List ℕ) (ws : Line) → PartsHaveForm r → InvariantAt (places.Between left) r → Named k w → at_between_states r left k ws ≡ Some t → IsSoundStep (written_at (places.Between left) r) (w ∷ ws) t
between_case k r t left w ws p h n e = elim (cond_cases (nat_eq left 0) (at_end r k ws) (at_state r left k ws) (Some t) e) [
  | inl (b, f) ↦ subst (λ m. IsSoundStep (written_at (places.Between m) r) (w ∷ ws) t) (sym (eqb-true left 0 b)) (end_case k r t w ws p (subst (λ m. InvariantAt (places.Between m) r) (eqb-true left 0 b) h) n f)
  | inr (b, f) ↦ state_case k r t left w ws p h (omega (arith, eqb-false left 0 b)) n f
]

-- A line that is read inside a state is a sound step.

-- When the open state is closed with the cells `c`, its lines are those read so far and `more`.
closing : (r : Reader) (left : ℕ) (c : RawCells) (more : List Line) → state_lines (length r.states) (record { items = r.items; edges = r.edges; cells = c }) ≡ state_lines (length r.states) (open_state_read r) ++ more →
    written (state_ended_by r c (places.Between left)) ≡ open_state_lines r left ++ more
closing r left c more e =
    let s : RawState = record { items = r.items; edges = r.edges; cells = c } in
    let count : length (r.states ++ s ∷ []) + left ≡ length r.states + 1 + left = omega (arith, length-append r.states (s ∷ [])) in
    ap (λ k. head_lines_read r ++ (production_lines_read r (length r.productions) ++ (count_line (codes "states") k ∷ states_lines 0 (r.states ++ s ∷ [])))) count
    ∙ ap (λ ls. head_lines_read r ++ (production_lines_read r (length r.productions) ++ (count_line (codes "states") (length r.states + 1 + left) ∷ ls))) (states_snoc r.states 0 (length r.states) s (sym (zero-add (length r.states))) ∙ ap (λ k. states_lines 0 r.states ++ k) e)
    ∙ snoc4 (head_lines_read r) (production_lines_read r (length r.productions)) (closed_state_lines r (length r.states + 1 + left)) (state_lines (length r.states) (open_state_read r)) more

closed_parts : (r : Reader) (c : RawCells) (place : ExpectedLine) → PartsHaveForm r → AreRawCells c → PartsHaveForm (state_ended_by r c place)
closed_parts r c place p h = record { tokens = p.tokens; costs = p.costs; starts = p.starts; productions = p.productions; states = recursion-push IsRawState r.states (record { items = r.items; edges = r.edges; cells = c }) p.states (p.items, p.edges, h); items = tt; edges = tt; cells = tt }

closed_holds : (r : Reader) (c : RawCells) (left : ℕ) → IsNumber (length r.productions) → IsNumber (length r.states + 1 + left) → InvariantAt (places.Between left) (state_ended_by r c (places.Between left))
closed_holds r c left few small = (few, omega (arith, small, length-append r.states (record { items = r.items; edges = r.edges; cells = c } ∷ [])))

ends_case : (k : LineKind) (r t : Reader) (left : ℕ) (w : List ℕ) (ws : Line) → PartsHaveForm r → IsNumber (length r.productions) → IsNumber (length r.states + 1 + left) → Named k w → at_between_states (state_closed r) left k ws ≡ Some t → IsSoundStep (open_state_lines r left) (w ∷ ws) t
ends_case k r t left w ws p few small n e =
    let c = cells.Cells r.cells in
    let same : written_at (places.Between left) (state_closed r) ≡ open_state_lines r left = closing r left c [] (sym (append-nil (state_lines (length r.states) (open_state_read r)))) ∙ append-nil (open_state_lines r left) in
    subst (λ b. IsSoundStep b (w ∷ ws) t) same (between_case k (state_closed r) t left w ws (closed_parts r c r.place p p.cells) (closed_holds r c left few small) n e)

-- A line that is read as part of the open state is a sound step.
grown : (r : Reader) (left : ℕ) (s : RawState) (x : Line) → state_lines (length r.states) s ≡ state_lines (length r.states) (open_state_read r) ++ x ∷ [] →
    head_lines_read r ++ (production_lines_read r (length r.productions) ++ (closed_state_lines r (length r.states + 1 + left) ++ state_lines (length r.states) s)) ≡ open_state_lines r left ++ x ∷ []
grown r left s x e =
    ap (λ k. head_lines_read r ++ (production_lines_read r (length r.productions) ++ (closed_state_lines r (length r.states + 1 + left) ++ k))) e
    ∙ snoc4 (head_lines_read r) (production_lines_read r (length r.productions)) (closed_state_lines r (length r.states + 1 + left)) (state_lines (length r.states) (open_state_read r)) (x ∷ [])

cells_case : (k : LineKind) (r t : Reader) (left : ℕ) (w : List ℕ) (ws : Line) → PartsHaveForm r → IsNumber (length r.productions) → IsNumber (length r.states + 1 + left) → Named k w → at_cells r left k ws ≡ Some t → IsSoundStep (open_state_lines r left) (w ∷ ws) t
cells_case kinds.Cell r t left w ws p few small n e =
    let (c, f, g) = bind_some (cell_of ws) (λ c. Some (record r { cells = r.cells ++ c ∷ []; place = places.Cells left })) t e in
    let is = cell_sound ws c f in
    let line : w ∷ ws ≡ cell_line c = ap (λ v. v ∷ ws) n ∙ is.1 in
    let i = length r.states in
    subst (IsSoundStep (open_state_lines r left) (w ∷ ws)) (same_Some (record r { cells = r.cells ++ c ∷ []; place = places.Cells left }) t g) (record {
      parts = record { tokens = p.tokens; costs = p.costs; starts = p.starts; productions = p.productions; states = p.states; items = p.items; edges = p.edges; cells = recursion-push IsRawCell r.cells c p.cells is.0 };
      holds = (few, small);
      written = grown r left (record { items = r.items; edges = r.edges; cells = cells.Cells (r.cells ++ c ∷ []) }) (w ∷ ws)
          (ap (λ l. count_line (codes "state") i ∷ map item_line r.items ++ (map edge_line r.edges ++ l)) (map_push cell_line r.cells c ∙ ap (λ x. map cell_line r.cells ++ x ∷ []) (sym line))
          ∙ snoc3 (count_line (codes "state") i ∷ map item_line r.items) (map edge_line r.edges) (map cell_line r.cells) ((w ∷ ws) ∷ []));
    })
cells_case k r t left w ws p few small n e = ends_case k r t left w ws p few small n e

edges_case : (k : LineKind) (r t : Reader) (left : ℕ) (w : List ℕ) (ws : Line) → PartsHaveForm r → IsNumber (length r.productions) → IsNumber (length r.states + 1 + left) → r.cells ≡ [] → Named k w → at_edges r left k ws ≡ Some t → IsSoundStep (open_state_lines r left) (w ∷ ws) t
edges_case kinds.Edge r t left w ws p few small none n e =
    let (c, f, g) = bind_some (edge_of ws) (λ c. Some (record r { edges = r.edges ++ c ∷ []; place = places.Edges left })) t e in
    let is = edge_sound ws c f in
    let line : w ∷ ws ≡ edge_line c = ap (λ v. v ∷ ws) n ∙ is.1 in
    let i = length r.states in
    let front = count_line (codes "state") i ∷ map item_line r.items in
    subst (IsSoundStep (open_state_lines r left) (w ∷ ws)) (same_Some (record r { edges = r.edges ++ c ∷ []; place = places.Edges left }) t g) (record {
      parts = record { tokens = p.tokens; costs = p.costs; starts = p.starts; productions = p.productions; states = p.states; items = p.items; edges = recursion-push IsRawEdge r.edges c p.edges is.0; cells = p.cells };
      holds = (few, small, none);
      written = grown r left (record { items = r.items; edges = r.edges ++ c ∷ []; cells = cells.Cells r.cells }) (w ∷ ws)
          (ap (λ cs. front ++ (map edge_line (r.edges ++ c ∷ []) ++ map cell_line cs)) none
          ∙ ap (λ l. front ++ l) (append-nil (map edge_line (r.edges ++ c ∷ [])) ∙ map_push edge_line r.edges c ∙ ap (λ x. map edge_line r.edges ++ x ∷ []) (sym line))
          ∙ snoc2 front (map edge_line r.edges) ((w ∷ ws) ∷ [])
          ∙ ap (λ l. (front ++ l) ++ (w ∷ ws) ∷ []) (sym (ap (λ cs. map edge_line r.edges ++ map cell_line cs) none ∙ append-nil (map edge_line r.edges))));
    })
edges_case kinds.Default r t left w ws p few small none n e =
    let (c, f, g) = bind_some (fallback_of ws) (λ c. Some (state_ended_by r (cells.Fallback c) (places.Between left))) t e in
    let is = fallback_sound ws c f in
    let line : w ∷ ws ≡ fallback_line c = ap (λ v. v ∷ ws) n ∙ is.1 in
    let front = count_line (codes "state") (length r.states) ∷ map item_line r.items in
    subst (IsSoundStep (open_state_lines r left) (w ∷ ws)) (same_Some (state_ended_by r (cells.Fallback c) (places.Between left)) t g) (record {
      parts = closed_parts r (cells.Fallback c) (places.Between left) p is.0;
      holds = closed_holds r (cells.Fallback c) left few small;
      written = closing r left (cells.Fallback c) ((w ∷ ws) ∷ [])
          (ap (λ x. front ++ (map edge_line r.edges ++ x ∷ [])) (sym line)
          ∙ snoc2 front (map edge_line r.edges) ((w ∷ ws) ∷ [])
          ∙ ap (λ l. (front ++ l) ++ (w ∷ ws) ∷ []) (sym (ap (λ cs. map edge_line r.edges ++ map cell_line cs) none ∙ append-nil (map edge_line r.edges))));
    })
edges_case k r t left w ws p few small none n e = cells_case k r t left w ws p few small n e

items_case : (k : LineKind) (r t : Reader) (left : ℕ) (w : List ℕ) (ws : Line) → PartsHaveForm r → IsNumber (length r.productions) → IsNumber (length r.states + 1 + left) → r.edges ≡ [] → r.cells ≡ [] → Named k w → at_items r left k ws ≡ Some t → IsSoundStep (open_state_lines r left) (w ∷ ws) t
items_case kinds.Item r t left w ws p few small bare none n e =
    let (c, f, g) = bind_some (item_of ws) (λ c. Some (record r { items = r.items ++ c ∷ []; place = places.Items left })) t e in
    let is = item_sound ws c f in
    let line : w ∷ ws ≡ item_line c = ap (λ v. v ∷ ws) n ∙ is.1 in
    let head = count_line (codes "state") (length r.states) in
    let nothing : map edge_line r.edges ++ map cell_line r.cells ≡ [] = ap (λ es. map edge_line es ++ map cell_line r.cells) bare ∙ ap (λ cs. map cell_line cs) none in
    subst (IsSoundStep (open_state_lines r left) (w ∷ ws)) (same_Some (record r { items = r.items ++ c ∷ []; place = places.Items left }) t g) (record {
      parts = record { tokens = p.tokens; costs = p.costs; starts = p.starts; productions = p.productions; states = p.states; items = recursion-push IsRawItem r.items c p.items is.0; edges = p.edges; cells = p.cells };
      holds = (few, small, bare, none);
      written = grown r left (record { items = r.items ++ c ∷ []; edges = r.edges; cells = cells.Cells r.cells }) (w ∷ ws)
          (ap (λ l. head ∷ map item_line (r.items ++ c ∷ []) ++ l) nothing
          ∙ ap (λ l. head ∷ l) (append-nil (map item_line (r.items ++ c ∷ [])) ∙ map_push item_line r.items c ∙ ap (λ x. map item_line r.items ++ x ∷ []) (sym line) ∙ ap (λ l. l ++ (w ∷ ws) ∷ []) (sym (append-nil (map item_line r.items))))
          ∙ ap (λ l. (head ∷ map item_line r.items ++ l) ++ (w ∷ ws) ∷ []) (sym nothing));
    })
items_case k r t left w ws p few small bare none n e = edges_case k r t left w ws p few small none n e

-- At every place, a line that is read is a sound step.

case_at : (place : ExpectedLine) (r t : Reader) (w : List ℕ) (ws : Line) → PartsHaveForm r → InvariantAt place r → next_at place r w ws ≡ Some t → IsSoundStep (written_at place r) (w ∷ ws) t
case_at places.Head r t w ws p h e = head_case (kind_of w) r t w ws p h (kind_sound w) e
case_at places.Tokens r t w ws p h e = tokens_case (kind_of w) r t w ws p h (kind_sound w) e
case_at places.Costs r t w ws p h e = costs_case (kind_of w) r t w ws p h (kind_sound w) e
case_at places.Starts r t w ws p h e = starts_case (kind_of w) r t w ws p h (kind_sound w) e
case_at places.Productions r t w ws p h e = count_case (kind_of w) r t w ws p h (kind_sound w) e
case_at (places.Listing left) r t w ws p h e = listing_case r t left w ws p h e
case_at (places.Between left) r t w ws p h e = between_case (kind_of w) r t left w ws p h (kind_sound w) e
case_at (places.Items left) r t w ws p (few, small, bare, none) e = items_case (kind_of w) r t left w ws p few small bare none (kind_sound w) e
case_at (places.Edges left) r t w ws p (few, small, none) e = edges_case (kind_of w) r t left w ws p few small none (kind_sound w) e
case_at (places.Cells left) r t w ws p (few, small) e = cells_case (kind_of w) r t left w ws p few small (kind_sound w) e
case_at places.Ended r t w ws p h e = absurd (none_some _ e)

pub record IsSoundReader (r : Reader) : Type 0 where
  pub parts : PartsHaveForm r
  pub holds : InvariantAt r.place r

pub next_sound : (r t : Reader) (x : Line) → IsSoundReader r → next r x ≡ Some t → IsSoundStep (written r) x t
unfolding next
next_sound r t [] g e = absurd (none_some _ e)
next_sound r t (w ∷ ws) g e = case_at r.place r t w ws g.parts g.holds e

pub sound_start : IsSoundReader initial_reader
sound_start = record { parts = record { tokens = tt; costs = tt; starts = tt; productions = tt; states = tt; items = tt; edges = tt; cells = tt }; holds = (refl, refl) }

same_reads : (x y : RawTable) → Reads x ≡ Reads y → x ≡ y
same_reads x y e = cc

stops_not : (ls : List Line) (raw : RawTable) → Stops ls ≡ Reads raw → ⊥
stops_not ls raw e = cc

finish_sound : (place : ExpectedLine) (r : Reader) (raw : RawTable) → PartsHaveForm r → InvariantAt place r → ended (finish_at place r) ≡ Reads raw → Spells (written_at place r ++ []) raw
finish_sound places.Ended r raw p (few, small) e = subst (λ x. Spells (written_at places.Ended r ++ []) x) (same_reads (table_of r) raw e)
    (record { tokens = p.tokens; costs = p.costs; starts = p.starts; productions = p.productions; few_productions = few; states = p.states; few_states = small }, append-nil (written_at places.Ended r))
finish_sound _ r raw p h e = absurd (stops_not _ _ e)

finished : (r : Reader) (raw : RawTable) → IsSoundReader r → run r [] ≡ Reads raw → Spells (written r ++ []) raw
unfolding finish
finished r raw g e = finish_sound r.place r raw g.parts g.holds e

go_sound : (o : Option Reader) (r : Reader) (x : Line) (xs : List Line) (raw : RawTable) → IsSoundReader r → next r x ≡ o → ((t : Reader) → IsSoundReader t → run t xs ≡ Reads raw → Spells (written t ++ xs) raw) → go_on o x xs (λ t. run t xs) ≡ Reads raw → Spells (written r ++ x ∷ xs) raw
go_sound None r x xs raw g e hyp f = absurd (stops_not _ _ f)
go_sound (Some t) r x xs raw g e hyp f =
    let s = next_sound r t x g e in
    subst (λ ls. Spells ls raw) (ap (λ ls. ls ++ xs) s.written ∙ append_assoc (written r) (x ∷ []) xs) (hyp t (record { parts = s.parts; holds = s.holds }) f)

pub run_sound : (ls : List Line) (r : Reader) (raw : RawTable) → IsSoundReader r → run r ls ≡ Reads raw → Spells (written r ++ ls) raw
run_sound [] r raw g e = finished r raw g e
run_sound (x ∷ xs) r raw g e = go_sound (next r x) r x xs raw g refl (λ t k f. run_sound xs t raw k f) e
