-- Proves that the lines of a table are read as this table, and that every state of the reader can be continued to a
-- whole file.
use Rattle.std.proofs.Common.{inl, inr, ◌⊎◌, ◌≡◌, ◌≢◌, ◌+◌, ◌-◌, ◌^◌, ◌<◌, ◌≤◌, ℕ, zero, suc, Bool, true, false, nat_eq, ◌==◌, cond, List, [], ◌∷◌, ◌++◌, map, length, Option, Some, None, refl, sym, ap, ◌∙◌, subst, codes, decimal, arith, append_assoc, append-nil, length-append, ne_eqb, eq-eqb}
use Rattle.std.specs.List.{AllByRecursion}
use Rattle.mh_resolve_cells.specs.declared.kinds.Mode.{Mode}
use Rattle.mh_resolve_cells.specs.declared.kinds.Mode.TheVariants.{Merged}
use Rattle.mh_tables_core.specs.declared.parts.Fallback.{Fallback}
use Rattle.mh_tables_core.specs.declared.parts.Fallback.TheVariants as fallbacks
use Rattle.mh_tabfile_form.specs.declared.types.RawProduction.{RawProduction}
use Rattle.mh_tabfile_form.specs.declared.types.RawItem.{RawItem}
use Rattle.mh_tabfile_form.specs.declared.types.RawEdge.{RawEdge}
use Rattle.mh_tabfile_form.specs.declared.types.RawCell.{RawCell}
use Rattle.mh_tabfile_form.specs.declared.types.RawCells.{RawCells}
use Rattle.mh_tabfile_form.specs.declared.types.RawCells.TheVariants as cells
use Rattle.mh_tabfile_form.specs.declared.types.RawState.{RawState}
use Rattle.mh_tabfile_form.specs.declared.types.RawTable.{RawTable}
use Rattle.mh_tabfile_read.specs.declared.places.Reader.{Reader}
use Rattle.mh_tabfile_read.specs.declared.places.LineKind.{LineKind}
use Rattle.mh_tabfile_read.specs.declared.places.LineKind.TheVariants as kinds
use Rattle.mh_tabfile_read.specs.declared.places.ExpectedLine.{ExpectedLine}
use Rattle.mh_tabfile_read.specs.declared.places.ExpectedLine.TheVariants as places
use Rattle.mh_resolve_cells.specs.Names.{mode_name}
use Rattle.mh_tabfile_form.specs.Form.{Line, IsName, IsNumber, IsRawProduction, IsRawItem, IsRawEdge, IsRawCell, IsRawFallback, AreRawCells, IsRawState, IsRawTable, AreCosts, Spells, version_of, head_line, costs_lines, production_line, item_line, edge_line, cell_line, fallback_line, cells_lines, count_line, state_lines, states_lines, end_line, head_lines, grammar_lines, automaton_lines, lines_of}
use Rattle.mh_tabfile_read.specs.code.Numbers.{number_of}
use Rattle.mh_tabfile_read.specs.code.Words.{◌>>=◌, kind_of, count_of, names_of, numbers_of, mode_of, production_of, item_of, edge_of, cell_of, fallback_of}
use Rattle.mh_tabfile_read.specs.code.Machine.{initial_reader, table_of, costs_for, expected_after_tokens, read_head, open_state, at_states, state_ended_by, state_closed, at_between_states, next, finish, run, go_on, ended, Outcome}
use Rattle.mh_tabfile_read.specs.code.Machine.Outcome.{Reads, Stops}
use Rattle.mh_tabfile_read.proofs.ParsedWords.{mode_parsed, number_parsed, numbers_parsed, names_parsed, count_parsed, production_parsed, item_parsed, edge_parsed, cell_parsed, accept_parsed, default_parsed}

abbrev pub expecting : Reader → ExpectedLine → Reader
expecting r place = record r { place = place }

-- One line is read, and then the others.
step : (r t : Reader) (x : Line) (xs : List Line) → next r x ≡ Some t → run r (x ∷ xs) ≡ run t xs
step r t x xs e = ap (λ o. go_on o x xs (λ u. run u xs)) e

-- Steps of the reader, one lemma for each kind of line.

item_step : (r : Reader) (left : ℕ) (i : RawItem) → IsRawItem i → next (expecting r (places.Items left)) (item_line i) ≡ Some (record r { items = r.items ++ i ∷ []; place = places.Items left })
unfolding next kind_of
item_step r left i h = ap (λ x. x >>= λ j. Some (record r { items = r.items ++ j ∷ []; place = places.Items left })) (item_parsed i h)

early : Bool → ℕ → ExpectedLine
early true left = places.Items left
early false left = places.Edges left

edge_step : (b : Bool) (r : Reader) (left : ℕ) (e : RawEdge) → IsRawEdge e → next (expecting r (early b left)) (edge_line e) ≡ Some (record r { edges = r.edges ++ e ∷ []; place = places.Edges left })
unfolding next kind_of early
edge_step true r left e h = ap (λ x. x >>= λ j. Some (record r { edges = r.edges ++ j ∷ []; place = places.Edges left })) (edge_parsed e h)
edge_step false r left e h = ap (λ x. x >>= λ j. Some (record r { edges = r.edges ++ j ∷ []; place = places.Edges left })) (edge_parsed e h)

-- The places inside a state where a cell may come next: before the first edge, before the first cell, or among the
-- cells.
late : Option Bool → ℕ → ExpectedLine
unfolding early
late (Some b) left = early b left
late None left = places.Cells left

cell_step : (o : Option Bool) (r : Reader) (left : ℕ) (c : RawCell) → IsRawCell c → next (expecting r (late o left)) (cell_line c) ≡ Some (record r { cells = r.cells ++ c ∷ []; place = places.Cells left })
unfolding next kind_of early late
cell_step (Some true) r left c (h, k) = ap (λ x. x >>= λ j. Some (record r { cells = r.cells ++ j ∷ []; place = places.Cells left })) (cell_parsed c.token c.action h k)
cell_step (Some false) r left c (h, k) = ap (λ x. x >>= λ j. Some (record r { cells = r.cells ++ j ∷ []; place = places.Cells left })) (cell_parsed c.token c.action h k)
cell_step None r left c (h, k) = ap (λ x. x >>= λ j. Some (record r { cells = r.cells ++ j ∷ []; place = places.Cells left })) (cell_parsed c.token c.action h k)

fallback_step : (b : Bool) (r : Reader) (left : ℕ) (f : Fallback) → IsRawFallback f → next (expecting r (early b left)) (fallback_line f) ≡ Some (state_ended_by r (cells.Fallback f) (places.Between left))
unfolding next kind_of early
fallback_step true r left fallbacks.Accept h = ap (λ x. x >>= λ f. Some (state_ended_by r (cells.Fallback f) (places.Between left))) accept_parsed
fallback_step false r left fallbacks.Accept h = ap (λ x. x >>= λ f. Some (state_ended_by r (cells.Fallback f) (places.Between left))) accept_parsed
fallback_step true r left (fallbacks.Reduce p) h = ap (λ x. x >>= λ f. Some (state_ended_by r (cells.Fallback f) (places.Between left))) (default_parsed p h)
fallback_step false r left (fallbacks.Reduce p) h = ap (λ x. x >>= λ f. Some (state_ended_by r (cells.Fallback f) (places.Between left))) (default_parsed p h)

-- A line that ends a state with cells: the next state's first line or the last line of the file.
abbrev Ends : Line → Type 0
Ends [] = ⊥
Ends (w ∷ ws) = (w ≡ codes "state") ⊎ (w ≡ codes "end")

ends_step : (o : Option Bool) (r : Reader) (left : ℕ) (l : Line) → Ends l → next (expecting r (late o left)) l ≡ next (expecting (state_closed r) (places.Between left)) l
unfolding next kind_of early late
ends_step o r left [] h = absurd h
ends_step (Some true) r left (w ∷ ws) (inl e) = subst (λ v. next (expecting r (late (Some true) left)) (v ∷ ws) ≡ next (expecting (state_closed r) (places.Between left)) (v ∷ ws)) (sym e) refl
ends_step (Some false) r left (w ∷ ws) (inl e) = subst (λ v. next (expecting r (late (Some false) left)) (v ∷ ws) ≡ next (expecting (state_closed r) (places.Between left)) (v ∷ ws)) (sym e) refl
ends_step None r left (w ∷ ws) (inl e) = subst (λ v. next (expecting r (late None left)) (v ∷ ws) ≡ next (expecting (state_closed r) (places.Between left)) (v ∷ ws)) (sym e) refl
ends_step (Some true) r left (w ∷ ws) (inr e) = subst (λ v. next (expecting r (late (Some true) left)) (v ∷ ws) ≡ next (expecting (state_closed r) (places.Between left)) (v ∷ ws)) (sym e) refl
ends_step (Some false) r left (w ∷ ws) (inr e) = subst (λ v. next (expecting r (late (Some false) left)) (v ∷ ws) ≡ next (expecting (state_closed r) (places.Between left)) (v ∷ ws)) (sym e) refl
ends_step None r left (w ∷ ws) (inr e) = subst (λ v. next (expecting r (late None left)) (v ∷ ws) ≡ next (expecting (state_closed r) (places.Between left)) (v ∷ ws)) (sym e) refl

-- The parts of a state.

-- The reader with these items, edges or cells added.
abbrev with_items : Reader → List RawItem → Reader
with_items r is = record r { items = r.items ++ is }

abbrev with_edges : Reader → List RawEdge → Reader
with_edges r es = record r { edges = r.edges ++ es }

abbrev with_cells : Reader → List RawCell → Reader
with_cells r cs = record r { cells = r.cells ++ cs }

items_again : (is : List RawItem) → AllByRecursion IsRawItem is → (r : Reader) (left : ℕ) (rest : List Line) →
    run (expecting r (places.Items left)) (map item_line is ++ rest) ≡ run (expecting (with_items r is) (places.Items left)) rest
items_again [] h r left rest = ap (λ is. run (record r { items = is; place = places.Items left }) rest) (sym (append-nil r.items))
items_again (i ∷ is) (h, hs) r left rest =
    step (expecting r (places.Items left)) (record r { items = r.items ++ i ∷ []; place = places.Items left }) (item_line i) (map item_line is ++ rest) (item_step r left i h)
    ∙ items_again is hs (record r { items = r.items ++ i ∷ [] }) left rest
    ∙ ap (λ k. run (record r { items = k; place = places.Items left }) rest) (append_assoc r.items (i ∷ []) is)

edges_again : (es : List RawEdge) → AllByRecursion IsRawEdge es → (b : Bool) (r : Reader) (left : ℕ) (rest : List Line) →
    (c : Bool) × (run (expecting r (early b left)) (map edge_line es ++ rest) ≡ run (expecting (with_edges r es) (early c left)) rest)
unfolding early
edges_again [] h b r left rest = (b, ap (λ es. run (record r { edges = es; place = early b left }) rest) (sym (append-nil r.edges)))
edges_again (e ∷ es) (h, hs) b r left rest =
    let (c, k) = edges_again es hs false (record r { edges = r.edges ++ e ∷ [] }) left rest in (
      c,
      step (expecting r (early b left)) (record r { edges = r.edges ++ e ∷ []; place = places.Edges left }) (edge_line e) (map edge_line es ++ rest) (edge_step b r left e h)
          ∙ k
          ∙ ap (λ x. run (record r { edges = x; place = early c left }) rest) (append_assoc r.edges (e ∷ []) es),
    )

cells_again : (cs : List RawCell) → AllByRecursion IsRawCell cs → (o : Option Bool) (r : Reader) (left : ℕ) (rest : List Line) →
    (p : Option Bool) × (run (expecting r (late o left)) (map cell_line cs ++ rest) ≡ run (expecting (with_cells r cs) (late p left)) rest)
unfolding late
cells_again [] h o r left rest = (o, ap (λ x. run (record r { cells = x; place = late o left }) rest) (sym (append-nil r.cells)))
cells_again (c ∷ cs) (h, hs) o r left rest =
    let (p, k) = cells_again cs hs None (record r { cells = r.cells ++ c ∷ [] }) left rest in (
      p,
      step (expecting r (late o left)) (record r { cells = r.cells ++ c ∷ []; place = places.Cells left }) (cell_line c) (map cell_line cs ++ rest) (cell_step o r left c h)
          ∙ k
          ∙ ap (λ x. run (record r { cells = x; place = late p left }) rest) (append_assoc r.cells (c ∷ []) cs),
    )

-- The reader with these states added and no open state.
abbrev after : Reader → List RawState → ExpectedLine → Reader
after r ss place = record r { states = r.states ++ ss; items = []; edges = []; cells = []; place = place }

-- The lines of a state that follow its items are read to the edges and cells of this state.
ended_again : (c : RawCells) → AreRawCells c → (b : Bool) (r : Reader) (left : ℕ) (l : Line) (rest : List Line) → r.cells ≡ [] → Ends l →
    run (expecting r (early b left)) (cells_lines c ++ l ∷ rest) ≡ run (state_ended_by r c (places.Between left)) (l ∷ rest)
unfolding late
ended_again (cells.Fallback f) h b r left l rest none e = step (expecting r (early b left)) (state_ended_by r (cells.Fallback f) (places.Between left)) (fallback_line f) (l ∷ rest) (fallback_step b r left f h)
ended_again (cells.Cells cs) h b r left l rest none e =
    let (p, k) = cells_again cs h (Some b) r left (l ∷ rest) in
    k ∙ ap (λ o. go_on o l rest (λ u. run u rest)) (ends_step p (with_cells r cs) left l e)
    ∙ ap (λ x. run (state_ended_by r (cells.Cells (x ++ cs)) (places.Between left)) (l ∷ rest)) none

state_again : (s : RawState) → IsRawState s → (r : Reader) (left : ℕ) (l : Line) (rest : List Line) → r.items ≡ [] → r.edges ≡ [] → r.cells ≡ [] → Ends l →
    run (expecting r (places.Items left)) (map item_line s.items ++ (map edge_line s.edges ++ (cells_lines s.cells ++ l ∷ rest))) ≡ run (after r (s ∷ []) (places.Between left)) (l ∷ rest)
unfolding early
state_again s (hi, he, hc) r left l rest ni ne nc e =
    let (b, k) = edges_again s.edges he true (with_items r s.items) left (cells_lines s.cells ++ l ∷ rest) in
    items_again s.items hi r left (map edge_line s.edges ++ (cells_lines s.cells ++ l ∷ rest))
    ∙ k
    ∙ ended_again s.cells hc b (with_edges (with_items r s.items) s.edges) left l rest nc e
    ∙ ap (λ x. run (state_ended_by (record r { items = x ++ s.items; edges = r.edges ++ s.edges }) s.cells (places.Between left)) (l ∷ rest)) ni
    ∙ ap (λ x. run (state_ended_by (record r { items = s.items; edges = x ++ s.edges }) s.cells (places.Between left)) (l ∷ rest)) ne

-- The lines of all states are read to these states.

regroup : (i e c m t : List Line) → ((i ++ (e ++ c)) ++ m) ++ t ≡ i ++ (e ++ (c ++ (m ++ t)))
regroup i e c m t = append_assoc (i ++ (e ++ c)) m t ∙ append_assoc i (e ++ c) (m ++ t) ∙ ap (λ k. i ++ k) (append_assoc e c (m ++ t))

record Tail (ls : List Line) : Type 0 where
  first : Line
  rest : List Line
  is : ls ≡ first ∷ rest
  ends : Ends first

tail_of : (i : ℕ) (ss : List RawState) → Tail (states_lines i ss ++ end_line ∷ [])
tail_of i [] = record { first = end_line; rest = []; is = refl; ends = inr refl }
tail_of i (s ∷ ss) = record { first = count_line (codes "state") i; rest = _; is = refl; ends = inl refl }

zero_test : (n : ℕ) → 0 < n → nat_eq n 0 ≡ false
zero_test n h = ne_eqb n 0 (λ e. omega (arith, h, e))

open_step : (r : Reader) (left i : ℕ) → 0 < left → i ≡ length r.states → IsNumber i →
    next (expecting r (places.Between left)) (count_line (codes "state") i) ≡ Some (record r { items = []; edges = []; cells = []; place = places.Items (left - 1) })
unfolding next kind_of
open_step r left i some e small =
    ap (λ b. cond b None (count_of (decimal i ∷ []) >>= λ n. open_state (expecting r (places.Between left)) left n)) (zero_test left some)
    ∙ ap (λ x. x >>= λ n. open_state (expecting r (places.Between left)) left n) (count_parsed i small)
    ∙ ap (λ b. cond b (Some (record r { items = []; edges = []; cells = []; place = places.Items (left - 1) })) None) (eq-eqb i (length r.states) e)

end_step : (r : Reader) → next (expecting r (places.Between 0)) end_line ≡ Some (expecting r places.Ended)
unfolding next kind_of
end_step r = refl

done : (r : Reader) → run (expecting r places.Ended) [] ≡ Reads (table_of r)
unfolding finish
done r = refl

states_again : (ss : List RawState) → AllByRecursion IsRawState ss → (r : Reader) (i left : ℕ) → i ≡ length r.states → left ≡ length ss → IsNumber (i + left) →
    run (expecting r (places.Between left)) (states_lines i ss ++ end_line ∷ []) ≡ Reads (table_of (record r { states = r.states ++ ss }))
states_again [] h r i left e f small =
    subst (λ k. run (expecting r (places.Between k)) (end_line ∷ []) ≡ Reads (table_of (record r { states = r.states ++ [] }))) (sym f)
    (step (expecting r (places.Between 0)) (expecting r places.Ended) end_line [] (end_step r) ∙ done r ∙ ap (λ k. Reads (table_of (record r { states = k }))) (sym (append-nil r.states)))
states_again (s ∷ ss) (h, hs) r i left e f small =
    let tail = tail_of (i + 1) ss in
    let fresh = record r { items = []; edges = []; cells = []; place = places.Items (left - 1) } in
    let some : 0 < left = omega (arith, f) in
    let is = map item_line s.items in
    let es = map edge_line s.edges in
    let cs = cells_lines s.cells in
    step (expecting r (places.Between left)) fresh (count_line (codes "state") i) (((is ++ (es ++ cs)) ++ states_lines (i + 1) ss) ++ end_line ∷ []) (open_step r left i some e (omega (arith, small)))
    ∙ ap (λ k. run fresh k) (regroup is es cs (states_lines (i + 1) ss) (end_line ∷ []) ∙ ap (λ k. is ++ (es ++ (cs ++ k))) tail.is)
    ∙ state_again s h fresh (left - 1) tail.first tail.rest refl refl refl tail.ends
    ∙ ap (λ k. run (after r (s ∷ []) (places.Between (left - 1))) k) (sym tail.is)
    ∙ states_again ss hs (after r (s ∷ []) (places.Between (left - 1))) (i + 1) (left - 1) (omega (arith, e, length-append r.states (s ∷ []))) (omega (arith, f)) (omega (arith, small, some))
    ∙ ap (λ k. Reads (table_of (record r { states = k }))) (append_assoc r.states (s ∷ []) ss)

-- The lines of the productions are read to these productions.

production_step : (r : Reader) (left : ℕ) → 0 < left → (p : RawProduction) → IsRawProduction p → next (expecting r (places.Listing left)) (production_line p) ≡ Some (record r { productions = r.productions ++ p ∷ []; place = places.Listing (left - 1) })
unfolding next
production_step r left some p h =
    ap (λ b. cond b (at_states (expecting r (places.Listing left)) (kind_of p.lhs) (codes "->" ∷ p.rhs)) (production_of (production_line p) >>= λ q. Some (record r { productions = r.productions ++ q ∷ []; place = places.Listing (left - 1) }))) (zero_test left some)
    ∙ ap (λ x. x >>= λ q. Some (record r { productions = r.productions ++ q ∷ []; place = places.Listing (left - 1) })) (production_parsed p h)

states_step : (r : Reader) (n : ℕ) → IsNumber n → next (expecting r (places.Listing 0)) (count_line (codes "states") n) ≡ Some (expecting r (places.Between n))
unfolding next kind_of
states_step r n h = ap (λ x. x >>= λ k. Some (expecting r (places.Between k))) (count_parsed n h)

productions_again : (ps : List RawProduction) → AllByRecursion IsRawProduction ps → (r : Reader) (left n : ℕ) (rest : List Line) → left ≡ length ps → IsNumber n →
    run (expecting r (places.Listing left)) (map production_line ps ++ count_line (codes "states") n ∷ rest) ≡ run (record r { productions = r.productions ++ ps; place = places.Between n }) rest
productions_again [] h r left n rest f small =
    subst (λ k. run (expecting r (places.Listing k)) (count_line (codes "states") n ∷ rest) ≡ run (record r { productions = r.productions ++ []; place = places.Between n }) rest) (sym f)
    (step (expecting r (places.Listing 0)) (expecting r (places.Between n)) (count_line (codes "states") n) rest (states_step r n small) ∙ ap (λ k. run (record r { productions = k; place = places.Between n }) rest) (sym (append-nil r.productions)))
productions_again (p ∷ ps) (h, hs) r left n rest f small =
    let fresh = record r { productions = r.productions ++ p ∷ []; place = places.Listing (left - 1) } in
    step (expecting r (places.Listing left)) fresh (production_line p) (map production_line ps ++ count_line (codes "states") n ∷ rest) (production_step r left (omega (arith, f)) p h)
    ∙ productions_again ps hs fresh (left - 1) n rest (omega (arith, f)) small
    ∙ ap (λ k. run (record r { productions = k; place = places.Between n }) rest) (append_assoc r.productions (p ∷ []) ps)

-- The first lines, up to the costs.

abbrev blank : Option (List ℕ) → Option (List ℕ)
blank None = None
blank (Some costs) = Some []

head_of : (costs : Option (List ℕ)) → costs_for (version_of costs) ≡ Some (blank costs)
head_of None = refl
head_of (Some costs) = refl

version_small : (costs : Option (List ℕ)) → IsNumber (version_of costs)
version_small None = omega arith
version_small (Some costs) = omega arith

head_step : (r : Reader) (costs : Option (List ℕ)) (mode : Mode) → next (expecting r places.Head) (head_line (version_of costs) mode) ≡ Some (record r { mode = mode; costs = blank costs; place = places.Tokens })
unfolding next kind_of
head_step r costs mode =
    ap (λ x. x >>= λ n. costs_for n >>= λ costs. mode_of (mode_name mode) >>= λ m. Some (record r { mode = m; costs = costs; place = places.Tokens })) (number_parsed (version_of costs) (version_small costs))
    ∙ ap (λ x. x >>= λ costs. mode_of (mode_name mode) >>= λ m. Some (record r { mode = m; costs = costs; place = places.Tokens })) (head_of costs)
    ∙ ap (λ x. x >>= λ m. Some (record r { mode = m; costs = blank costs; place = places.Tokens })) (mode_parsed mode)

tokens_step : (r : Reader) (names : Line) → AllByRecursion IsName names → next (expecting r places.Tokens) (codes "tokens" ∷ names) ≡ Some (record r { tokens = names; place = expected_after_tokens r.costs })
unfolding next kind_of
tokens_step r names h = ap (λ x. x >>= λ ns. Some (record r { tokens = ns; place = expected_after_tokens r.costs })) (names_parsed names h)

costs_step : (r : Reader) (costs : List ℕ) → AllByRecursion IsNumber costs → next (expecting r places.Costs) (codes "costs" ∷ map decimal costs) ≡ Some (record r { costs = Some costs; place = places.Starts })
unfolding next kind_of
costs_step r costs h = ap (λ x. x >>= λ ns. Some (record r { costs = Some ns; place = places.Starts })) (numbers_parsed costs h)

starts_step : (r : Reader) (names : Line) → AllByRecursion IsName names → next (expecting r places.Starts) (codes "starts" ∷ names) ≡ Some (record r { starts = names; place = places.Productions })
unfolding next kind_of
starts_step r names h = ap (λ x. x >>= λ ns. Some (record r { starts = ns; place = places.Productions })) (names_parsed names h)

count_step : (r : Reader) (n : ℕ) → IsNumber n → next (expecting r places.Productions) (count_line (codes "productions") n) ≡ Some (expecting r (places.Listing n))
unfolding next kind_of
count_step r n h = ap (λ x. x >>= λ k. Some (expecting r (places.Listing k))) (count_parsed n h)

costs_again : (costs : Option (List ℕ)) → AreCosts costs → (r : Reader) (rest : List Line) → run (record r { costs = blank costs; place = expected_after_tokens (blank costs) }) (costs_lines costs ++ rest) ≡ run (record r { costs = costs; place = places.Starts }) rest
costs_again None h r rest = refl
costs_again (Some costs) h r rest = step (record r { costs = Some []; place = places.Costs }) (record r { costs = Some costs; place = places.Starts }) (codes "costs" ∷ map decimal costs) rest (costs_step (record r { costs = Some [] }) costs h)

-- Every raw table with valid names and numbers (`IsRawTable`) is read from its lines.
pub file_is_read : (raw : RawTable) → IsRawTable raw → run initial_reader (lines_of raw) ≡ Reads raw
file_is_read raw h =
    let count = length raw.states in
    let automaton = automaton_lines raw ++ end_line ∷ [] in
    let r1 = record initial_reader { mode = raw.mode; costs = blank raw.costs; place = places.Tokens } in
    let r2 = record initial_reader { mode = raw.mode; costs = blank raw.costs; tokens = raw.tokens; place = expected_after_tokens (blank raw.costs) } in
    let r3 = record initial_reader { mode = raw.mode; costs = raw.costs; tokens = raw.tokens; place = places.Starts } in
    let r4 = record r3 { starts = raw.starts; place = places.Productions } in
    let r5 = expecting r4 (places.Listing (length raw.productions)) in
    let r6 = record r4 { productions = raw.productions; place = places.Between count } in
    step initial_reader r1 (head_line (version_of raw.costs) raw.mode) ((codes "tokens" ∷ raw.tokens) ∷ costs_lines raw.costs ++ (grammar_lines raw ++ automaton)) (head_step initial_reader raw.costs raw.mode)
    ∙ step r1 r2 (codes "tokens" ∷ raw.tokens) (costs_lines raw.costs ++ (grammar_lines raw ++ automaton)) (tokens_step r1 raw.tokens h.tokens)
    ∙ costs_again raw.costs h.costs r3 (grammar_lines raw ++ automaton)
    ∙ step r3 r4 (codes "starts" ∷ raw.starts) (count_line (codes "productions") (length raw.productions) ∷ map production_line raw.productions ++ automaton) (starts_step r3 raw.starts h.starts)
    ∙ step r4 r5 (count_line (codes "productions") (length raw.productions)) (map production_line raw.productions ++ automaton) (count_step r4 (length raw.productions) h.few_productions)
    ∙ productions_again raw.productions h.productions r4 (length raw.productions) count (states_lines 0 raw.states ++ end_line ∷ []) refl h.few_states
    ∙ states_again raw.states h.states r6 0 count refl refl (omega (arith, h.few_states))

-- Every state of the reader can be continued to a whole file.

abbrev pub CanEnd : Reader → Type 0
CanEnd r = (ys : List Line) × (raw : RawTable) × (run r ys ≡ Reads raw)

abbrev no_state : RawState
no_state = record { items = []; edges = []; cells = cells.Cells [] }

no_states : ℕ → List RawState
no_states zero = []
no_states (suc n) = no_state ∷ no_states n

no_states_are : (n : ℕ) → AllByRecursion IsRawState (no_states n) × (n ≡ length (no_states n))
unfolding no_states
no_states_are zero = (tt, refl)
no_states_are (suc n) = let h = no_states_are n in (((tt, tt, tt), h.0), ap suc h.1)

abbrev some_production : RawProduction
some_production = record { lhs = codes "s"; rhs = [] }

some_productions : ℕ → List RawProduction
some_productions zero = []
some_productions (suc n) = some_production ∷ some_productions n

some_productions_are : (n : ℕ) → AllByRecursion IsRawProduction (some_productions n) × (n ≡ length (some_productions n))
unfolding some_productions
some_productions_are zero = (tt, refl)
some_productions_are (suc n) = let h = some_productions_are n in ((((λ e. cc), tt), h.0), ap suc h.1)

pub can_end_between : (left : ℕ) (r : Reader) → IsNumber (length r.states + left) → CanEnd (expecting r (places.Between left))
can_end_between left r small = let h = no_states_are left in (states_lines (length r.states) (no_states left) ++ end_line ∷ [], _, states_again (no_states left) h.0 r (length r.states) left refl h.1 small)

live_late : (o : Option Bool) (r : Reader) (left : ℕ) → IsNumber (length r.states + 1 + left) → CanEnd (expecting r (late o left))
live_late o r left small =
    let h = no_states_are left in
    let i = length (state_closed r).states in
    let tail = tail_of i (no_states left) in
    let count : i ≡ length r.states + 1 = length-append r.states (record { items = r.items; edges = r.edges; cells = cells.Cells r.cells } ∷ []) in (
      states_lines i (no_states left) ++ end_line ∷ [],
      _,
      ap (λ ls. run (expecting r (late o left)) ls) tail.is
          ∙ ap (λ o. go_on o tail.first tail.rest (λ u. run u tail.rest)) (ends_step o r left tail.first tail.ends)
          ∙ ap (λ ls. run (expecting (state_closed r) (places.Between left)) ls) (sym tail.is)
          ∙ states_again (no_states left) h.0 (state_closed r) i left refl h.1 (omega (arith, small, count)),
    )

pub can_end_items : (r : Reader) (left : ℕ) → IsNumber (length r.states + 1 + left) → CanEnd (expecting r (places.Items left))
unfolding late early
can_end_items r left small = live_late (Some true) r left small

pub can_end_edges : (r : Reader) (left : ℕ) → IsNumber (length r.states + 1 + left) → CanEnd (expecting r (places.Edges left))
unfolding late early
can_end_edges r left small = live_late (Some false) r left small

pub can_end_cells : (r : Reader) (left : ℕ) → IsNumber (length r.states + 1 + left) → CanEnd (expecting r (places.Cells left))
unfolding late early
can_end_cells r left small = live_late None r left small

zero_small : IsNumber 0
zero_small = omega arith

pub can_end_listing : (left : ℕ) (r : Reader) → r.states ≡ [] → CanEnd (expecting r (places.Listing left))
can_end_listing left r none =
    let h = some_productions_are left in
    let all = record r { productions = r.productions ++ some_productions left } in
    let l = can_end_between 0 all (subst (λ ss. IsNumber (length ss + 0)) (sym none) (omega arith)) in
    (map production_line (some_productions left) ++ count_line (codes "states") 0 ∷ l.0, l.1, productions_again (some_productions left) h.0 r left 0 l.0 h.1 zero_small ∙ l.2)

pub can_end_productions : (r : Reader) → r.states ≡ [] → CanEnd (expecting r places.Productions)
can_end_productions r none =
    let l = can_end_listing 0 r none in
    (count_line (codes "productions") 0 ∷ l.0, l.1, step (expecting r places.Productions) (expecting r (places.Listing 0)) (count_line (codes "productions") 0) l.0 (count_step r 0 zero_small) ∙ l.2)

pub can_end_starts : (r : Reader) → r.states ≡ [] → CanEnd (expecting r places.Starts)
can_end_starts r none =
    let l = can_end_productions (record r { starts = [] }) none in
    ((codes "starts" ∷ []) ∷ l.0, l.1, step (expecting r places.Starts) (record r { starts = []; place = places.Productions }) (codes "starts" ∷ []) l.0 (starts_step r [] tt) ∙ l.2)

pub can_end_costs : (r : Reader) → r.states ≡ [] → CanEnd (expecting r places.Costs)
can_end_costs r none =
    let l = can_end_starts (record r { costs = Some [] }) none in
    ((codes "costs" ∷ []) ∷ l.0, l.1, step (expecting r places.Costs) (record r { costs = Some []; place = places.Starts }) (codes "costs" ∷ []) l.0 (costs_step r [] tt) ∙ l.2)

live_behind_tokens : (costs : Option (List ℕ)) (r : Reader) → r.states ≡ [] → CanEnd (expecting r (expected_after_tokens costs))
live_behind_tokens None r none = can_end_starts r none
live_behind_tokens (Some costs) r none = can_end_costs r none

pub can_end_tokens : (r : Reader) → r.states ≡ [] → CanEnd (expecting r places.Tokens)
can_end_tokens r none =
    let l = live_behind_tokens r.costs (record r { tokens = [] }) none in
    ((codes "tokens" ∷ []) ∷ l.0, l.1, step (expecting r places.Tokens) (record r { tokens = []; place = expected_after_tokens r.costs }) (codes "tokens" ∷ []) l.0 (tokens_step r [] tt) ∙ l.2)

pub can_end_head : (r : Reader) → r.states ≡ [] → CanEnd (expecting r places.Head)
can_end_head r none =
    let l = can_end_tokens (record r { mode = Merged; costs = None }) none in
    (head_line 1 Merged ∷ l.0, l.1, step (expecting r places.Head) (record r { mode = Merged; costs = None; place = places.Tokens }) (head_line 1 Merged) l.0 (head_step r None Merged) ∙ l.2)

pub can_end_ended : (r : Reader) → CanEnd (expecting r places.Ended)
can_end_ended r = ([], table_of r, done r)
