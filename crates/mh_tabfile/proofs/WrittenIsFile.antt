-- Proves that the written file of a grammar whose names are words can be read back: its numbers are below 2^32, and its
-- words contain no space and no LF.
use Rattle.std.proofs.Common.{◌≡◌, ◌+◌, ◌<◌, ◌≤◌, ℕ, suc, List, [], ◌∷◌, ◌++◌, length, map, get_or, Option, None, Some, codes, decimal, arith, inl, inr, refl, sym, ap, ◌∙◌, subst}
use Rattle.std.specs.List.{AllByRecursion, slice_get}
use Rattle.std.specs.Option.{option_map, unwrap_or}
use Rattle.std.proofs.lemmas.List.{length-map}
use Rattle.std.proofs.lemmas.List.Elements.{recursion_from_All}
use Rattle.mh_grammar.proofs.Lists.{get_within, contains_at, at_contains, recursion-from, recursion-append, recursion-weaker, recursion_contains}
use Rattle.mh_grammar.proofs.EdgeOrder.{edge_found}
use Rattle.mh_grammar.specs.declared.types.Grammar.{Grammar}
use Rattle.mh_grammar.specs.declared.types.Look.{Look}
use Rattle.mh_grammar.specs.declared.types.Look.TheVariants.{Token, End}
use Rattle.mh_grammar.specs.declared.types.NontermInfo.{NontermInfo}
use Rattle.mh_grammar.specs.declared.types.Production.{Production}
use Rattle.mh_grammar.specs.declared.types.Symbol.{Symbol}
use Rattle.mh_grammar.specs.declared.types.Symbol.TheVariants.{T, N}
use Rattle.mh_grammar.specs.declared.types.TokenInfo.{TokenInfo}
use Rattle.mh_grammar.specs.declared.edges.Edge.{Edge}
use Rattle.mh_grammar.specs.Costs.{IsCost, costs_of}
use Rattle.mh_grammar.specs.Names.{token_name, nonterminal_name, symbol_name}
use Rattle.mh_grammar.specs.Edges.{find_edge}
use Rattle.mh_grammar.specs.Plain.{PlainGrammar, plain_of, production_count, rhs_of, IsInRange, IsSymbolBelow, IsLookBelow, IsProductionBelow}
use Rattle.mh_items_kernels.specs.KernelTypes.{KernelItem, Kernel, Automaton}
use Rattle.mh_items_kernels.specs.Kernels.{IsKernelItem}
use Rattle.mh_items_kernels.proofs.RhsInRange.{short_rhs}
use Rattle.mh_items_kernels.specs.Automaton.{IsAutomaton, no_kernel, kernel_at, edges_at}
use Rattle.mh_tables_core.specs.declared.parts.Action.{Action}
use Rattle.mh_tables_core.specs.declared.parts.Action.TheVariants as actions
use Rattle.mh_tables_core.specs.declared.parts.Fallback.{Fallback}
use Rattle.mh_tables_core.specs.declared.parts.Fallback.TheVariants as fallbacks
use Rattle.mh_tables_core.specs.declared.parts.StateParts.{StateParts}
use Rattle.mh_tables_core.specs.Facts.{Facts}
use Rattle.mh_tables_core.specs.Table.{TableData, no_state, state_at, cell_of, fallback_of, edge_of}
use Rattle.mh_resolve_cells.specs.declared.kinds.Mode.{Mode}
use Rattle.mh_resolve_cells.specs.States.{IsTableOf}
use Rattle.mh_resolve_cells.specs.Names.{look_name}
use Rattle.mh_tabfile_form.specs.declared.types.RawCells.TheVariants as cells
use Rattle.mh_tabfile_form.specs.declared.types.RawState.{RawState}
use Rattle.mh_tabfile_form.specs.declared.types.RawTable.{RawTable}
use Rattle.mh_tabfile_form.specs.Form.{Line, IsInWord, IsWord, IsLine, IsName, IsNumber, IsRawState, IsRawItem, IsRawEdge, IsRawCell, IsRawFallback, AreRawCells, IsRawProduction, IsFileOf, count_line, production_line, item_line, edge_line, cell_line, fallback_line, cells_lines, state_lines, states_lines, end_line, table_text}
use Rattle.mh_tabfile_form.specs.TableContent.{HasWordNames, raw_production, raw_item, raw_edge, raw_cell, raw_row, raw_cells, raw_state_of, raw_states, raw_of}
use Rattle.mh_tabfile_form.proofs.NoSpaces.{plain, number_plain, mode_plain}
use Rattle.mh_tabfile.proofs.LinesWritten.{count_states}

-- Words.

-- The words of a line, of which some may be empty.
abbrev Words : Line → Type 0
Words line = AllByRecursion (AllByRecursion IsInWord) line

names_of : (line : Line) → AllByRecursion IsWord line → AllByRecursion IsName line
names_of line h = recursion-weaker IsWord IsName (λ word is. is.0) line h

words_of : (line : Line) → AllByRecursion IsWord line → Words line
words_of line h = recursion-weaker IsWord (AllByRecursion IsInWord) (λ word is. is.1) line h

mapped : {X Y : Type 0} (P : X → Type 0) (Q : Y → Type 0) (f : X → Y) → ((x : X) → P x → Q (f x)) → (xs : List X) → AllByRecursion P xs → AllByRecursion Q (map f xs)
mapped P Q f h [] all = tt
mapped P Q f h (x ∷ xs) (one, all) = (h x one, mapped P Q f h xs all)

-- If each value of the list satisfies `IsRawX` and its line is well formed, then all values satisfy `IsRawX` and all
-- their lines are well formed.
legible : {X : Type 0} (IsRawX : X → Type 0) (line : X → Line) (xs : List X) → AllByRecursion (λ x. IsRawX x × IsLine (line x)) xs → AllByRecursion IsRawX xs × AllByRecursion IsLine (map line xs)
legible IsRawX line xs h = (recursion-weaker (λ x. IsRawX x × IsLine (line x)) IsRawX (λ x both. both.0) xs h, mapped (λ x. IsRawX x × IsLine (line x)) IsLine line (λ x both. both.1) xs h)

count : (key : List ℕ) (n : ℕ) → AllByRecursion IsInWord key → IsNumber n → IsLine (count_line key n)
count key n is small = ((λ e. cc), (is, (number_plain n small, tt)))

-- The names of tokens, nonterminals and symbols are words.

token : (g : Grammar) → HasWordNames g → (z : ℕ) → z < length g.tokens → IsWord (token_name g z)
unfolding token_name
token g h z known =
    let (info, e) = get_within g.tokens z known in
    subst (λ o. IsWord (unwrap_or (option_map (λ (i : TokenInfo). i.name) o) [])) (sym e) (recursion_contains (λ (t : TokenInfo). IsWord t.name) g.tokens (recursion_from_All _ g.tokens h.tokens) info (contains_at g.tokens z info e))

nonterminal : (g : Grammar) → HasWordNames g → (n : ℕ) → n < length g.nonterminals → IsWord (nonterminal_name g n)
unfolding nonterminal_name
nonterminal g h n known =
    let (info, e) = get_within g.nonterminals n known in
    subst (λ o. IsWord (unwrap_or (option_map (λ (i : NontermInfo). i.name) o) [])) (sym e) (recursion_contains (λ (i : NontermInfo). IsWord i.name) g.nonterminals (recursion_from_All _ g.nonterminals h.nonterminals) info (contains_at g.nonterminals n info e))

symbol : (g : Grammar) → HasWordNames g → (X : Symbol) → IsSymbolBelow (length g.tokens) (length g.nonterminals) X → IsWord (symbol_name g X)
symbol g h (T z) known = token g h z known
symbol g h (N n) known = nonterminal g h n known

look : (g : Grammar) → HasWordNames g → (l : Look) → IsLookBelow (length g.tokens) l → IsWord (look_name g l)
look g h (Token z) known = token g h z known
look g h End known = ((λ e. cc), plain (codes "#") refl)

-- Productions and items are written in the form that the file has (`IsRawProduction`, `IsRawItem`).

production : (g : Grammar) → HasWordNames g → (p : Production) → IsProductionBelow (length g.tokens) (length g.nonterminals) p → IsRawProduction (raw_production g p) × IsLine (production_line (raw_production g p))
production g h p known =
    let lhs = nonterminal g h p.lhs known.lhs in
    let rhs = mapped (IsSymbolBelow (length g.tokens) (length g.nonterminals)) IsWord (symbol_name g) (symbol g h) p.rhs (recursion_from_All _ p.rhs known.rhs) in
    ((lhs.0, names_of (map (symbol_name g) p.rhs) rhs), ((λ e. cc), (lhs.1, (plain (codes "->") refl, words_of (map (symbol_name g) p.rhs) rhs))))

module _ (g : Grammar) (h : HasWordNames g) (range : IsInRange (plain_of g)) where
  item : ((p : ℕ) → p < production_count (plain_of g) → IsNumber (length (rhs_of (plain_of g) p))) → (i : KernelItem) → IsKernelItem (plain_of g) i → IsRawItem (raw_item g i) × IsLine (item_line (raw_item g i))
  item short i is =
      let production : IsNumber i.production = omega (arith, is.production, range.few) in
      let dot : IsNumber i.dot = omega (arith, is.dot, short i.production is.production) in
      let looks = mapped (IsLookBelow (length g.tokens)) IsWord (look_name g) (look g h) i.looks is.looks in
      ((production, dot, names_of (map (look_name g) i.looks) looks), ((λ e. cc), (plain (codes "item") refl, (number_plain i.production production, (number_plain i.dot dot, words_of (map (look_name g) i.looks) looks)))))

  module _ (t : TableData) (same : t.grammar ≡ plain_of g) (facts : Facts t) where
    below : (s : ℕ) (X : Symbol) (u : ℕ) → edge_of t s X ≡ Some u → IsNumber u
    below s X u e = omega (arith, facts.each_target s X u e, facts.ranges.few_states)

    few : (p : ℕ) → p < production_count t.grammar → IsNumber p
    few p known = omega (arith, known, ap production_count same, range.few)

    edge : (s : ℕ) (e : Edge) → edge_of t s e.symbol ≡ Some e.target → IsRawEdge (raw_edge g e) × IsLine (edge_line (raw_edge g e))
    edge s e is =
        let name = symbol g h e.symbol (subst (λ (k : PlainGrammar). IsSymbolBelow k.tokens k.nonterminals e.symbol) same (facts.ranges.each_symbol s e.symbol e.target is)) in
        let target = below s e.symbol e.target is in
        ((name.0, target), ((λ f. cc), (plain (codes "edge") refl, (name.1, (number_plain e.target target, tt)))))

    cell : (s z : ℕ) → z < length g.tokens → (a : Action) → cell_of t s z ≡ a → AllByRecursion (λ c. IsRawCell c × IsLine (cell_line c)) (raw_cell g z a)
    cell s z known (actions.Shift j) is =
        let name = token g h z known in
        let target = below s (T z) j (facts.shifts s z j is) in
        (((name.0, target), ((λ e. cc), (plain (codes "cell") refl, (name.1, (plain (codes "shift") refl, (number_plain j target, tt)))))), tt)
    cell s z known (actions.Reduce p) is =
        let name = token g h z known in
        let small = few p (facts.ordinary s p (inr (z, is))).1 in
        (((name.0, small), ((λ e. cc), (plain (codes "cell") refl, (name.1, (plain (codes "reduce") refl, (number_plain p small, tt)))))), tt)
    cell s z known actions.Refuse is = tt

    row : (s z : ℕ) (cells : List Action) → z + length cells ≤ length g.tokens → ((i : ℕ) → i < length cells → cell_of t s (z + i) ≡ get_or cells i actions.Refuse) → AllByRecursion (λ c. IsRawCell c × IsLine (cell_line c)) (raw_row g z cells)
    row s z [] known at = tt
    row s z (a ∷ rest) known at =
        recursion-append (λ c. IsRawCell c × IsLine (cell_line c)) (raw_cell g z a) (raw_row g (z + 1) rest)
        (cell s z (omega (arith, known)) a (ap (cell_of t s) (omega arith) ∙ at 0 (omega arith)))
        (row s (z + 1) rest (omega (arith, known)) (λ i l. ap (cell_of t s) (omega arith) ∙ at (suc i) (omega (arith, l))))

    fallback : (s : ℕ) (f : Fallback) → fallback_of t s ≡ Some f → IsRawFallback f × IsLine (fallback_line f)
    fallback s fallbacks.Accept is = (tt, ((λ e. cc), (plain (codes "default") refl, (plain (codes "accept") refl, tt))))
    fallback s (fallbacks.Reduce p) is =
        let small = few p (facts.ordinary s p (inl is)).1 in
        (small, ((λ e. cc), (plain (codes "default") refl, (plain (codes "reduce") refl, (number_plain p small, tt)))))

    -- States.

    -- The state has the content that a table file needs (`IsRawState`), and its lines are well formed.
    abbrev pub Legible : RawState → Type 0
    Legible s = IsRawState s × AllByRecursion IsLine (map item_line s.items ++ (map edge_line s.edges ++ cells_lines s.cells))

    acting : (s : ℕ) → s < length t.states → AllByRecursion (λ c. IsRawCell c × IsLine (cell_line c)) (raw_row g 0 (state_at t s).cells)
    unfolding cell_of
    acting s known = row s 0 (state_at t s).cells (omega (arith, facts.ranges.each_row s known, ap (λ (k : PlainGrammar). k.tokens) same)) (λ i l. ap (λ z. get_or (state_at t s).cells z actions.Refuse) (omega arith))

    cells_by : (s : ℕ) → s < length t.states → (parts : StateParts) → parts ≡ state_at t s → (o : Option Fallback) → parts.fallback ≡ o → AreRawCells (raw_cells g parts) × AllByRecursion IsLine (cells_lines (raw_cells g parts))
    unfolding fallback_of
    cells_by s known parts e None is =
        let both = legible IsRawCell cell_line (raw_row g 0 parts.cells) (subst (λ (p : StateParts). AllByRecursion (λ c. IsRawCell c × IsLine (cell_line c)) (raw_row g 0 p.cells)) (sym e) (acting s known)) in
        subst (λ o. AreRawCells (elim o [ None ↦ cells.Cells (raw_row g 0 parts.cells) | Some f ↦ cells.Fallback f ]) × AllByRecursion IsLine (cells_lines (elim o [ None ↦ cells.Cells (raw_row g 0 parts.cells) | Some f ↦ cells.Fallback f ]))) (sym is) both
    cells_by s known parts e (Some f) is =
        let both = fallback s f (ap (λ (p : StateParts). p.fallback) (sym e) ∙ is) in
        subst (λ o. AreRawCells (elim o [ None ↦ cells.Cells (raw_row g 0 parts.cells) | Some f ↦ cells.Fallback f ]) × AllByRecursion IsLine (cells_lines (elim o [ None ↦ cells.Cells (raw_row g 0 parts.cells) | Some f ↦ cells.Fallback f ]))) (sym is) (both.0, (both.1, tt))

    edges_found : (s : ℕ) (edges : List Edge) → edges ≡ (state_at t s).edges → AllByRecursion (λ (e : Edge). edge_of t s e.symbol ≡ Some e.target) edges
    unfolding edge_of
    edges_found s edges e = recursion-from (λ (x : Edge). find_edge (state_at t s).edges x.symbol ≡ Some x.target) edges (λ x c.
        let at = at_contains edges x c in
        edge_found (state_at t s).edges at.0 x (facts.ranges.order s) (ap (λ (l : List Edge). slice_get l at.0) (sym e) ∙ at.1))

    state : (s : ℕ) → s < length t.states → (k : Kernel) → AllByRecursion (IsKernelItem (plain_of g)) k.items → ((p : ℕ) → p < production_count (plain_of g) → IsNumber (length (rhs_of (plain_of g) p))) →
        (edges : List Edge) → edges ≡ (state_at t s).edges → Legible (raw_state_of g k edges (state_at t s))
    state s known k are short edges same_edges =
        let items = legible IsRawItem item_line (map (raw_item g) k.items) (mapped (IsKernelItem (plain_of g)) (λ i. IsRawItem i × IsLine (item_line i)) (raw_item g) (item short) k.items are) in
        let on = legible IsRawEdge edge_line (map (raw_edge g) edges) (mapped (λ (e : Edge). edge_of t s e.symbol ≡ Some e.target) (λ e. IsRawEdge e × IsLine (edge_line e)) (raw_edge g) (edge s) edges (edges_found s edges same_edges)) in
        let acts = cells_by s known (state_at t s) refl (state_at t s).fallback refl in (
          (items.0, on.0, acts.0),
          recursion-append IsLine (map item_line (map (raw_item g) k.items)) (map edge_line (map (raw_edge g) edges) ++ cells_lines (raw_cells g (state_at t s))) items.1
              (recursion-append IsLine (map edge_line (map (raw_edge g) edges)) (cells_lines (raw_cells g (state_at t s))) on.1 acts.1),
        )

    -- If each state is legible, the lines of all states are lines of a file.

    all_states : (ks : List Kernel) (rows : List (List Edge)) (parts : List StateParts) → ((i : ℕ) → i < length parts → Legible (raw_state_of g (get_or ks i no_kernel) (get_or rows i []) (get_or parts i no_state))) →
        length rows ≡ length ks → length parts ≡ length ks → AllByRecursion Legible (raw_states g ks rows parts)
    all_states [] rows parts each e f = tt
    all_states (k ∷ ks) [] parts each e f = absurd (omega (arith, e))
    all_states (k ∷ ks) (r ∷ rows) [] each e f = absurd (omega (arith, f))
    all_states (k ∷ ks) (r ∷ rows) (p ∷ parts) each e f = (each 0 (omega arith), all_states ks rows parts (λ i l. each (suc i) (omega (arith, l))) (omega (arith, e)) (omega (arith, f)))

    states_are : (i : ℕ) (ss : List RawState) → IsNumber (i + length ss) → AllByRecursion Legible ss → AllByRecursion IsLine (states_lines i ss)
    states_are i [] small h = tt
    states_are i (s ∷ ss) small (one, more) =
        recursion-append IsLine (state_lines i s) (states_lines (i + 1) ss) (count (codes "state") i (plain (codes "state") refl) (omega (arith, small)), one.1) (states_are (i + 1) ss (omega (arith, small)) more)

    -- The whole file.
    module _ (a : Automaton) (mode : Mode) (costs : t.costs ≡ costs_of g.tokens) (rows : length a.edges ≡ length a.kernels) (count_of : length t.states ≡ length a.kernels)
        (each : (s : ℕ) → s < length a.kernels → Legible (raw_state_of g (kernel_at a s) (edges_at a s) (state_at t s))) where
      abbrev Whole : RawTable
      Whole = raw_of g a mode t.states

      states : AllByRecursion Legible Whole.states
      unfolding kernel_at edges_at
      states = all_states a.kernels a.edges t.states (λ s known. each s (omega (arith, known, count_of))) rows count_of

      few_states : IsNumber (length Whole.states)
      few_states = omega (arith, count_states g a.kernels a.edges t.states rows count_of, count_of, facts.ranges.few_states)

      few_productions : IsNumber (length Whole.productions)
      few_productions = omega (arith, length-map g.productions (raw_production g), range.few)

      tokens : AllByRecursion IsWord Whole.tokens
      tokens = mapped (λ (i : TokenInfo). IsWord i.name) IsWord (λ (i : TokenInfo). i.name) (λ i is. is) g.tokens (recursion_from_All _ g.tokens h.tokens)

      starts : AllByRecursion IsWord Whole.starts
      starts = mapped (λ n. n < length g.nonterminals) IsWord (nonterminal_name g) (nonterminal g h) g.starts (recursion_from_All _ g.starts range.starts)

      numbers : AllByRecursion IsNumber (costs_of g.tokens)
      numbers = recursion-weaker IsCost IsNumber (λ c is. omega (arith, is.1)) (costs_of g.tokens) (subst (AllByRecursion IsCost) costs (recursion_from_All IsCost t.costs facts.ranges.costs))

      productions : AllByRecursion IsRawProduction Whole.productions × AllByRecursion IsLine (map production_line Whole.productions)
      productions = legible IsRawProduction production_line Whole.productions (mapped (IsProductionBelow (length g.tokens) (length g.nonterminals)) (λ p. IsRawProduction p × IsLine (production_line p)) (raw_production g) (production g h) g.productions (recursion_from_All _ g.productions range.productions))

      pub is_file : IsFileOf (table_text Whole) Whole
      is_file = record {
        spelled = record {
          tokens = names_of Whole.tokens tokens;
          costs = numbers;
          starts = names_of Whole.starts starts;
          productions = productions.0;
          few_productions = few_productions;
          states = recursion-weaker Legible IsRawState (λ s both. both.0) Whole.states states;
          few_states = few_states;
        };
        words = (
          ((λ e. cc), (plain (codes "menhir-tables") refl, (number_plain 2 (omega arith), (mode_plain mode, tt)))),
          (
            ((λ e. cc), (plain (codes "tokens") refl, words_of Whole.tokens tokens)),
            (
              ((λ e. cc), (plain (codes "costs") refl, mapped IsNumber (AllByRecursion IsInWord) decimal number_plain (costs_of g.tokens) numbers)),
              (
                ((λ e. cc), (plain (codes "starts") refl, words_of Whole.starts starts)),
                (
                  count (codes "productions") (length Whole.productions) (plain (codes "productions") refl) few_productions,
                  recursion-append IsLine (map production_line Whole.productions) _ productions.1 (
                    count (codes "states") (length Whole.states) (plain (codes "states") refl) few_states,
                    recursion-append IsLine (states_lines 0 Whole.states) (end_line ∷ []) (states_are 0 Whole.states (omega (arith, few_states)) states) (((λ e. cc), (plain (codes "end") refl, tt)), tt),
                  ),
                ),
              ),
            ),
          ),
        );
        bytes_are = refl;
      }

-- The written file of an automaton and its table is a table file with their content.
pub is_written : (g : Grammar) (a : Automaton) (mode : Mode) (t : TableData) → HasWordNames g → IsInRange (plain_of g) → IsAutomaton (plain_of g) a → IsTableOf g a mode t → Facts t → IsFileOf (table_text (raw_of g a mode t.states)) (raw_of g a mode t.states)
is_written g a mode t names range automaton is facts =
    is_file g names range t is.grammar facts a mode is.costs automaton.rows is.states.count (λ s known.
    state g names range t is.grammar facts s (omega (arith, known, is.states.count)) (kernel_at a s) (automaton.each s known).items (short_rhs (plain_of g) range) (edges_at a s) (sym (is.states.each s known).edges))
