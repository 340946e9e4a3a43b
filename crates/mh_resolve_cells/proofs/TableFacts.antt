-- Proves that the table that is resolved from an automaton has the invariant of tables.
use Rattle.std.proofs.Common.{◌≡◌, ℕ, ◌<◌, ◌≤◌, ◌-◌, ◌⊎◌, List, [], ◌∷◌, length, get_or, Some, None, Option, lt-ltb, refl, ap, sym, ◌∙◌, arith, inl, inr}
use Rattle.std.specs.List.{Contains}
use Rattle.std.proofs.lemmas.Bool.{cases_lt}
use Rattle.std.proofs.lemmas.List.{get_or_past, length-map}
use Rattle.mh_grammar.specs.declared.types.Symbol.{Symbol}
use Rattle.mh_grammar.specs.declared.types.Symbol.TheVariants.{T, N}
use Rattle.mh_grammar.specs.declared.types.Grammar.{Grammar}
use Rattle.mh_grammar.specs.declared.types.TokenInfo.{TokenInfo}
use Rattle.mh_grammar.specs.declared.types.Look.{Look}
use Rattle.mh_grammar.specs.declared.types.Look.TheVariants.{Token, End}
use Rattle.mh_grammar.specs.Costs.{HaveCosts}
use Rattle.mh_grammar.proofs.Costs.{costs_in_range}
use Rattle.mh_grammar.specs.Plain.{PlainGrammar, plain_of, rhs_of, lhs_of, production_count, IsInRange, IsSymbolBelow}
use Rattle.mh_grammar.specs.Edges.{IsRising, IsEdgeBefore, find_edge}
use Rattle.mh_items_kernels.specs.KernelTypes.{Kernel}
use Rattle.mh_items_kernels.specs.KernelTypes.{KernelItem}
use Rattle.mh_items_kernels.specs.KernelTypes.{Automaton}
use Rattle.mh_items_kernels.specs.Kernels.{IsKernelItem, HasCoreItem}
use Rattle.mh_items_kernels.specs.Automaton.{IsAutomaton, IsTarget, HasMove, kernel_at, edges_at, leads_to, closure_of, start_kernel}
use Rattle.mh_tables_core.proofs.SymbolsInRange.{symbol_below}
use Rattle.mh_tables_core.specs.declared.parts.Place.{Place}
use Rattle.mh_tables_core.specs.declared.parts.Action.{Action}
use Rattle.mh_tables_core.specs.declared.parts.Action.TheVariants.{Shift, Reduce, Refuse}
use Rattle.mh_tables_core.specs.declared.parts.Fallback.{Fallback}
use Rattle.mh_tables_core.specs.declared.parts.Fallback.TheVariants as fallbacks
use Rattle.mh_tables_core.specs.declared.parts.StateParts.{StateParts}
use Rattle.mh_tables_core.specs.Table.{table_data, state_at, no_state, cell_of, fallback_of, edge_of}
use Rattle.mh_tables_core.specs.Facts.{Facts, InCore, HasGoto, ReducesBy, IsMovedFrom}
use Rattle.mh_resolve_cells.specs.declared.kinds.Mode.{Mode}
use Rattle.mh_resolve_cells.specs.Precedence.{error_rank}
use Rattle.mh_resolve_cells.specs.States.{State, state_of, Raw, IsKeptOn, IsFallback, FillsCell, IsCell, core_item_of, AreResolved}
use Rattle.mh_grammar.proofs.Lists.{get_from_drop, contains_one, contains_map, map_contains, recursion_contains}
use Rattle.mh_resolve_cells.proofs.ClosureItems.{closure_is_item, closure_within, core_item_or_begins, Begins, move_origin}

-- The premises of the lemmas: the states are those that are resolved from an automaton of the grammar.
pub record ResolutionPremises (g : Grammar) (a : Automaton) (mode : Mode) (states : List StateParts) : Type 0 where
  pub range : IsInRange (plain_of g)
  pub costs : HaveCosts g.tokens
  pub automaton : IsAutomaton (plain_of g) a
  pub resolved : AreResolved g a mode states

edge_in : {g : Grammar} {a : Automaton} {mode : Mode} {states : List StateParts} → ResolutionPremises g a mode states → (s : ℕ) (X : Symbol) → s < length a.kernels → edge_of (table_data g states) s X ≡ find_edge (edges_at a s) X
unfolding edge_of
edge_in m s X h = ap (λ es. find_edge es X) (m.resolved.each s h).edges

state_past : {g : Grammar} {a : Automaton} {mode : Mode} {states : List StateParts} → ResolutionPremises g a mode states → (s : ℕ) → length a.kernels ≤ s → state_at (table_data g states) s ≡ no_state
state_past {states = states} m s h = get_or_past states s no_state (let e = m.resolved.count in omega arith)

edge_within : {g : Grammar} {a : Automaton} {mode : Mode} {states : List StateParts} → ResolutionPremises g a mode states → (s : ℕ) (X : Symbol) (u : ℕ) → edge_of (table_data g states) s X ≡ Some u → s < length a.kernels
unfolding edge_of
edge_within {a = a} m s X u e =
    elim (cases_lt s (length a.kernels)) [
      | inl lt ↦ lt
      | inr ge ↦ (let f = ap (λ (parts : StateParts). find_edge parts.edges X) (state_past m s ge) in absurd (let g : Some u ≡ None = sym e ∙ f in cc))
    ]

edge_to : {g : Grammar} {a : Automaton} {mode : Mode} {states : List StateParts} → ResolutionPremises g a mode states → (s : ℕ) (X : Symbol) (u : ℕ) → edge_of (table_data g states) s X ≡ Some u → leads_to a s X ≡ Some u
edge_to m s X u e = sym (edge_in m s X (edge_within m s X u e)) ∙ e

target_of : {g : Grammar} {a : Automaton} {mode : Mode} {states : List StateParts} → ResolutionPremises g a mode states → (s : ℕ) (X : Symbol) (u : ℕ) → edge_of (table_data g states) s X ≡ Some u → HasMove (plain_of g) a s X × IsTarget (plain_of g) a s X u
target_of m s X u e = m.automaton.target s X u (edge_to m s X u e)

no_core : (parts : StateParts) (x : Place) → parts ≡ no_state → Contains parts.core x → ⊥
no_core parts x e c = let none : length parts.core ≡ 0 = ap (λ (q : StateParts). length q.core) e in omega (arith, c.1)

core_within : {g : Grammar} {a : Automaton} {mode : Mode} {states : List StateParts} → ResolutionPremises g a mode states → (s p d : ℕ) → InCore (table_data g states) s p d → s < length a.kernels
unfolding InCore
core_within {a = a} m s p d c =
    elim (cases_lt s (length a.kernels)) [
      | inl lt ↦ lt
      | inr ge ↦ absurd (no_core _ _ (state_past m s ge) c)
    ]

core_place : {g : Grammar} {a : Automaton} {mode : Mode} {states : List StateParts} → ResolutionPremises g a mode states → (s p d : ℕ) → InCore (table_data g states) s p d → HasCoreItem (kernel_at a s) p d
unfolding InCore
core_place {a = a} m s p d c =
    let core = (m.resolved.each s (core_within m s p d c)).core in
    let found = map_contains core_item_of (kernel_at a s).items (record { production = p; dot = d }) (rw core at c) in
    (found.0, found.1, ap (λ (q : Place). q.production) found.2, ap (λ (q : Place). q.dot) found.2)

place_core : {g : Grammar} {a : Automaton} {mode : Mode} {states : List StateParts} → ResolutionPremises g a mode states → (s p d : ℕ) → s < length a.kernels → HasCoreItem (kernel_at a s) p d → InCore (table_data g states) s p d
unfolding InCore
place_core {a = a} m s p d h place =
    let core = (m.resolved.each s h).core in
    let item = place.0 in
    let e : item.production ≡ p = place.2 in
    let f : item.dot ≡ d = place.3 in
    let c = contains_map core_item_of (kernel_at a s).items item place.1 in
    let is : core_item_of item ≡ record { production = p; dot = d } = cc in
    rw core (rw is at c)

goto_of : {g : Grammar} {a : Automaton} {mode : Mode} {states : List StateParts} → ResolutionPremises g a mode states → (s p : ℕ) → s < length a.kernels → Begins (plain_of g) a s p → HasGoto (table_data g states) s p
goto_of {g} m s p h b = (b.target, edge_in m s (N (lhs_of (plain_of g) p)) h ∙ b.goto)

behind : {g : Grammar} {a : Automaton} {mode : Mode} {states : List StateParts} → ResolutionPremises g a mode states → (r : ℕ) (X : Symbol) (u p d : ℕ) → edge_of (table_data g states) r X ≡ Some u → InCore (table_data g states) u p d → IsMovedFrom (table_data g states) r X p d
behind {g} {a} m r X u p d e c =
    let to = target_of m r X u e in
    let carried = to.1.core p d (core_place m u p d c) in
    let from = move_origin (plain_of g) (closure_of (plain_of g) a r) X p d carried.0 carried.1 in
    let dot = from.dot in
    let back : d - 1 ≡ from.place = omega arith in
    let lt = edge_within m r X u e in
    record {
      moved = omega arith;
      symbol = rw back (get_from_drop (rhs_of (plain_of g) p) from.place X from.rest from.before);
      source = elim (core_item_or_begins (plain_of g) a m.automaton r p from.place carried.0 from.in_set) [
        | inl place ↦ inl (place_core m r p (d - 1) lt (rw back place))
        | inr begins ↦ inr (omega (arith, begins.0), begins.1.ordinary, goto_of m r p lt begins.1)
      ];
    }

-- The production is complete on some look, and is not a start production.
record Completes (g : Grammar) (a : Automaton) (s p : ℕ) : Type 0 where
  ordinary : length g.starts ≤ p
  look : Look
  complete : Raw (state_of g a s) look (Reduce p)

kept_complete : (s : State) (look : Look) (p : ℕ) → IsKeptOn s look (Reduce p) → Raw s look (Reduce p)
kept_complete s (Token z) p k = k.0.0
kept_complete s End p k = k.0.0.0

by_fallback : (g : Grammar) (a : Automaton) (mode : Mode) (s p : ℕ) (f : Option Fallback) → f ≡ Some (fallbacks.Reduce p) → IsFallback mode (state_of g a s) f → Completes g a s p
by_fallback g a mode s p None e h = cc
by_fallback g a mode s p (Some fallbacks.Accept) e h = cc
by_fallback g a mode s p (Some (fallbacks.Reduce q)) e h =
    let same : q ≡ p = cc in
    record { ordinary = rw (← same) h.0; look = h.1.look; complete = rw (← same) (kept_complete (state_of g a s) h.1.look q h.1.some) }

pub named_ordinary : (g : Grammar) (p rank : ℕ) → error_rank g p ≡ Some rank → length g.starts ≤ p
unfolding error_rank
named_ordinary g p rank e =
    elim (cases_lt p (length g.starts)) [
      | inl lt ↦ absurd (let none = rw (lt-ltb p (length g.starts) lt) at e in let no : None ≡ Some rank = none in cc)
      | inr ge ↦ ge
    ]

by_fill : (g : Grammar) (a : Automaton) → IsAutomaton (plain_of g) a → (mode : Mode) (s z p : ℕ) → FillsCell mode (state_of g a s) z (Reduce p) → Completes g a s p
by_fill g a h mode s z p (inl takes) =
    let item = closure_is_item (plain_of g) a h s p (length (rhs_of (plain_of g) p)) (Token z) takes.0.0 in
    record {
      ordinary = elim (cases_lt p (length g.starts)) [ inl lt ↦ absurd (let no : Token z ≡ End = item.start lt in cc) | inr ge ↦ ge ];
      look = Token z;
      complete = takes.0.0;
    }
by_fill g a h mode s z p (inr fills) =
    let q = fills.2 in
    let for = fills.4 in
    let same : q ≡ p = let e = fills.3 in cc in
    record { ordinary = rw (← same) (named_ordinary g q for.rank for.candidate.rank_is); look = for.candidate.look; complete = rw (← same) for.candidate.complete }

by_cell : (g : Grammar) (a : Automaton) → IsAutomaton (plain_of g) a → (mode : Mode) (s z p : ℕ) (c : Action) → c ≡ Reduce p → IsCell mode (state_of g a s) z c → Completes g a s p
by_cell g a h mode s z p c e (inl fills) = by_fill g a h mode s z p (rw e at fills)
by_cell g a h mode s z p c e (inr none) = absurd (let no : Reduce p ≡ Refuse = sym e ∙ none.0 in cc)

shift_by_cell : (g : Grammar) (a : Automaton) (mode : Mode) (s z j : ℕ) (c : Action) → c ≡ Shift j → IsCell mode (state_of g a s) z c → leads_to a s (T z) ≡ Some j
shift_by_cell g a mode s z j c e (inl (inl takes)) = let t = rw e at takes in t.0
shift_by_cell g a mode s z j c e (inl (inr fills)) = absurd (let no : Shift j ≡ Reduce fills.2 = sym e ∙ fills.3 in cc)
shift_by_cell g a mode s z j c e (inr none) = absurd (let no : Shift j ≡ Refuse = sym e ∙ none.0 in cc)

cell_past : (parts : StateParts) (z : ℕ) → length parts.cells ≤ z → get_or parts.cells z Refuse ≡ Refuse
cell_past parts z h = get_or_past parts.cells z Refuse h

-- The automaton has the state s, and conflict resolution gives the state the action c on the token z.
record IsCellOfState (g : Grammar) (a : Automaton) (mode : Mode) (s z : ℕ) (c : Action) : Type 0 where
  state : s < length a.kernels
  cell : IsCell mode (state_of g a s) z c

-- An action of the table other than `Refuse` is the action of some state of the automaton.
cell_of_state : {g : Grammar} {a : Automaton} {mode : Mode} {states : List StateParts} → ResolutionPremises g a mode states → (s z : ℕ) (c : Action) → cell_of (table_data g states) s z ≡ c → (c ≡ Refuse → ⊥) → IsCellOfState g a mode s z c
unfolding cell_of
cell_of_state {g} {a} {mode} {states} m s z c e some =
    elim (cases_lt s (length a.kernels)) [
      | inl lt ↦ (
          let is = m.resolved.each s lt in
          elim (cases_lt z (length g.tokens)) [
            | inl known ↦ record { state = lt; cell = rw e at (is.cells z known) }
            | inr past ↦ absurd (some (sym e ∙ cell_past (get_or states s no_state) z (rw is.width past)))
          ])
      | inr ge ↦ absurd (some (sym e ∙ ap (λ (parts : StateParts). get_or parts.cells z Refuse) (state_past m s ge)))
    ]

-- The automaton has the state s, and conflict resolution gives the state the default f.
record IsFallbackOfState (g : Grammar) (a : Automaton) (mode : Mode) (s : ℕ) (f : Fallback) : Type 0 where
  state : s < length a.kernels
  fallback : IsFallback mode (state_of g a s) (Some f)

fallback_of_state : {g : Grammar} {a : Automaton} {mode : Mode} {states : List StateParts} → ResolutionPremises g a mode states → (s : ℕ) (f : Fallback) → fallback_of (table_data g states) s ≡ Some f → IsFallbackOfState g a mode s f
unfolding fallback_of
fallback_of_state {g} {a} {mode} {states} m s f e =
    elim (cases_lt s (length a.kernels)) [
      | inl lt ↦ record { state = lt; fallback = rw e at (m.resolved.each s lt).fallback }
      | inr ge ↦ absurd (let no : Some f ≡ None = sym e ∙ ap (λ (parts : StateParts). parts.fallback) (state_past m s ge) in cc)
    ]

completes : {g : Grammar} {a : Automaton} {mode : Mode} {states : List StateParts} → ResolutionPremises g a mode states → (s p : ℕ) → ReducesBy (table_data g states) s p → Completes g a s p
completes {g} {a} {mode} m s p (inl default) = by_fallback g a mode s p _ refl (fallback_of_state m s (fallbacks.Reduce p) default).fallback
completes {g} {a} {mode} m s p (inr cell) = by_cell g a m.automaton mode s cell.0 p (Reduce p) refl (cell_of_state m s cell.0 (Reduce p) cell.1 (λ no. cc)).cell

ordinary : {g : Grammar} {a : Automaton} {mode : Mode} {states : List StateParts} → ResolutionPremises g a mode states → (s p : ℕ) → ReducesBy (table_data g states) s p → (length g.starts ≤ p) × (p < production_count (plain_of g))
ordinary {g} {a} m s p r = let c = completes m s p r in (c.ordinary, (closure_is_item (plain_of g) a m.automaton s p (length (rhs_of (plain_of g) p)) c.look c.complete).production)

complete : {g : Grammar} {a : Automaton} {mode : Mode} {states : List StateParts} → ResolutionPremises g a mode states → (s p : ℕ) → ReducesBy (table_data g states) s p
    → InCore (table_data g states) s p (length (rhs_of (plain_of g) p)) ⊎ ((length (rhs_of (plain_of g) p) ≡ 0) × HasGoto (table_data g states) s p)
complete {g} {a} m s p r =
    let c = completes m s p r in
    let n = length (rhs_of (plain_of g) p) in
    let lt = closure_within (plain_of g) a s p n c.look c.complete in
    elim (core_item_or_begins (plain_of g) a m.automaton s p n c.look c.complete) [
      | inl place ↦ inl (place_core m s p n lt place)
      | inr begins ↦ inr (begins.0, goto_of m s p lt begins.1)
    ]

shifts : {g : Grammar} {a : Automaton} {mode : Mode} {states : List StateParts} → ResolutionPremises g a mode states → (s z j : ℕ) → cell_of (table_data g states) s z ≡ Shift j → edge_of (table_data g states) s (T z) ≡ Some j
shifts {g} {a} {mode} m s z j e =
    let c = cell_of_state m s z (Shift j) e (λ no. cc) in
    edge_in m s (T z) c.state ∙ shift_by_cell g a mode s z j (Shift j) refl c.cell

start_length : (g : PlainGrammar) (i : ℕ) → i < length g.starts → length (rhs_of g i) ≡ 1
unfolding rhs_of
start_length g i lt = rw (lt-ltb i (length g.starts) lt) refl

accepts : {g : Grammar} {a : Automaton} {mode : Mode} {states : List StateParts} → ResolutionPremises g a mode states → (s : ℕ) → fallback_of (table_data g states) s ≡ Some fallbacks.Accept → (i : ℕ) × (i < length g.starts) × InCore (table_data g states) s i 1
accepts {g} {a} {mode} {states} m s e =
    let d = fallback_of_state m s fallbacks.Accept e in
    let i = d.fallback.0 in
    let lt = d.fallback.1 in
    let default = d.fallback.2 in (
      i,
      lt,
      elim (core_item_or_begins (plain_of g) a m.automaton s i (length (rhs_of (plain_of g) i)) default.look (kept_complete (state_of g a s) default.look i default.some)) [
        | inl place ↦ place_core m s i 1 d.state (rw (start_length (plain_of g) i lt) at place)
        | inr begins ↦ absurd (omega (arith, begins.1.ordinary))
      ],
    )

only_item : (k : Kernel) (i p d : ℕ) → k ≡ start_kernel i → HasCoreItem k p d → (p ≡ i) × (d ≡ 0)
only_item k i p d e place =
    let item = place.0 in
    let c = rw e at place.1 in
    let same = sym (contains_one (record { production = i; dot = 0; looks = End ∷ [] }) item c) in
    let x : item.production ≡ p = place.2 in
    let y : item.dot ≡ d = place.3 in
    (sym x ∙ ap (λ (q : KernelItem). q.production) same, sym y ∙ ap (λ (q : KernelItem). q.dot) same)

start_core : {g : Grammar} {a : Automaton} {mode : Mode} {states : List StateParts} → ResolutionPremises g a mode states → (i p d : ℕ) → i < length g.starts → InCore (table_data g states) i p d → (p ≡ i) × (d ≡ 0)
start_core {a = a} m i p d lt c = only_item (kernel_at a i) i p d (m.automaton.starts i lt) (core_place m i p d c)

starts : {g : Grammar} {a : Automaton} {mode : Mode} {states : List StateParts} → ResolutionPremises g a mode states → (i : ℕ) → i < length g.starts → InCore (table_data g states) i i 0
starts {a = a} m i lt =
    let enough = m.automaton.enough_states in
    place_core m i i 0 (omega arith) (let e = m.automaton.starts i lt in rw e (record { production = i; dot = 0; looks = End ∷ [] }, (0, omega arith, refl), refl, refl))

filled : {g : Grammar} {a : Automaton} {mode : Mode} {states : List StateParts} → ResolutionPremises g a mode states → (s : ℕ) → s < length states → 0 < length (state_at (table_data g states) s).core
filled {a = a} m s lt =
    let count = m.resolved.count in
    let in' : s < length a.kernels = omega arith in
    let core = (m.resolved.each s in').core in
    let some = m.automaton.filled s in' in
    rw core (rw length-map some)

-- A symbol that moves an item is in the grammar's range.
pub moving_symbol : (g : PlainGrammar) (a : Automaton) → IsInRange g → (s : ℕ) (X : Symbol) → HasMove g a s X → IsSymbolBelow g.tokens g.nonterminals X
moving_symbol g a range s X m =
    let from = move_origin g (closure_of g a s) X m.production m.dot m.look m.moves in
    symbol_below g range m.production from.place X (get_from_drop (rhs_of g m.production) from.place X from.rest from.before)

each_symbol : {g : Grammar} {a : Automaton} {mode : Mode} {states : List StateParts} → ResolutionPremises g a mode states → (s : ℕ) (X : Symbol) (u : ℕ) → edge_of (table_data g states) s X ≡ Some u → IsSymbolBelow (length g.tokens) (length g.nonterminals) X
each_symbol {g} {a} m s X u e = moving_symbol (plain_of g) a m.range s X (target_of m s X u e).0

placed : (g : PlainGrammar) (item : KernelItem) (p d : ℕ) → item.production ≡ p → item.dot ≡ d → IsKernelItem g item → (p < production_count g) × (d ≤ length (rhs_of g p))
placed g item p d e f is = (rw (← e) is.production, rw (← e) (rw (← f) is.dot))

each_core : {g : Grammar} {a : Automaton} {mode : Mode} {states : List StateParts} → ResolutionPremises g a mode states → (s p d : ℕ) → InCore (table_data g states) s p d → (p < production_count (plain_of g)) × (d ≤ length (rhs_of (plain_of g) p))
each_core {g} {a} m s p d c =
    let place = core_place m s p d c in
    let item = place.0 in
    let is = recursion_contains (IsKernelItem (plain_of g)) (kernel_at a s).items (m.automaton.each s (core_within m s p d c)).items item place.1 in
    let production : item.production ≡ p = place.2 in
    let dot : item.dot ≡ d = place.3 in
    placed (plain_of g) item p d production dot is

order : {g : Grammar} {a : Automaton} {mode : Mode} {states : List StateParts} → ResolutionPremises g a mode states → (s : ℕ) → IsRising IsEdgeBefore (state_at (table_data g states) s).edges
order {g} {a} {mode} {states} m s =
    elim (cases_lt s (length a.kernels)) [
      | inl lt ↦ (let edges = (m.resolved.each s lt).edges in rw edges (m.automaton.order s lt))
      | inr ge ↦ (let past = state_past m s ge in rw past tt)
    ]

pub facts : (g : Grammar) (a : Automaton) (mode : Mode) (states : List StateParts) → ResolutionPremises g a mode states → Facts (table_data g states)
facts g a mode states m =
    let h = m.automaton in
    let range = m.range in
    let count = m.resolved.count in
    let enough = h.enough_states in
    let few = h.few in
    record {
      ranges = record {
        grammar = range;
        costs = costs_in_range g.tokens m.costs;
        each_cost = length-map g.tokens (λ (token : TokenInfo). token.cost);
        few_states = omega arith;
        each_row = λ s lt. (m.resolved.each s (omega arith)).width;
        each_symbol = each_symbol m;
        order = order m;
      };
      each_target = λ s X u e. (let k = (target_of m s X u e).1.known in omega arith);
      each_core = each_core m;
      enough_states = omega arith;
      start_core = start_core m;
      starts = starts m;
      filled = filled m;
      other_cores_moved = λ s p d ge c. h.moved s p d ge (core_place m s p d c);
      moved_from = behind m;
      ordinary = ordinary m;
      complete = complete m;
      shifts = shifts m;
      accepts = accepts m;
    }
