-- Loop invariants for the resolution of the states, one after another.
use Rattle.std.proofs.Common.{◌↔◌, Bool, ◌≡◌, ℕ, ◌<◌, ◌+◌, ◌++◌, List, [], ◌∷◌, length, get_or, ap, sym, ◌∙◌, arith, inl, inr, length-append}
use Rattle.std.proofs.lemmas.Bool.{cases_lt}
use Rattle.std.proofs.lemmas.List.{get_or_push, get_or_append_left, get_or_default}
use Rattle.mh_grammar.specs.declared.types.Grammar.{Grammar}
use Rattle.mh_grammar.specs.declared.types.Symbol.TheVariants.{T}
use Rattle.mh_grammar.specs.Costs.{HaveCosts}
use Rattle.mh_grammar.specs.Plain.{plain_of, IsInRange}
use Rattle.mh_items_kernels.specs.KernelTypes.{Automaton, Kernel}
use Rattle.mh_grammar.specs.declared.edges.Edge.{Edge}
use Rattle.mh_tables_core.specs.declared.parts.StateParts.{StateParts}
use Rattle.mh_items_kernels.specs.Automaton.{IsAutomaton, kernel_at, edges_at, no_kernel}
use Rattle.mh_items_kernels.specs.Kernels.{IsItemList}
use Rattle.mh_grammar.specs.Edges.{find_edge, IsRising, IsEdgeBefore}
use Rattle.mh_tables_core.specs.Table.{no_state, table_data}
use Rattle.mh_tables_core.specs.Facts.{Facts}
use Rattle.std.specs.List.{Contains}
use Rattle.std.proofs.lemmas.List.Elements.{Contains-append_cases, Contains-append_left, Contains-append_right}
use Rattle.mh_resolve_cells.specs.declared.conflicts.Conflict.{Conflict}
use Rattle.mh_resolve_cells.specs.declared.cells.Cell.{Cell}
use Rattle.mh_resolve_cells.specs.States.{HasConflictOn, state_of, IsResolved, AreResolved, closed_state}
use Rattle.mh_resolve_cells.specs.code.StateResults.{IsCellRow, AreEdgesKnown}
use Rattle.mh_resolve_cells.specs.code.ConflictList.{row_conflicts}
use Rattle.mh_resolve_cells.specs.Conflicts.{AreConflicts, IsConflictBefore}
use Rattle.mh_grammar.proofs.Lists.{rising-append}
use Rattle.mh_resolve_cells.proofs.ConflictList.{row_sound, row_complete, row_rising}
use Rattle.mh_resolve_cells.specs.declared.kinds.Mode.{Mode}
use Rattle.mh_resolve_cells.proofs.TableFacts.{facts, moving_symbol}

-- The first n states are resolved.
pub record AreFirstStates (g : Grammar) (a : Automaton) (mode : Mode) (n : ℕ) (states : List StateParts) : Type 0 where
  pub count : length states ≡ n
  pub each : (s : ℕ) → s < n → IsResolved mode (state_of g a s) (kernel_at a s) (get_or states s no_state)

pub kernel_is : (a : Automaton) (n : ℕ) (kernel : Kernel) → n < length a.kernels → kernel ≡ get_or a.kernels n kernel → kernel_at a n ≡ kernel
unfolding kernel_at
kernel_is a n kernel lt e = get_or_default a.kernels n no_kernel kernel lt ∙ sym e

pub edges_are : (a : Automaton) (n : ℕ) (edges row : List Edge) → n < length a.edges → row ≡ get_or a.edges n row → edges ≡ row → edges_at a n ≡ edges
unfolding edges_at
edges_are a n edges row lt e f = get_or_default a.edges n [] row lt ∙ sym e ∙ sym f

pub kernel_is_item_list : (g : Grammar) (a : Automaton) → IsAutomaton (plain_of g) a → (n : ℕ) (kernel : Kernel) → n < length a.kernels → kernel ≡ get_or a.kernels n kernel → IsItemList (plain_of g) kernel
kernel_is_item_list g a h n kernel lt e = let same = kernel_is a n kernel lt e in rw (← same) (h.each n lt)

pub edges_known : (g : Grammar) (a : Automaton) → IsInRange (plain_of g) → IsAutomaton (plain_of g) a → (n : ℕ) (edges row : List Edge) → n < length a.kernels → row ≡ get_or a.edges n row → edges ≡ row → AreEdgesKnown (length g.tokens) edges
edges_known g a range h n edges row lt e f z j found =
    let rows = h.rows in
    let same : edges_at a n ≡ edges = edges_are a n edges row (omega arith) e f in
    moving_symbol (plain_of g) a range n (T z) (h.target n (T z) j (ap (λ es. find_edge es (T z)) same ∙ found)).0

pub edges_rise : (g : Grammar) (a : Automaton) → IsAutomaton (plain_of g) a → (n : ℕ) (edges row : List Edge) → n < length a.kernels → row ≡ get_or a.edges n row → edges ≡ row → IsRising IsEdgeBefore edges
edges_rise g a h n edges row lt e f =
    let rows = h.rows in
    let same : edges_at a n ≡ edges = edges_are a n edges row (omega arith) e f in
    rw (← same) (h.order n lt)

pub first_states_more : (g : Grammar) (a : Automaton) → IsAutomaton (plain_of g) a → (mode : Mode) (n : ℕ) (kernel : Kernel) (edges row : List Edge) → n < length a.kernels → kernel ≡ get_or a.kernels n kernel → row ≡ get_or a.edges n row → edges ≡ row
    → (parts : StateParts) → IsResolved mode (closed_state g kernel edges) kernel parts → (states new : List StateParts) → new ≡ states ++ parts ∷ [] → AreFirstStates g a mode n states → AreFirstStates g a mode (n + 1) new
first_states_more g a h mode n kernel edges row lt e f k parts is states new more front =
    let rows = h.rows in
    let kernels : kernel_at a n ≡ kernel = kernel_is a n kernel lt e in
    let rowed : edges_at a n ≡ edges = edges_are a n edges row (omega arith) f k in
    let here : IsResolved mode (state_of g a n) (kernel_at a n) parts = rw (kernels, rowed) is in
    let count = front.count in
    record {
      count = ap length more ∙ length-append states (parts ∷ []) ∙ ap (λ k. k + 1) count;
      each = λ s below. elim (cases_lt s n) [
        | inl old ↦ (let same : get_or new s no_state ≡ get_or states s no_state = ap (λ xs. get_or xs s no_state) more ∙ get_or_append_left states (parts ∷ []) no_state s (omega arith) in rw same (front.each s old))
        | inr ge ↦ (
            let last : s ≡ n = omega arith in
            let same : get_or new n no_state ≡ parts = ap (λ xs. get_or xs n no_state) more ∙ get_or_push states parts no_state n count in
            rw last (rw same here))
      ];
    }

pub all_resolved : (g : Grammar) (a : Automaton) (mode : Mode) (n : ℕ) (states : List StateParts) → n ≡ length a.kernels → AreFirstStates g a mode n states → AreResolved g a mode states
all_resolved g a mode n states e f = record { count = f.count ∙ e; each = λ s lt. f.each s (omega arith) }

-- The table of resolved states meets `Facts`, the conditions on table data that the proofs on runs assume.
pub Facts-resolved : (g : Grammar) (a : Automaton) (mode : Mode) (states : List StateParts) → IsInRange (plain_of g) → HaveCosts g.tokens → IsAutomaton (plain_of g) a → AreResolved g a mode states → Facts (table_data g states)
Facts-resolved g a mode states range costs h r = facts g a mode states (record { range = range; costs = costs; automaton = h; resolved = r })

-- The list holds the conflicts of the first n states.
pub record AreFirstConflicts (g : Grammar) (a : Automaton) (n : ℕ) (conflicts : List Conflict) : Type 0 where
  pub members : (c : Conflict) → Contains conflicts c ↔ ((c.state < n) × HasConflictOn (state_of g a c.state) c.look c.kind)
  pub order : IsRising IsConflictBefore conflicts

pub none_collected : (g : Grammar) (a : Automaton) → AreFirstConflicts g a 0 []
none_collected g a = record { members = λ c. ((λ h. absurd (omega (arith, h.1))), (λ h. absurd (omega (arith, h.0)))); order = tt }

-- A row of cells for a kernel and its edges is the row of the state that has them.
pub IsCellRow-state_of : (g : Grammar) (a : Automaton) → IsAutomaton (plain_of g) a → (n : ℕ) (kernel : Kernel) (edges row : List Edge) → n < length a.kernels → kernel ≡ get_or a.kernels n kernel → row ≡ get_or a.edges n row → edges ≡ row
    → (cells : List Cell) (last : Cell) (stream : Bool) → IsCellRow (closed_state g kernel edges) cells last stream → IsCellRow (state_of g a n) cells last stream
IsCellRow-state_of g a h n kernel edges row lt e f k cells last stream r =
    let rows = h.rows in
    let kernels : kernel_at a n ≡ kernel = kernel_is a n kernel lt e in
    let rowed : edges_at a n ≡ edges = edges_are a n edges row (omega arith) f k in
    rw (kernels, rowed) r

pub collected_more : (g : Grammar) (a : Automaton) (n : ℕ) (cells : List Cell) (last : Cell) (stream : Bool) → IsCellRow (state_of g a n) cells last stream → (conflicts new : List Conflict) → new ≡ conflicts ++ row_conflicts n cells last stream → AreFirstConflicts g a n conflicts → AreFirstConflicts g a (n + 1) new
collected_more g a n cells last stream r conflicts new e k = rw e (record { members = λ c. (to c, from c); order = rising })
  where
    here : List Conflict
    here = row_conflicts n cells last stream

    to : (c : Conflict) → Contains (conflicts ++ here) c → (c.state < n + 1) × HasConflictOn (state_of g a c.state) c.look c.kind
    to c h = elim (Contains-append_cases conflicts here c h) [
      | inl o ↦ (let old = (k.members c).0 o in (omega (arith, old.0), old.1))
      | inr o ↦ (let found = row_sound (state_of g a n) n cells last stream r c o in let f : c.state ≡ n = found.0 in (omega arith, rw f found.1))
    ]

    from : (c : Conflict) → (c.state < n + 1) × HasConflictOn (state_of g a c.state) c.look c.kind → Contains (conflicts ++ here) c
    from c h = elim (cases_lt c.state n) [
      | inl lt ↦ Contains-append_left conflicts here c ((k.members c).1 (lt, h.1))
      | inr ge ↦ (
          let same : c.state ≡ n = omega (arith, h.0) in
          let at : HasConflictOn (state_of g a n) c.look c.kind = rw (← same) h.1 in
          Contains-append_right conflicts here c (row_complete (state_of g a n) n cells last stream r c same at))
    ]

    rising : IsRising IsConflictBefore (conflicts ++ here)
    rising = rising-append IsConflictBefore conflicts here k.order (row_rising (state_of g a n) n cells last stream r)
        (λ c d h i.
        let old = (k.members c).0 h in
        let found = row_sound (state_of g a n) n cells last stream r d i in
        let lt : c.state < d.state = omega (arith, old.0, found.0) in
        inl lt)

pub all_collected : (g : Grammar) (a : Automaton) (n : ℕ) (conflicts : List Conflict) → n ≡ length a.kernels → AreFirstConflicts g a n conflicts → AreConflicts g a conflicts
all_collected g a n conflicts e k = record { members = λ c. ((λ h. let x = (k.members c).0 h in (omega (arith, x.0), x.1)), (λ h. (k.members c).1 (omega (arith, h.0), h.1))); order = k.order }
