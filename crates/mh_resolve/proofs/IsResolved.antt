-- Proves that the parts that are computed for a state meet its definition.
use Rattle.std.proofs.Common.{◌≡◌, ℕ, ◌<◌, ◌↔◌, List, [], length, get_or, map, Option, Some, None, Bool, ap, ◌∙◌, arith}
use Rattle.std.specs.Prelude.{MatchOption, IsTrue}
use Rattle.std.specs.List.{All}
use Rattle.std.proofs.lemmas.List.{length-map, get_or-map}
use Rattle.std.proofs.lemmas.List.Elements.{All-from_recursion, All-weaker}
use Rattle.mh_grammar.specs.declared.types.Grammar.{Grammar}
use Rattle.mh_grammar.specs.declared.types.Look.{Look}
use Rattle.mh_grammar.specs.declared.types.Look.TheVariants.{Token, End}
use Rattle.mh_grammar.specs.declared.edges.Edge.{Edge}
use Rattle.mh_grammar.specs.Plain.{plain_of, IsLookBelow}
use Rattle.mh_items_kernels.specs.code.EmptyMarks.{HasCompleteItems}
use Rattle.mh_items_kernels.specs.KernelTypes.{Items, Kernel, KernelItem}
use Rattle.mh_items_kernels.specs.Kernels.{IsItemList, IsKernelItem}
use Rattle.mh_tables_core.specs.declared.parts.Action.{Action}
use Rattle.mh_tables_core.specs.declared.parts.Action.TheVariants.{Shift, Reduce, Refuse}
use Rattle.mh_tables_core.specs.declared.parts.StateParts.{StateParts}
use Rattle.mh_resolve_cells.specs.declared.kinds.Mode.{Mode}
use Rattle.mh_resolve_cells.specs.declared.cells.Cell.{Cell}
use Rattle.mh_resolve_cells.specs.States.{Raw, IsErrorCandidate, IsErrorReduction, core_item_of, IsResolved, closed_state}
use Rattle.mh_resolve_cells.specs.code.CellRows.{state_of_items, AreCells, IsDecidedOn, HasStreamConflictIn, IsDefaultIn, HasSomeLook, no_cell}
use Rattle.mh_resolve_cells.specs.code.StateResults.{kept_of, IsFiller, filled_with, fallback_for, AreLooksInRange, IsCellRow, AreEdgesKnown}
use Rattle.mh_resolve_cells.specs.code.LookTallies.{AreLooksKnown}
use Rattle.mh_resolve.proofs.EqualRawActions.{AreAlike, decided_same}
use Rattle.mh_grammar.proofs.Lists.{recursion_contains}
use Rattle.mh_resolve_cells.proofs.IsResolved.{stream_to, stream_from, default_found, fallback_is, cell_is}

-- The list has the complete items of the closure.
abbrev pub IsListed : Grammar → Kernel → Kernel → Type 0
IsListed g kernel closed = HasCompleteItems (plain_of g) kernel closed

raw_listed : (g : Grammar) (kernel : Kernel) (closed : Items) (edges : List Edge) → IsListed g kernel closed → (look : Look) → AreAlike (Raw (state_of_items g closed.items edges) look) (Raw (closed_state g kernel edges) look)
raw_listed g kernel closed edges e look = record { to = to; from = from }
  where
    to : (a : Action) → Raw (state_of_items g closed.items edges) look a → Raw (closed_state g kernel edges) look a
    to (Shift j) r = r
    to (Reduce p) r = (e p look).0 r
    to Refuse r = r

    from : (a : Action) → Raw (closed_state g kernel edges) look a → Raw (state_of_items g closed.items edges) look a
    from (Shift j) r = r
    from (Reduce p) r = (e p look).1 r
    from Refuse r = r

pub row_is : (g : Grammar) (kernel : Kernel) (closed : Items) (edges : List Edge) → IsListed g kernel closed → AreLooksInRange (closed_state g kernel edges) → (items : List KernelItem) → items ≡ closed.items → (cells slice row : List Cell) (last : Cell) (stream : Bool)
    → AreCells (state_of_items g items edges) (length g.tokens) cells → IsDecidedOn (state_of_items g items edges) End last → slice ≡ cells → row ≡ cells → (IsTrue stream ↔ HasStreamConflictIn last.action slice) → IsCellRow (closed_state g kernel edges) row last stream
row_is g kernel closed edges e k items same cells slice row last stream a d f h t =
    let here : AreCells (state_of_items g closed.items edges) (length g.tokens) cells = rw same at a in
    let there : AreCells (closed_state g kernel edges) (length g.tokens) cells = record {
      len = here.len;
      each = λ z lt. decided_same _ _ _ (raw_listed g kernel closed edges e (Token z)) (get_or cells z no_cell) (here.each z lt);
    } in
    let end : IsDecidedOn (state_of_items g closed.items edges) End last = rw same at d in
    let last_is = decided_same _ _ _ (raw_listed g kernel closed edges e End) last end in
    record {
      known = k;
      cells = rw h there;
      last = last_is;
      stream = (
        λ x. stream_to (closed_state g kernel edges) cells last k there last_is (rw f at (t.0 x)),
        λ x. t.1 (rw f (stream_from (closed_state g kernel edges) cells last k there last_is x)),
      );
    }

candidate_to : (g : Grammar) (kernel : Kernel) (closed : Items) (edges : List Edge) → IsListed g kernel closed → (p r : ℕ) → IsErrorCandidate (state_of_items g closed.items []) p r → IsErrorCandidate (closed_state g kernel edges) p r
candidate_to g kernel closed edges e p r c = record { look = c.look; complete = (e p c.look).0 c.complete; rank_is = c.rank_is }

candidate_from : (g : Grammar) (kernel : Kernel) (closed : Items) (edges : List Edge) → IsListed g kernel closed → (p r : ℕ) → IsErrorCandidate (closed_state g kernel edges) p r → IsErrorCandidate (state_of_items g closed.items []) p r
candidate_from g kernel closed edges e p r c = record { look = c.look; complete = (e p c.look).1 c.complete; rank_is = c.rank_is }

errors_to : (g : Grammar) (kernel : Kernel) (closed : Items) (edges : List Edge) → IsListed g kernel closed → (p : ℕ) → IsErrorReduction (state_of_items g closed.items []) p → IsErrorReduction (closed_state g kernel edges) p
errors_to g kernel closed edges e p f = record { rank = f.rank; candidate = candidate_to g kernel closed edges e p f.rank f.candidate; lowest = λ q r c. f.lowest q r (candidate_from g kernel closed edges e q r c) }

errors_from : (g : Grammar) (kernel : Kernel) (closed : Items) (edges : List Edge) → IsListed g kernel closed → (p : ℕ) → IsErrorReduction (closed_state g kernel edges) p → IsErrorReduction (state_of_items g closed.items []) p
errors_from g kernel closed edges e p f = record { rank = f.rank; candidate = candidate_from g kernel closed edges e p f.rank f.candidate; lowest = λ q r c. f.lowest q r (candidate_to g kernel closed edges e q r c) }

filler_to : (g : Grammar) (kernel : Kernel) (closed : Items) (edges : List Edge) → IsListed g kernel closed → (default filler : Option ℕ) → IsFiller (state_of_items g closed.items []) default filler → IsFiller (closed_state g kernel edges) default filler
filler_to g kernel closed edges e (Some p) filler f = f
filler_to g kernel closed edges e None None f = λ p h. f p (errors_from g kernel closed edges e p h)
filler_to g kernel closed edges e None (Some p) f = errors_to g kernel closed edges e p f

pub parts_is : (g : Grammar) (kernel : Kernel) (closed : Items) (edges : List Edge) (mode : Mode) → IsListed g kernel closed → AreLooksInRange (closed_state g kernel edges) → (row slice : List Cell) (last : Cell) (stream : Bool) → IsCellRow (closed_state g kernel edges) row last stream
    → slice ≡ row → (default filler : Option ℕ)
    → MatchOption default ((p : ℕ) → IsDefaultIn (kept_of stream last.action) mode slice p → ⊥) (IsDefaultIn (kept_of stream last.action) mode slice)
    → IsFiller (state_of_items g closed.items []) default filler
    → (parts : StateParts) → parts.cells ≡ map (filled_with filler) slice → parts.fallback ≡ fallback_for (length g.starts) default → parts.edges ≡ edges → parts.core ≡ map core_item_of kernel.items → IsResolved mode (closed_state g kernel edges) kernel parts
parts_is g kernel closed edges mode e k row slice last stream r same default filler d f parts cells fallback copies core =
    let s = closed_state g kernel edges in
    let is = default_found (closed_state g kernel edges) mode row last stream k r default (rw same at d) in
    let fills = filler_to g kernel closed edges e default filler f in
    let all : parts.cells ≡ map (filled_with filler) row = cells ∙ ap (map (filled_with filler)) same in
    let len = r.cells.len in
    record {
      width = rw all (rw length-map len);
      cells = λ z lt. (
          let at : get_or parts.cells z Refuse ≡ filled_with filler (get_or row z no_cell) = ap (λ xs. get_or xs z Refuse) all ∙ get_or-map (filled_with filler) row z no_cell Refuse (let below : z < length g.tokens = lt in omega arith) in
          rw at (cell_is (closed_state g kernel edges) mode z (get_or row z no_cell) default filler (r.cells.each z lt) is fills));
      fallback = rw fallback (fallback_is (closed_state g kernel edges) mode default is);
      edges = copies;
      core = core;
    }

pub known_is : (g : Grammar) (kernel : Kernel) (closed : Items) (edges : List Edge) → IsItemList (plain_of g) closed → IsListed g kernel closed → AreEdgesKnown (length g.tokens) edges → AreLooksInRange (closed_state g kernel edges)
known_is g kernel closed edges h e k = record { known = known }
  where
    known : (look : Look) (a : Action) → Raw (closed_state g kernel edges) look a → IsLookBelow (length g.tokens) look
    known End a r = tt
    known (Token z) (Shift j) r = k z j r
    known (Token z) (Reduce p) r =
        let held = (e p (Token z)).1 r in
        let is = recursion_contains (IsKernelItem (plain_of g)) closed.items h.items held.0 held.1 in
        recursion_contains (IsLookBelow (length g.tokens)) held.0.looks is.looks (Token z) held.4
    known (Token z) Refuse r = absurd r

pub items_have_looks : (g : Grammar) (closed : Items) → IsItemList (plain_of g) closed → All HasSomeLook closed.items
items_have_looks g closed h = All-weaker (IsKernelItem (plain_of g)) HasSomeLook (λ item is. is.some) closed.items (All-from_recursion (IsKernelItem (plain_of g)) closed.items h.items)

pub looks_known : (g : Grammar) (closed : Items) → IsItemList (plain_of g) closed → All (AreLooksKnown (length g.tokens)) closed.items
looks_known g closed h = All-weaker (IsKernelItem (plain_of g)) (AreLooksKnown (length g.tokens)) (λ item is. is.looks) closed.items (All-from_recursion (IsKernelItem (plain_of g)) closed.items h.items)
