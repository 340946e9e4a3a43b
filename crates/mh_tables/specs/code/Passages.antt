-- Upper bounds on the reductions of relative runs above an edge, by the symbol of the edge. Such a run begins with the
-- target of the edge (the upper state) above the source of the edge (the lower state).
use Rattle.std.specs.Prelude.{◌≡◌, ◌<◌, ◌≤◌, ◌+◌, ◌⊎◌, ℕ, List, length, slice_index, slice_get, Option, Some, None}
use Rattle.std.specs.List.{Contains}
use Rattle.mh_grammar.specs.declared.types.Symbol.{Symbol}
use Rattle.mh_grammar.specs.declared.types.Symbol.TheVariants.{T, N}
use Rattle.mh_grammar.specs.Plain.{rhs_of, lhs_of, production_count}
use Rattle.mh_tables_core.specs.Table.{TableData, edge_of}
use Rattle.mh_tables_core.specs.Run.{Reduces, run_move_of, top_of}
use Rattle.mh_tables_core.specs.Halting.{IsLook, NeverLoops, look_list}
use Rattle.mh_tables.specs.declared.bounds.Passage.{Passage}
use Rattle.mh_tables.specs.declared.bounds.Continuation.{Continuation}
use Rattle.mh_tables.specs.declared.bounds.Continuation.TheVariants as courses
use Rattle.mh_tables.specs.declared.bounds.TheConstants.{MAX_BOUND, MAX_TRIED}
use Rattle.mh_tables.specs.code.Relative.{StopsWithin}

-- The index of a symbol: tokens first, then nonterminals.
abbrev pub symbol_index : TableData → Symbol → ℕ
symbol_index t (T z) = z
symbol_index t (N A) = t.grammar.tokens + A

-- The number of symbols.
abbrev pub symbol_count : TableData → ℕ
symbol_count t = t.grammar.tokens + t.grammar.nonterminals

-- Definitions on the relative run of a state alone.

-- The run of the state alone makes `count` reductions, at most `MAX_TRIED`, and leaves this stack.
abbrev pub StopsAt : TableData → ℕ → Option ℕ → List ℕ → ℕ → Type 0
StopsAt t s look stack count = StopsWithin t None s look MAX_TRIED stack count

-- How a relative run above a lower state continues when the run of its upper state alone leaves this stack: it ends if
-- the next reduction takes off more than the stack, and it passes to an edge on nonterminal A if the next reduction
-- takes off exactly the stack and has the left side A.
abbrev pub HasContinuation : TableData → List ℕ → List ℕ → Continuation → Type 0
HasContinuation t left stack courses.Ends = (p : ℕ) → run_move_of t (top_of stack) left ≡ Reduces p → length stack < length (rhs_of t.grammar p)
HasContinuation t left stack (courses.Passes A) = (p : ℕ) × (run_move_of t (top_of stack) left ≡ Reduces p) × (length (rhs_of t.grammar p) ≡ length stack) × (lhs_of t.grammar p ≡ A)
HasContinuation t left stack courses.Unknown = Unit {0}

-- The relative run of the state alone stops, and the runs above lower states end there too.
pub record EndsAlone (t : TableData) (s : ℕ) (look : Option ℕ) : Type 0 where
  pub stack : List ℕ
  pub count : ℕ
  pub not_empty : 0 < length stack
  pub stops : StopsAt t s look stack count
  pub continues : HasContinuation t (look_list look) stack courses.Ends

-- The relative run of the state alone makes `count` reductions, and the runs above lower states pass to an edge on the
-- symbol with index `to`.
pub record PassesAlone (t : TableData) (s : ℕ) (look : Option ℕ) (count to : ℕ) : Type 0 where
  pub stack : List ℕ
  pub not_empty : 0 < length stack
  pub stops : StopsAt t s look stack count
  pub nonterminal : ℕ
  pub place : to ≡ symbol_index t (N nonterminal)
  pub continues : HasContinuation t (look_list look) stack (courses.Passes nonterminal)

-- Definitions on passages.

-- The symbols of the passage are in range.
abbrev pub IsPassageInRange : TableData → Passage → Type 0
IsPassageInRange t p = (p.from < symbol_count t) × (p.to < symbol_count t)

-- Each passage of the old list is in the new list.
abbrev pub KeepsPassages : List Passage → List Passage → Type 0
KeepsPassages old new = (p : Passage) → Contains old p → Contains new p

-- The list has this passage.
abbrev pub HasPassage : List Passage → ℕ → ℕ → ℕ → Type 0
HasPassage ps from to count = Contains ps (record { from = from; to = to; count = count })

-- A passage for the symbol has no useful bound, so that nothing is known about the runs above edges on it.
abbrev pub HasNoUsefulBound : List Passage → ℕ → Type 0
HasNoUsefulBound ps from = (p : Passage) × Contains ps p × (p.from ≡ from) × (MAX_BOUND ≤ p.count)

-- If production p has one symbol, the list has the passage from this symbol to the left side.
abbrev pub UnitIsIn : TableData → List Passage → ℕ → Type 0
UnitIsIn t ps p = (x : Symbol) → length (rhs_of t.grammar p) ≡ 1 → slice_get (rhs_of t.grammar p) 0 ≡ Some x → HasPassage ps (symbol_index t x) (symbol_index t (N (lhs_of t.grammar p))) 0

-- The list has the passages of all productions with one symbol.
abbrev pub UnitsAreIn : TableData → List Passage → Type 0
UnitsAreIn t ps = (p : ℕ) → length t.grammar.starts ≤ p → p < production_count t.grammar → UnitIsIn t ps p

-- The state reduces an empty production first.
abbrev pub IsEmptyFirst : TableData → ℕ → Option ℕ → Type 0
IsEmptyFirst t s look = (p : ℕ) × (run_move_of t s (look_list look) ≡ Reduces p) × (length (rhs_of t.grammar p) ≡ 0)

-- What a search for the empty production that the state reduces first may return. `None` means that the state does not
-- reduce an empty production first. Of a number it is only known that it is the number of a production that is not a
-- start production.
abbrev pub EmptyNext : TableData → ℕ → Option ℕ → Option ℕ → Type 0
EmptyNext t s look None = IsEmptyFirst t s look → ⊥
EmptyNext t s look (Some p) = (length t.grammar.starts ≤ p) × (p < production_count t.grammar)

-- The passage, if there is one, that is found for a state and a next token; `from` is the index of the symbol of the
-- edges to the state.
abbrev pub PassageOr : TableData → ℕ → ℕ → Option ℕ → Option Passage → Type 0
PassageOr t from s look None = IsEmptyFirst t s look → EndsAlone t s look
PassageOr t from s look (Some p) = (p.from ≡ from) × IsPassageInRange t p × ((MAX_BOUND ≤ p.count) ⊎ PassesAlone t s look p.count p.to)

-- If the state reduces an empty production first with this next token, its runs end or the list has its passage; or
-- nothing is known about the symbol `from`.
abbrev pub IsCoveredOn : TableData → List Passage → ℕ → ℕ → Option ℕ → Type 0
IsCoveredOn t ps from s look = HasNoUsefulBound ps from ⊎ (IsEmptyFirst t s look → EndsAlone t s look ⊎ ((count to : ℕ) × HasPassage ps from to count × PassesAlone t s look count to))

-- The passages of the state with each next token and with none are in the list, if they have to be.
abbrev pub IsCoveredFrom : TableData → List Passage → ℕ → ℕ → Type 0
IsCoveredFrom t ps from s = (look : Option ℕ) → IsLook t look → IsCoveredOn t ps from s look

-- The passages of the state are in the list, from each symbol whose edges lead to it.
abbrev pub IsCovered : TableData → List Passage → ℕ → Type 0
IsCovered t ps s = (r : ℕ) (x : Symbol) → edge_of t r x ≡ Some s → IsCoveredFrom t ps (symbol_index t x) s

-- The list has all passages of the table.
pub record AreAllPassages (t : TableData) (ps : List Passage) : Type 0 where
  pub units : UnitsAreIn t ps
  pub states : (s : ℕ) → s < length t.states → IsCovered t ps s

-- Definitions on bounds.

-- If the bound of the passage's origin is at most `MAX_BOUND`, it exceeds the bound of the passage's end by at least
-- the passage's reductions and one.
abbrev pub IsBoundHighEnough : List ℕ → Passage → Type 0
IsBoundHighEnough bounds p = slice_index bounds p.from ≤ MAX_BOUND → p.count + 1 + slice_index bounds p.to ≤ slice_index bounds p.from

-- No relative run above an edge makes more than `MAX_REDUCTIONS` reductions if the bound of the edge's symbol is at
-- most `MAX_BOUND`.
abbrev pub BoundsProveHalting : TableData → List ℕ → Type 0
BoundsProveHalting t bounds = (r u : ℕ) (x : Symbol) → edge_of t r x ≡ Some u → slice_index bounds (symbol_index t x) ≤ MAX_BOUND → NeverLoops t (Some r) u
