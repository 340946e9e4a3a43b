-- The cells of a state, as the code keeps them.
use Rattle.std.specs.Prelude.{◌≡◌, ◌<◌, ◌≤◌, ◌⊎◌, ℕ, Bool, true, false, not, ◌||◌, ◌==◌, nat_lt, if◌then◌else◌, List, Option, Some, None, length, slice_index_or, MatchBool}
use Rattle.std.specs.List.{All, Contains}
use Rattle.mh_grammar.specs.declared.types.Grammar.{Grammar}
use Rattle.mh_grammar.specs.declared.types.Look.{Look}
use Rattle.mh_grammar.specs.declared.types.Look.TheVariants.{Token}
use Rattle.mh_tables_core.specs.declared.parts.Action.{Action}
use Rattle.mh_tables_core.specs.declared.parts.Action.TheVariants.{Shift, Reduce, Refuse}
use Rattle.mh_grammar.specs.declared.edges.Edge.{Edge}
use Rattle.mh_items_kernels.specs.KernelTypes.{KernelItem}
use Rattle.mh_items_kernels.specs.Kernels.{Holds}
use Rattle.mh_grammar.specs.Plain.{plain_of, rhs_of}
use Rattle.mh_resolve_cells.specs.declared.kinds.Mode.{Mode}
use Rattle.mh_resolve_cells.specs.declared.kinds.Mode.TheVariants.{Merged}
use Rattle.mh_resolve_cells.specs.declared.cells.Cell.{Cell}
use Rattle.mh_resolve_cells.specs.declared.cells.BestCandidate.{BestCandidate}
use Rattle.mh_resolve_cells.specs.Precedence.{comparison_on, error_rank}
use Rattle.mh_resolve_cells.specs.States.{State, Raw}
use Rattle.mh_resolve_cells.specs.declared.cells.Tally.{Tally}
use Rattle.mh_resolve_cells.specs.code.Tallies.{empty_tally, cell_from, IsDecided}

-- The state with these closure items and these edges.
abbrev pub state_of_items : Grammar → List KernelItem → List Edge → State
state_of_items g items edges = record { grammar = g; items = Holds (record { items = items }); edges = edges }

-- True if the action refuses the token.
abbrev pub refuses : Action → Bool
refuses Refuse = true
refuses (Shift j) = false
refuses (Reduce p) = false

-- A cell without raw actions (the actions before precedence is applied).
abbrev pub no_cell : Cell
no_cell = record { action = Refuse; raw = false; kind = None }

-- The cell is correct for the look.
abbrev pub IsDecidedOn : State → Look → Cell → Type 0
IsDecidedOn s look cell = IsDecided (comparison_on s.grammar look) (Raw s look) cell

-- The cells are correct for the first n tokens.
pub record AreCells (s : State) (n : ℕ) (cells : List Cell) : Type 0 where
  pub len : length cells ≡ n
  pub each : (z : ℕ) → z < n → IsDecidedOn s (Token z) (slice_index_or cells z no_cell)

-- Each cell is made from its shift and its tally, which counts the reductions on the token.
pub record AreCellsOfTallies (tallies : List Tally) (shifts : List (Option ℕ)) (cells : List Cell) : Type 0 where
  pub len : length cells ≡ length tallies
  pub each : (z : ℕ) → z < length tallies → slice_index_or cells z no_cell ≡ cell_from (slice_index_or tallies z empty_tally) (slice_index_or shifts z None)

-- The cell has an action other than that at the end of the stream.
pub record ActsOtherwise (last : Action) (cell : Cell) : Type 0 where
  pub not_refuse : cell.action ≡ Refuse → ⊥
  pub differs : cell.action ≡ last → ⊥

-- The end of the stream has an action and some cell has another one.
pub record HasStreamConflictIn (last : Action) (cells : List Cell) : Type 0 where
  pub last_not_refuse : last ≡ Refuse → ⊥
  pub cell : Cell
  pub in_cells : Contains cells cell
  pub otherwise : ActsOtherwise last cell

-- Some cell reduces p.
pub record HasReduction (cells : List Cell) (p : ℕ) : Type 0 where
  pub cell : Cell
  pub in_cells : Contains cells cell
  pub reduces : cell.action ≡ Reduce p

-- The cell reduces p or has no raw action, as a default of p needs.
abbrev pub FitsDefault : ℕ → Cell → Type 0
FitsDefault p cell = (cell.action ≡ Reduce p) ⊎ ((cell.action ≡ Refuse) × (cell.raw ≡ false))

-- The only production that a default may reduce: the one that is reduced at the end of the stream; or, in merged mode
-- with no action there, one that is reduced on some token.
abbrev pub IsDefaultChoice : Action → Mode → List Cell → ℕ → Type 0
IsDefaultChoice kept mode cells p = (kept ≡ Reduce p) ⊎ ((kept ≡ Refuse) × (mode ≡ Merged) × HasReduction cells p)

-- The production is the default: each cell reduces it or has no raw action.
pub record IsDefaultIn (kept : Action) (mode : Mode) (cells : List Cell) (p : ℕ) : Type 0 where
  pub all : All (FitsDefault p) cells
  pub choice : IsDefaultChoice kept mode cells p

abbrev pub HasSomeLook : KernelItem → Type 0
HasSomeLook item = 0 < length item.looks

-- The rank of an item for `%on_error_reduce`, if its production is complete.
abbrev pub rank_in : Grammar → KernelItem → Option ℕ
rank_in g item = if item.dot == length (rhs_of (plain_of g) item.production) then error_rank g item.production else None

-- The best candidate after one more.
abbrev pub best_with : Option BestCandidate → ℕ → ℕ → BestCandidate
best_with None p r = record { rank = r; production = p; tied = false }
best_with (Some b) p r = if nat_lt r b.rank then record { rank = r; production = p; tied = false } else if nat_lt b.rank r then b else record b { tied = b.tied || not (p == b.production) }

-- Some item of the list is a candidate for `%on_error_reduce` with this production and rank.
pub record IsRanked (g : Grammar) (items : List KernelItem) (p r : ℕ) : Type 0 where
  pub item : KernelItem
  pub item_listed : Contains items item
  pub production : item.production ≡ p
  pub rank : rank_in g item ≡ Some r

-- The candidate with the lowest rank, with a mark that says whether another one has the same rank.
abbrev pub IsBest : (ℕ → ℕ → Type 0) → Option BestCandidate → Type 0
IsBest Ranked None = (p r : ℕ) → Ranked p r → ⊥
IsBest Ranked (Some b) = Ranked b.production b.rank × ((q r : ℕ) → Ranked q r → b.rank ≤ r)
    × MatchBool b.tied ((q : ℕ) × Ranked q b.rank × (q ≡ b.production → ⊥)) ((q : ℕ) → Ranked q b.rank → q ≡ b.production)
