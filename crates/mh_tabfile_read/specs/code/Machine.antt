-- The machine that reads a table file one line at a time.
use Rattle.std.specs.Prelude.{◌≡◌, ◌+◌, ◌-◌, ℕ, Bool, ◌==◌, if◌then◌else◌, List, [], ◌∷◌, ◌++◌, length, Option, Some, None, Result, Ok, Err}
use Rattle.mh_tabfile_form.specs.Form.{Line}
use Rattle.mh_tabfile_read.specs.declared.advance.LineRefusal.{LineRefusal}
use Rattle.mh_tabfile_read.specs.declared.advance.LineRefusal.TheVariants.{Unexpected, Memory}
use Rattle.mh_tabfile_read.specs.code.Numbers.{number_of}
use Rattle.mh_tabfile_read.specs.code.Words.{◌>>=◌, kind_of, count_of, names_of, numbers_of, mode_of, production_of, item_of, edge_of, cell_of, fallback_of}
use Rattle.mh_resolve_cells.specs.declared.kinds.Mode.TheVariants.{Merged}
use Rattle.mh_tables_core.specs.declared.parts.Fallback.{Fallback}
use Rattle.mh_tabfile_form.specs.declared.types.RawProduction.{RawProduction}
use Rattle.mh_tabfile_form.specs.declared.types.RawItem.{RawItem}
use Rattle.mh_tabfile_form.specs.declared.types.RawEdge.{RawEdge}
use Rattle.mh_tabfile_form.specs.declared.types.RawCell.{RawCell}
use Rattle.mh_tabfile_form.specs.declared.types.RawCells.{RawCells}
use Rattle.mh_tabfile_form.specs.declared.types.RawCells.TheVariants as cells
use Rattle.mh_tabfile_form.specs.declared.types.RawTable.{RawTable}
use Rattle.mh_tabfile_read.specs.declared.places.Reader.{Reader}
use Rattle.mh_tabfile_read.specs.declared.places.LineKind.{LineKind}
use Rattle.mh_tabfile_read.specs.declared.places.LineKind.TheVariants as kinds
use Rattle.mh_tabfile_read.specs.declared.places.ExpectedLine.{ExpectedLine}
use Rattle.mh_tabfile_read.specs.declared.places.ExpectedLine.TheVariants as places

-- The reader before the first line.
abbrev pub initial_reader : Reader
initial_reader = record { mode = Merged; tokens = []; costs = None; starts = []; productions = []; states = []; items = []; edges = []; cells = []; place = places.Head }

abbrev pub table_of : Reader → RawTable
table_of r = record { mode = r.mode; tokens = r.tokens; costs = r.costs; starts = r.starts; productions = r.productions; states = r.states }

-- The costs that a reader has after a head line with this version: none in version 1, and an empty list in version 2,
-- where a line with the costs follows. There is no other version.
abbrev pub costs_for : ℕ → Option (Option (List ℕ))
costs_for version = if version == 1 then Some None else if version == 2 then Some (Some []) else None

abbrev pub expected_after_tokens : Option (List ℕ) → ExpectedLine
expected_after_tokens None = places.Starts
expected_after_tokens (Some costs) = places.Costs

abbrev pub read_head : Reader → Line → Option Reader
read_head r (version ∷ mode ∷ []) = number_of version >>= λ n. costs_for n >>= λ costs. mode_of mode >>= λ m. Some (record r { mode = m; costs = costs; place = places.Tokens })
read_head r _ = None

abbrev pub at_head : Reader → LineKind → Line → Option Reader
at_head r kinds.Head words = read_head r words
at_head r _ words = None

abbrev pub at_tokens : Reader → LineKind → Line → Option Reader
at_tokens r kinds.Tokens words = names_of words >>= λ names. Some (record r { tokens = names; place = expected_after_tokens r.costs })
at_tokens r _ words = None

abbrev pub at_costs : Reader → LineKind → Line → Option Reader
at_costs r kinds.Costs words = numbers_of words >>= λ costs. Some (record r { costs = Some costs; place = places.Starts })
at_costs r _ words = None

abbrev pub at_starts : Reader → LineKind → Line → Option Reader
at_starts r kinds.Starts words = names_of words >>= λ names. Some (record r { starts = names; place = places.Productions })
at_starts r _ words = None

abbrev pub at_productions : Reader → LineKind → Line → Option Reader
at_productions r kinds.Productions words = count_of words >>= λ n. Some (record r { place = places.Listing n })
at_productions r _ words = None

abbrev pub at_states : Reader → LineKind → Line → Option Reader
at_states r kinds.States words = count_of words >>= λ n. Some (record r { place = places.Between n })
at_states r _ words = None

abbrev pub at_production : Reader → ℕ → Line → Option Reader
at_production r left line = production_of line >>= λ p. Some (record r { productions = r.productions ++ p ∷ []; place = places.Listing (left - 1) })

abbrev pub open_state : Reader → ℕ → ℕ → Option Reader
open_state r left n = if n == length r.states then Some (record r { items = []; edges = []; cells = []; place = places.Items (left - 1) }) else None

abbrev pub at_state : Reader → ℕ → LineKind → Line → Option Reader
at_state r left kinds.State words = count_of words >>= λ n. open_state r left n
at_state r left _ words = None

abbrev pub at_end : Reader → LineKind → Line → Option Reader
at_end r kinds.End [] = Some (record r { place = places.Ended })
at_end r _ words = None

-- The reader after a line that begins the next state or, if no state is left, is the end line.
abbrev pub at_between_states : Reader → ℕ → LineKind → Line → Option Reader
at_between_states r left kind words = if left == 0 then at_end r kind words else at_state r left kind words

-- The reader after the open state is completed with its cells or its default action.
abbrev pub state_ended_by : Reader → RawCells → ExpectedLine → Reader
state_ended_by r cells place = record r { states = r.states ++ record { items = r.items; edges = r.edges; cells = cells } ∷ []; items = []; edges = []; cells = []; place = place }

-- The reader after the open state is completed with the cells that were read for it.
abbrev pub state_closed : Reader → Reader
state_closed r = state_ended_by r (cells.Cells r.cells) r.place

abbrev pub at_cells : Reader → ℕ → LineKind → Line → Option Reader
at_cells r left kinds.Cell words = cell_of words >>= λ c. Some (record r { cells = r.cells ++ c ∷ []; place = places.Cells left })
at_cells r left kind words = at_between_states (state_closed r) left kind words

abbrev pub at_edges : Reader → ℕ → LineKind → Line → Option Reader
at_edges r left kinds.Edge words = edge_of words >>= λ e. Some (record r { edges = r.edges ++ e ∷ []; place = places.Edges left })
at_edges r left kinds.Default words = fallback_of words >>= λ f. Some (state_ended_by r (cells.Fallback f) (places.Between left))
at_edges r left kind words = at_cells r left kind words

abbrev pub at_items : Reader → ℕ → LineKind → Line → Option Reader
at_items r left kinds.Item words = item_of words >>= λ i. Some (record r { items = r.items ++ i ∷ []; place = places.Items left })
at_items r left kind words = at_edges r left kind words

-- The reader after a line in the list of productions: the next production or, if no production is left, the number of
-- states.
abbrev pub at_production_list : Reader → ℕ → List ℕ → Line → Option Reader
at_production_list r left word words = if left == 0 then at_states r (kind_of word) words else at_production r left (word ∷ words)

abbrev pub next_at : ExpectedLine → Reader → List ℕ → Line → Option Reader
next_at places.Head r word words = at_head r (kind_of word) words
next_at places.Tokens r word words = at_tokens r (kind_of word) words
next_at places.Costs r word words = at_costs r (kind_of word) words
next_at places.Starts r word words = at_starts r (kind_of word) words
next_at places.Productions r word words = at_productions r (kind_of word) words
next_at (places.Listing left) r word words = at_production_list r left word words
next_at (places.Between left) r word words = at_between_states r left (kind_of word) words
next_at (places.Items left) r word words = at_items r left (kind_of word) words
next_at (places.Edges left) r word words = at_edges r left (kind_of word) words
next_at (places.Cells left) r word words = at_cells r left (kind_of word) words
next_at places.Ended r word words = None

unfoldable pub next : Reader → Line → Option Reader
next r [] = None
next r (word ∷ words) = next_at r.place r word words

-- The call did what the definition says, unless memory ran out. Nothing is said of the reader if the line was refused.
abbrev pub AdvancesTo : {X : Type 0} → Option Reader → Reader → Result X LineRefusal → Type 0
AdvancesTo found now (Ok x) = found ≡ Some now
AdvancesTo found now (Err Unexpected) = found ≡ None
AdvancesTo found now (Err Memory) = Unit {0}

abbrev pub finish_at : ExpectedLine → Reader → Option RawTable
finish_at places.Ended r = Some (table_of r)
finish_at _ r = None

unfoldable pub finish : Reader → Option RawTable
finish r = finish_at r.place r

-- The outcome of a run: the table, or the lines from the first refused one on.
pub data Outcome : Type 0 where
  Reads : RawTable → Outcome
  Stops : List Line → Outcome

abbrev pub ended : Option RawTable → Outcome
ended None = Stops []
ended (Some raw) = Reads raw

abbrev pub go_on : Option Reader → Line → List Line → (Reader → Outcome) → Outcome
go_on None x xs ahead = Stops (x ∷ xs)
go_on (Some r) x xs ahead = ahead r

abbrev pub run : Reader → List Line → Outcome
run r [] = ended (finish r)
run r (x ∷ xs) = go_on (next r x) x xs (λ t. run t xs)
