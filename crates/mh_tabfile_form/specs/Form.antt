-- The definition of table files: the lines of words that spell a table. The form is this project's own.
use Rattle.std.specs.Prelude.{◌≡◌, ◌≢◌, ◌<◌, ◌+◌, ◌^◌, ℕ, List, [], ◌∷◌, ◌++◌, map, length, Option, Some, None, codes, decimal}
use Rattle.std.specs.List.{AllByRecursion, flat_map, join_with_byte}
use Rattle.mh_resolve_cells.specs.declared.kinds.Mode.{Mode}
use Rattle.mh_tables_core.specs.declared.parts.Action.{Action}
use Rattle.mh_tables_core.specs.declared.parts.Action.TheVariants as actions
use Rattle.mh_tables_core.specs.declared.parts.Fallback.{Fallback}
use Rattle.mh_tables_core.specs.declared.parts.Fallback.TheVariants as fallbacks
use Rattle.mh_resolve_cells.specs.Names.{mode_name}
use Rattle.mh_tabfile_form.specs.declared.types.RawProduction.{RawProduction}
use Rattle.mh_tabfile_form.specs.declared.types.RawItem.{RawItem}
use Rattle.mh_tabfile_form.specs.declared.types.RawEdge.{RawEdge}
use Rattle.mh_tabfile_form.specs.declared.types.RawCell.{RawCell}
use Rattle.mh_tabfile_form.specs.declared.types.RawCells.{RawCells}
use Rattle.mh_tabfile_form.specs.declared.types.RawCells.TheVariants as cells
use Rattle.mh_tabfile_form.specs.declared.types.RawState.{RawState}
use Rattle.mh_tabfile_form.specs.declared.types.RawTable.{RawTable}

-- A line, as the list of its words.
abbrev pub Line : Type 0
Line = List (List ℕ)

-- The bytes of a line: its words, joined by single spaces, and LF at the end.
abbrev pub line_text : Line → List ℕ
line_text words = join_with_byte 32 words ++ 10 ∷ []

abbrev pub text : List Line → List ℕ
text lines = flat_map line_text lines

-- A byte that a word may contain: neither a space nor LF.
abbrev pub IsInWord : ℕ → Type 0
IsInWord byte = (byte ≢ 32) × (byte ≢ 10)

abbrev pub IsWord : List ℕ → Type 0
IsWord word = (word ≢ []) × AllByRecursion IsInWord word

-- A line has at least one word, and each byte of its words is one that a word may contain. Words may be empty here; the
-- form of each kind of line excludes empty names.
abbrev pub IsLine : Line → Type 0
IsLine words = (words ≢ []) × AllByRecursion (AllByRecursion IsInWord) words

-- The lines of a table.

-- The version of a file: 1 without costs, 2 with costs.
abbrev pub version_of : Option (List ℕ) → ℕ
version_of None = 1
version_of (Some costs) = 2

abbrev pub head_line : ℕ → Mode → Line
head_line version mode = codes "menhir-tables" ∷ decimal version ∷ mode_name mode ∷ []

abbrev pub costs_lines : Option (List ℕ) → List Line
costs_lines None = []
costs_lines (Some costs) = (codes "costs" ∷ map decimal costs) ∷ []

abbrev pub production_line : RawProduction → Line
production_line p = p.lhs ∷ codes "->" ∷ p.rhs

abbrev pub item_line : RawItem → Line
item_line i = codes "item" ∷ decimal i.production ∷ decimal i.dot ∷ i.looks

abbrev pub edge_line : RawEdge → Line
edge_line e = codes "edge" ∷ e.symbol ∷ decimal e.target ∷ []

abbrev pub action_words : Action → Line
action_words (actions.Shift j) = codes "shift" ∷ decimal j ∷ []
action_words (actions.Reduce p) = codes "reduce" ∷ decimal p ∷ []
action_words actions.Refuse = []

abbrev pub cell_line : RawCell → Line
cell_line c = codes "cell" ∷ c.token ∷ action_words c.action

abbrev pub fallback_line : Fallback → Line
fallback_line fallbacks.Accept = codes "default" ∷ codes "accept" ∷ []
fallback_line (fallbacks.Reduce p) = codes "default" ∷ codes "reduce" ∷ decimal p ∷ []

abbrev pub cells_lines : RawCells → List Line
cells_lines (cells.Cells cs) = map cell_line cs
cells_lines (cells.Fallback f) = fallback_line f ∷ []

abbrev pub count_line : List ℕ → ℕ → Line
count_line key n = key ∷ decimal n ∷ []

abbrev pub state_lines : ℕ → RawState → List Line
state_lines i s = count_line (codes "state") i ∷ map item_line s.items ++ (map edge_line s.edges ++ cells_lines s.cells)

abbrev pub states_lines : ℕ → List RawState → List Line
states_lines i [] = []
states_lines i (s ∷ ss) = state_lines i s ++ states_lines (i + 1) ss

-- The names and numbers that lines can show.

abbrev pub IsName : List ℕ → Type 0
IsName word = word ≢ []

abbrev pub IsNumber : ℕ → Type 0
IsNumber n = n < 2 ^ 32

abbrev pub IsRawProduction : RawProduction → Type 0
IsRawProduction p = IsName p.lhs × AllByRecursion IsName p.rhs

abbrev pub IsRawItem : RawItem → Type 0
IsRawItem i = IsNumber i.production × IsNumber i.dot × AllByRecursion IsName i.looks

abbrev pub IsRawEdge : RawEdge → Type 0
IsRawEdge e = IsName e.symbol × IsNumber e.target

abbrev pub IsRawAction : Action → Type 0
IsRawAction (actions.Shift j) = IsNumber j
IsRawAction (actions.Reduce p) = IsNumber p
IsRawAction actions.Refuse = ⊥

abbrev pub IsRawCell : RawCell → Type 0
IsRawCell c = IsName c.token × IsRawAction c.action

abbrev pub IsRawFallback : Fallback → Type 0
IsRawFallback fallbacks.Accept = Unit {0}
IsRawFallback (fallbacks.Reduce p) = IsNumber p

abbrev pub AreRawCells : RawCells → Type 0
AreRawCells (cells.Cells cs) = AllByRecursion IsRawCell cs
AreRawCells (cells.Fallback f) = IsRawFallback f

abbrev pub IsRawState : RawState → Type 0
IsRawState s = AllByRecursion IsRawItem s.items × AllByRecursion IsRawEdge s.edges × AreRawCells s.cells

abbrev pub AreCosts : Option (List ℕ) → Type 0
AreCosts None = Unit {0}
AreCosts (Some costs) = AllByRecursion IsNumber costs

pub record IsRawTable (raw : RawTable) : Type 0 where
  pub tokens : AllByRecursion IsName raw.tokens
  pub costs : AreCosts raw.costs
  pub starts : AllByRecursion IsName raw.starts
  pub productions : AllByRecursion IsRawProduction raw.productions
  pub few_productions : IsNumber (length raw.productions)
  pub states : AllByRecursion IsRawState raw.states
  pub few_states : IsNumber (length raw.states)

abbrev pub end_line : Line
end_line = codes "end" ∷ []

-- The lines of a table in three parts: the first lines up to the costs, the lines of the grammar, and the lines of the
-- automaton.
abbrev pub head_lines : RawTable → List Line
head_lines raw = head_line (version_of raw.costs) raw.mode ∷ (codes "tokens" ∷ raw.tokens) ∷ costs_lines raw.costs

abbrev pub grammar_lines : RawTable → List Line
grammar_lines raw = (codes "starts" ∷ raw.starts) ∷ count_line (codes "productions") (length raw.productions) ∷ map production_line raw.productions

abbrev pub automaton_lines : RawTable → List Line
automaton_lines raw = count_line (codes "states") (length raw.states) ∷ states_lines 0 raw.states

abbrev pub lines_of : RawTable → List Line
lines_of raw = head_lines raw ++ (grammar_lines raw ++ (automaton_lines raw ++ end_line ∷ []))

-- The lines spell the table.
abbrev pub Spells : List Line → RawTable → Type 0
Spells lines raw = IsRawTable raw × (lines ≡ lines_of raw)

-- The text of a table: the bytes of its lines.
abbrev pub table_text : RawTable → List ℕ
table_text raw = text (lines_of raw)

-- The bytes are a table file with this content.
pub record IsFileOf (bytes : List ℕ) (raw : RawTable) : Type 0 where
  pub spelled : IsRawTable raw
  pub words : AllByRecursion IsLine (lines_of raw)
  pub bytes_are : bytes ≡ table_text raw

-- Some table file begins with these lines.
abbrev pub Begins : List Line → Type 0
Begins lines = (more : List Line) × (raw : RawTable) × Spells (lines ++ more) raw
