-- The grammar of the files that the words name, with its automaton and its table, by the relations of success alone;
-- and the accepted grammars: if there is no fault of a device or lack of memory, the program prepares the table of an
-- accepted grammar and begins the mode.
use Rattle.std.specs.Prelude.{◌≡◌, ◌⊎◌, ◌&&◌, true, false, List, Option, None, Some, Ok}
use Rattle.std.specs.List.{AllZip}
use Rattle.mh_grammar.specs.Text.{Text}
use Rattle.mh_grammar.specs.Plain.{plain_of}
use Rattle.mh_grammar.specs.declared.types.Grammar.{Grammar}
use Rattle.mh_outside.specs.Shelf.{Files, Bytes}
use Rattle.mh_rules.specs.declared.modules.Module.{Module}
use Rattle.mh_rules.specs.declared.joined.Joined.{Joined}
use Rattle.mh_rules.specs.declared.instances.Expanded.{Expanded}
use Rattle.mh_reader_parser.specs.Spelling.{Spells}
use Rattle.mh_join_names.specs.Joining.{IsJoined}
use Rattle.mh_expand.specs.Expansion.{IsExpanded}
use Rattle.mh_inline.specs.Inlined.{IsInlined}
use Rattle.mh_front.specs.Stages.{IsGrammarOfModules}
use Rattle.mh_opts.specs.Orders.{order_of}
use Rattle.mh_opts.specs.declared.order.Order.{Order}
use Rattle.mh_items_kernels.specs.KernelTypes.{Automaton}
use Rattle.mh_items_kernels.specs.Automaton.{IsAutomaton}
use Rattle.mh_canon.specs.Canonical.{IsCanonical, CanonicalExceeds}
use Rattle.mh_canon.specs.Limits.{max_states}
use Rattle.mh_pager.specs.MergeSteps.{IsMerged, MergingExceeds}
use Rattle.mh_resolve_cells.specs.States.{IsTableOf}
use Rattle.mh_resolve_cells.specs.Conflicts.{AreConflicts}
use Rattle.mh_resolve_cells.specs.declared.conflicts.Conflict.{Conflict}
use Rattle.mh_resolve_cells.specs.declared.kinds.Mode.{Mode}
use Rattle.mh_resolve_cells.specs.declared.kinds.Mode.TheVariants as modes
use Rattle.mh_tables_core.specs.declared.parts.StateParts.{StateParts}
use Rattle.mh_tables_core.specs.Table.{TableData}
use Rattle.mh_tables_core.specs.Halting.{AlwaysHalts}
use Rattle.mh_tabfile_form.specs.declared.types.RawTable.{RawTable}
use Rattle.mh_tabfile_form.specs.Form.{IsFileOf, table_text}
use Rattle.mh_tabfile_form.specs.TableContent.{raw_of}
use Rattle.mh_validate_valid.specs.Valid.{IsValidFor}
use Rattle.mh_top_drive.specs.FileContents.{IsFound}
use Rattle.mh_top_prepare.specs.Warnings.{has_warning}

-- ---- The grammar.

-- The named file has bytes that spell this module.
abbrev pub HasModule : Option Files → Text → Module → Type 0
HasModule files name m = (bytes : Text) × IsFound files name (Bytes bytes) × Spells bytes m

-- The grammar of the grammar files of an order: each file spells a module, the modules are joined, the joined rules are
-- expanded to instances, and inline rules are replaced (Menhir manual).
pub record IsGrammarOfFiles (files : Option Files) (order : Order) (g : Grammar) : Type 0 where
  pub modules : List Module
  pub joined : Joined
  pub instances : Expanded
  pub spelled : AllZip (HasModule files) order.grammars modules
  pub joins : IsJoined order.stdlib modules joined
  pub expands : IsExpanded joined instances
  pub inlines : IsInlined instances g

-- ---- The table.

-- The content of a table file without the costs of the tokens, as in version 1.
abbrev pub without_costs : RawTable → RawTable
without_costs raw = record raw { costs = None }

-- The bytes are those of the table file of this automaton and table, with the costs of the tokens or without.
abbrev pub IsTableFileOf : Grammar → Automaton → Mode → TableData → Text → Type 0
IsTableFileOf g a mode t bytes = (bytes ≡ table_text (raw_of g a mode t.states)) ⊎ (bytes ≡ table_text (without_costs (raw_of g a mode t.states)))

-- The automaton for the table of an order: the merged one (Pager 1977), the canonical one (Knuth 1965), or that of the
-- table file of the order.
pub data IsAutomatonOf (files : Option Files) (order : Order) (g : Grammar) (a : Automaton) (t : TableData) : Mode → Type 0 where
  Merged : order.tables ≡ None → order.canonical ≡ false → IsMerged (plain_of g) a → IsAutomatonOf files order g a t modes.Merged
  Canonical : order.tables ≡ None → order.canonical ≡ true → IsCanonical (plain_of g) a → IsAutomatonOf files order g a t modes.Canonical
  OfFile : (mode : Mode) (name bytes : Text) → order.tables ≡ Some name → IsFound files name (Bytes bytes) → IsAutomaton (plain_of g) a → IsTableFileOf g a mode t bytes → IsAutomatonOf files order g a t mode

-- The words ask for this order, the grammar is that of its files, and the table is that of the automaton for the order.
pub record GivesTable (words : List Text) (files : Option Files) (order : Order) (g : Grammar) (a : Automaton) (t : TableData) : Type 0 where
  pub order_is : order_of words ≡ Ok order
  pub grammar : IsGrammarOfFiles files order g
  pub mode : Mode
  pub automaton : IsAutomatonOf files order g a t mode
  pub table : IsTableOf g a mode t

-- ---- Accepted grammars.

-- The automaton for the table of an order has few enough states, if it is built; or the table file of the order is
-- valid for the grammar.
pub data IsAcceptedAutomaton (files : Option Files) (order : Order) (g : Grammar) (a : Automaton) : Mode → Type 0 where
  BuiltMerged : order.tables ≡ None → order.canonical ≡ false → (MergingExceeds (plain_of g) max_states → ⊥) → IsMerged (plain_of g) a → IsAcceptedAutomaton files order g a modes.Merged
  BuiltCanonical : order.tables ≡ None → order.canonical ≡ true → (CanonicalExceeds (plain_of g) max_states → ⊥) → IsCanonical (plain_of g) a → IsAcceptedAutomaton files order g a modes.Canonical
  ReadValid : (name bytes : Text) (raw : RawTable) (parts : List StateParts) → order.tables ≡ Some name → IsFound files name (Bytes bytes) → IsFileOf bytes raw → IsValidFor g raw a parts → IsAcceptedAutomaton files order g a raw.mode

-- The grammar of the files that the words name is accepted, with this table: the files spell modules that give a
-- grammar, the automaton is accepted, every run on the table ends, and `--strict` does not refuse the conflicts.
pub record IsAccepted (words : List Text) (files : Option Files) (order : Order) (g : Grammar) (a : Automaton) (t : TableData) : Type 0 where
  pub order_is : order_of words ≡ Ok order
  pub modules : List Module
  pub spelled : AllZip (HasModule files) order.grammars modules
  pub grammar : IsGrammarOfModules order.stdlib modules g
  pub mode : Mode
  pub automaton : IsAcceptedAutomaton files order g a mode
  pub table : IsTableOf g a mode t
  pub halts : AlwaysHalts t
  pub conflicts : List Conflict
  pub are_conflicts : AreConflicts g a conflicts
  pub kept : (order.strict && has_warning conflicts) ≡ false
