-- The types `Prepared` and `TabledAutomaton` as definitions see them: a set of tokens is the list of its members, for
-- every width of the set in the code.
use Rattle.std.specs.Prelude.{List}
use Rattle.mh_grammar.specs.declared.types.Look.{Look}
use Rattle.mh_top_drive.specs.declared.tabled.TabledAutomatonWith.{TabledAutomatonWith}
use Rattle.mh_top_drive.specs.declared.prepared.PreparedWith.{PreparedWith}

-- An automaton with its table, the conflicts, and the mode of the table.
abbrev pub TabledAutomaton : Type 0
TabledAutomaton = TabledAutomatonWith (List Look)

-- An order with the grammar of its files and the table of this grammar.
abbrev pub Prepared : Type 0
Prepared = PreparedWith (List Look)
