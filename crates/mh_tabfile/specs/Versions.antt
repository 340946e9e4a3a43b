-- The content of a table file of version 2 that says the same as a given one.
use Rattle.std.specs.Prelude.{Some}
use Rattle.mh_grammar.specs.declared.types.Grammar.{Grammar}
use Rattle.mh_grammar.specs.Costs.{costs_of}
use Rattle.mh_tabfile_form.specs.declared.types.RawTable.{RawTable}

-- The content with the costs of the tokens of the grammar.
abbrev pub with_costs : Grammar → RawTable → RawTable
with_costs g raw = record {
  mode = raw.mode;
  tokens = raw.tokens;
  costs = Some (costs_of g.tokens);
  starts = raw.starts;
  productions = raw.productions;
  states = raw.states;
}
