-- The precondition of a validation.
use Rattle.std.specs.Prelude.{◌<◌, ◌^◌, length}
use Rattle.mh_grammar.specs.declared.types.Grammar.{Grammar}
use Rattle.mh_grammar.specs.Costs.{HaveCosts}
use Rattle.mh_tabfile_form.specs.declared.types.RawTable.{RawTable}
use Rattle.mh_validate_valid.specs.Valid.{AreTokenNamesDistinct}

-- The tokens of the grammar have costs and distinct names, and the table file has fewer than 2^32 states.
pub record CanBeValidated (g : Grammar) (raw : RawTable) : Type 0 where
  pub costs : HaveCosts g.tokens
  pub distinct_names : AreTokenNamesDistinct g
  pub small : length raw.states < 2 ^ 32
