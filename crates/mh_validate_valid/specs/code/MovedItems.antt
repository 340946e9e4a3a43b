-- The items of states that are not start states.
use Rattle.std.specs.Prelude.{◌<◌}
use Rattle.mh_grammar.specs.declared.types.Grammar.{Grammar}
use Rattle.mh_items_kernels.specs.KernelTypes.{KernelItem}
use Rattle.mh_validate_valid.specs.Valid.{HasOnlyEndIfStart}

-- An item that can be in the kernel of a state that is not a start state: its dot is after a symbol, and if its
-- production is a start production, its only look is the end of the stream.
pub record IsNonStartItem (g : Grammar) (item : KernelItem) : Type 0 where
  pub at_end : HasOnlyEndIfStart g item
  pub moved : 0 < item.dot
