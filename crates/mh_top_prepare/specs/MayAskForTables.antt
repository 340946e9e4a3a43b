-- Whether the shelf may be asked for the table file.
use Rattle.std.specs.Prelude.{◌≡◌, Some}
use Rattle.mh_opts.specs.declared.order.Order.{Order}
use Rattle.mh_grammar.specs.Text.{Text}

-- The shelf may be asked for the table file that the order names, if it names one.
abbrev pub MayAskForTables : Order → (Text → Type 0) → Type 0
MayAskForTables order May = (name : Text) → order.tables ≡ Some name → May name
