-- The files for which the shelf may be asked.
use Rattle.std.specs.Prelude.{◌≡◌, List}
use Rattle.std.specs.List.{All}
use Rattle.mh_opts.specs.declared.order.Order.{Order}
use Rattle.mh_grammar.specs.Text.{Text}
use Rattle.mh_top_drive.specs.StageResults.{Go}
use Rattle.mh_top_load.specs.Modules.{grammar_files}
use Rattle.mh_top_load.specs.Order.{staged_order}
use Rattle.mh_top_prepare.specs.MayAskForTables.{MayAskForTables}
use Rattle.mh_top_plans.specs.Files.{files_of_mode}

-- The shelf may be asked for each file that the words name: the grammar files of the order, its table file, and the
-- files that its mode reads.
abbrev pub MayAskForFiles : List Text → (Text → Type 0) → Type 0
MayAskForFiles given May = (order : Order) → staged_order given ≡ Go order → All May (grammar_files order) × MayAskForTables order May × All May (files_of_mode order)
