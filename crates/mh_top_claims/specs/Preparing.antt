-- All stages before the warnings: from the words of the command line to the order with its grammar and its table.
use Rattle.std.specs.Prelude.{List, Option}
use Rattle.mh_outside.specs.Shelf.{Files}
use Rattle.mh_grammar.specs.Text.{Text}
use Rattle.mh_top_drive.specs.StageResults.{StageResult, Then}
use Rattle.mh_top_load.specs.OrderAndGrammar.{IsOrderAndGrammar}
use Rattle.mh_top_drive.specs.Shapes.{Prepared}
use Rattle.mh_top_prepare.specs.PreparedStage.{IsPreparedFromFiles}

-- The order that the words spell with its grammar and its table, or the cause for which the work stops.
abbrev pub IsPrepared : List Text → Option Files → StageResult Prepared → Type 0
IsPrepared words files s = Then (IsOrderAndGrammar words files) (IsPreparedFromFiles files) s
