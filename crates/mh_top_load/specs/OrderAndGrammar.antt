-- The first stages of the work: from the words of the command line to the order and its grammar.
use Rattle.std.specs.Prelude.{List, Option}
use Rattle.mh_outside.specs.Shelf.{Files}
use Rattle.mh_grammar.specs.Text.{Text}
use Rattle.mh_top_drive.specs.StageResults.{StageResult, AfterStage, Then, Gives}
use Rattle.mh_top_load.specs.Order.{staged_order}
use Rattle.mh_top_load.specs.Modules.{AreModules}
use Rattle.mh_top_load.specs.GrammarStage.{IsGrammarStage}
use Rattle.mh_opts.specs.declared.order.Order.{Order}
use Rattle.mh_top_drive.specs.declared.front.OrderAndGrammar.{OrderAndGrammar}

-- An order with the grammar of its modules, or the cause for which the work stops.
abbrev pub IsWithGrammar : Order → Option Files → StageResult OrderAndGrammar → Type 0
IsWithGrammar order files s = Then (AreModules files order) (λ modules. Then (IsGrammarStage order.stdlib modules) (λ grammar. Gives (record { order = order; grammar = grammar }))) s

-- The order that the words spell with the grammar of its modules, or the cause for which the work stops.
abbrev pub IsOrderAndGrammar : List Text → Option Files → StageResult OrderAndGrammar → Type 0
IsOrderAndGrammar words files s = AfterStage (staged_order words) (λ order. IsWithGrammar order files) s
