-- The stages between the grammar and the warnings: the automaton and its table are added to the order and its grammar.
use Rattle.std.specs.Prelude.{Option}
use Rattle.mh_outside.specs.Shelf.{Files}
use Rattle.mh_top_drive.specs.StageResults.{StageResult, Then, Gives}
use Rattle.mh_top_drive.specs.declared.front.OrderAndGrammar.{OrderAndGrammar}
use Rattle.mh_top_drive.specs.Shapes.{Prepared}
use Rattle.mh_top_prepare.specs.AutomatonSources.{IsAutomatonSource}
use Rattle.mh_top_prepare.specs.TableStage.{IsTableStage}
use Rattle.mh_top_prepare.specs.declared.sources.AutomatonSource.{AutomatonSource}

-- The order with its grammar and its table, for an automaton from the given source.
abbrev pub IsPreparedFromSource : OrderAndGrammar → AutomatonSource → StageResult Prepared → Type 0
IsPreparedFromSource front source s = Then (IsTableStage source front.grammar) (λ tabled. Gives (record { order = front.order; grammar = front.grammar; tabled = tabled })) s

-- The order with its grammar and its table. A table file is read after the grammar is made.
abbrev pub IsPreparedFromFiles : Option Files → OrderAndGrammar → StageResult Prepared → Type 0
IsPreparedFromFiles files front s = Then (IsAutomatonSource files front.order) (IsPreparedFromSource front) s
