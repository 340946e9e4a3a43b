-- Whether the table file is read next.
use Rattle.std.specs.Prelude.{◌≡◌, List, Option, Some}
use Rattle.mh_outside.specs.Shelf.{Files}
use Rattle.mh_grammar.specs.Text.{Text}
use Rattle.mh_top_drive.specs.StageResults.{Go}
use Rattle.mh_top_load.specs.OrderAndGrammar.{IsOrderAndGrammar}
use Rattle.mh_top_drive.specs.declared.front.OrderAndGrammar.{OrderAndGrammar}

-- The table file is the next to be read: the words name it, and their grammar files give a grammar.
abbrev pub IsTableFileNext : List Text → Option Files → Text → Type 0
IsTableFileNext words files name = (front : OrderAndGrammar) × IsOrderAndGrammar words files (Go front) × (front.order.tables ≡ Some name)
