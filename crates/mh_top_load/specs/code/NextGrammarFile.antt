-- Which grammar file is read next, and which the shelf may be asked for.
use Rattle.std.specs.Prelude.{◌≡◌, List, Option}
use Rattle.std.specs.List.{All}
use Rattle.mh_outside.specs.Shelf.{Files}
use Rattle.mh_opts.specs.declared.order.Order.{Order}
use Rattle.mh_grammar.specs.Text.{Text}
use Rattle.mh_top_drive.specs.StageResults.{Go}
use Rattle.mh_top_drive.specs.NextFile.{IsNextFile}
use Rattle.mh_top_load.specs.GrammarFile.{IsModule}
use Rattle.mh_top_load.specs.Modules.{grammar_files}
use Rattle.mh_top_load.specs.Order.{staged_order}

-- Of the grammar files that the words name, this is the next to be read.
abbrev pub IsNextGrammarFile : List Text → Option Files → Text → Type 0
IsNextGrammarFile words files name = (order : Order) × (staged_order words ≡ Go order) × IsNextFile files IsModule (grammar_files order) name

-- The shelf may be asked for each grammar file that the words name.
abbrev pub MayAskForGrammars : List Text → (Text → Type 0) → Type 0
MayAskForGrammars words May = (order : Order) → staged_order words ≡ Go order → All May (grammar_files order)
