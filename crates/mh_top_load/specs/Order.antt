-- The stage that gives the order that the words of the command line spell. The options are those of the Menhir manual
-- and this project's own.
use Rattle.std.specs.Prelude.{List, Result, Ok, Err}
use Rattle.mh_opts.specs.Orders as words
use Rattle.mh_opts.specs.declared.order.Order.{Order}
use Rattle.mh_opts.specs.declared.order.UsageFault.{UsageFault}
use Rattle.mh_grammar.specs.Text.{Text}
use Rattle.mh_top_load.specs.Texts.{usage_line}
use Rattle.mh_top_drive.specs.StageResults.{StageResult, Go, Halt}
use Rattle.mh_top_drive.specs.declared.stop.Cause.TheVariants.{Misused}

-- The result of reading the words, as the result of a stage: a usage fault stops the work.
abbrev pub order_result : Result Order UsageFault → StageResult Order
order_result (Ok order) = Go order
order_result (Err fault) = Halt (Misused (usage_line fault))

-- The order that the words spell, or the line on their usage fault. The crate clap defines which words a command takes.
abbrev pub staged_order : List Text → StageResult Order
staged_order given = order_result (words.order_of given)
