-- The premises that the calls of the work share.
use Rattle.std.specs.Prelude.{ℕ, ◌≢◌, ◌<◌, length}
use Rattle.std.specs.List.{All}
use Rattle.mh_grammar.specs.Costs.{HaveCosts}
use Rattle.mh_grammar.specs.Text.{Text}
use Rattle.mh_items.specs.Fitting.{FitsSets}
use Rattle.mh_opts.specs.Orders.{IsWithinLimits}
use Rattle.mh_opts.specs.declared.jobs.Job.TheVariants.{Check}
use Rattle.mh_top_plans.specs.Files.{files_of_mode}
use Rattle.mh_top_prepare.specs.MayAskForTables.{MayAskForTables}
use Rattle.mh_top_drive.specs.Shapes.{Prepared}
use Rattle.mh_top_drive.specs.code.Prepared.{IsConsistent}
use Rattle.mh_top_drive.specs.declared.front.OrderAndGrammar.{OrderAndGrammar}
use Rattle.mh_validate_valid.specs.Valid.{AreTokenNamesDistinct}

-- The order and the grammar allow the work: the grammar has a start symbol, its tokens have costs and distinct names,
-- the job needs a table and is within its limits, and the shelf may be asked for the table file and the files of the
-- job.
pub record AllowsWork (front : OrderAndGrammar) (MayAsk : Text → Type 0) : Type 0 where
  pub job : front.order.job ≢ Check
  pub start : 0 < length front.grammar.starts
  pub limits : IsWithinLimits front.order.job
  pub costs : HaveCosts front.grammar.tokens
  pub distinct_names : AreTokenNamesDistinct front.grammar
  pub tables : MayAskForTables front.order MayAsk
  pub asked : All MayAsk (files_of_mode front.order)

-- The mode of an order may run on what is prepared, with sets of tokens of `width` words: the job needs a table, the
-- tokens of the grammar fit these sets, the parts of what is prepared agree, and the shelf, the input (`Reads`) and out
-- (`Writes`) may be used.
pub record MayRunMode (width : ℕ) (p : Prepared) (MayAsk : Text → Type 0) (Reads Writes : Type 0) : Type 0 where
  pub fits : FitsSets width p.grammar
  pub job : p.order.job ≢ Check
  pub consistent : IsConsistent p
  pub asked : All MayAsk (files_of_mode p.order)
  pub may_read : Reads
  pub may_write : Writes
