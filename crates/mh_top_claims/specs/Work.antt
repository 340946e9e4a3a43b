-- The work that the words of the command line ask for over files: the warnings and then the mode; or the examination of
-- the grammar files.
use Rattle.std.specs.Prelude.{◌≡◌, Bool, true, false, ◌&&◌, List, [], Option}
use Rattle.mh_outside.specs.Shelf.{Files}
use Rattle.mh_grammar.specs.Text.{Text}
use Rattle.mh_top_drive.specs.StageResults.{StageResult, Go, Halt}
use Rattle.mh_top_drive.specs.declared.stop.Cause.TheVariants.{Refused}
use Rattle.mh_opts.specs.declared.jobs.Job.TheVariants.{Check}
use Rattle.mh_opts.specs.declared.order.Order.{Order}
use Rattle.mh_top_check.specs.Examination.{IsPlanOfCheck}
use Rattle.mh_top_load.specs.Order.{staged_order}
use Rattle.mh_top_claims.specs.Preparing.{IsPrepared}
use Rattle.mh_top_drive.specs.Shapes.{Prepared}
use Rattle.mh_top_prepare.specs.Warnings.{has_warning, warnings_of}
use Rattle.mh_top_plans.specs.Plan.{Plan, IsPlanOfJob, halts}

-- The text of the warnings on err, and the plan of the mode after them.
pub record Work : Type 0 where
  pub warnings : Text
  pub plan : Plan

-- The plan for an order, if its grammar is refused under `--strict` (true) or not (false). The refusal adds no line to
-- the warnings.
abbrev pub IsPlanUnlessRefused : Bool → Option Files → Prepared → Plan → Type 0
IsPlanUnlessRefused true files p plan = plan ≡ halts (Refused [])
IsPlanUnlessRefused false files p plan = IsPlanOfJob p.order.job files p plan

-- The plan after the warnings.
abbrev pub IsPlanOf : Option Files → Prepared → Plan → Type 0
IsPlanOf files p plan = IsPlanUnlessRefused (p.order.strict && has_warning p.tabled.conflicts) files p plan

-- The work for the result of the stages before the warnings. If they stopped, there are no warnings, and the work ends
-- at once.
abbrev pub IsWorkOf : Option Files → StageResult Prepared → Work → Type 0
IsWorkOf files (Go p) w = (w.warnings ≡ warnings_of p) × IsPlanOf files p w.plan
IsWorkOf files (Halt cause) w = w ≡ record { warnings = []; plan = halts cause }

-- The work after all stages before the warnings, for each mode that needs a table.
abbrev pub IsPreparedWork : List Text → Option Files → Work → Type 0
IsPreparedWork words files w = (s : StageResult Prepared) × IsPrepared words files s × IsWorkOf files s w

-- If the words spell an order, its mode needs a table: the mode is another than the examination of grammar files.
abbrev pub NeedsTable : List Text → Type 0
NeedsTable words = (order : Order) → staged_order words ≡ Go order → order.job ≡ Check → ⊥

-- The plan that examines the grammar files of the order, and writes the lines. There are no warnings before.
pub record IsCheckWork (order : Order) (files : Option Files) (w : Work) : Type 0 where
  pub warnings : w.warnings ≡ []
  pub plan : IsPlanOfCheck order files w.plan

-- The work that the words ask for over these files. If the files are not known, they may be any.
pub data IsWork (words : List Text) (files : Option Files) (w : Work) : Type 0 where
  WithTable : NeedsTable words → IsPreparedWork words files w → IsWork words files w
  Examining : (order : Order) → staged_order words ≡ Go order → order.job ≡ Check → IsCheckWork order files w → IsWork words files w
