-- What is found in grammar files, as the code keeps it.
use Rattle.std.specs.Prelude.{◌≡◌, ◌<◌, length, Bool, List, Option, Some, Result, Ok, Err, ⊤}
use Rattle.std.specs.List.{All}
use Rattle.mh_grammar.specs.Costs.{HaveCosts}
use Rattle.mh_grammar.specs.Text.{Text}
use Rattle.mh_lint_faults.specs.Stages.{AreAccepted, Stages}
use Rattle.mh_lint_faults.specs.code.Examining.{AreAcceptedReady, AreStages}
use Rattle.mh_lint_faults.specs.declared.front.AcceptedFiles.{AcceptedFiles}
use Rattle.mh_lint_findings.specs.Lines.{Line, lines_of}
use Rattle.mh_lint_findings.specs.Positions.{IsPositionWithin}
use Rattle.mh_lint_findings.specs.code.Cursors.{AreShort}
use Rattle.mh_lint_findings.specs.declared.findings.Finding.{Finding}
use Rattle.mh_lint_findings.specs.declared.findings.GrammarFile.{GrammarFile}
use Rattle.mh_lint_findings.specs.declared.findings.Position.TheVariants.{OfAutomaton}
use Rattle.mh_opts.specs.Orders.{IsWithinLimits}
use Rattle.mh_opts.specs.declared.order.Order.{Order}
use Rattle.mh_outside.specs.Shelf.{Files}
use Rattle.mh_top_check.specs.Examination.{IsBareLine, IsExamination}
use Rattle.mh_top_check.specs.declared.checking.Found.{Found}
use Rattle.mh_top_drive.specs.StageResults.{StageResult, Go, Halt}
use Rattle.mh_top_drive.specs.declared.stop.Cause.TheVariants.{Refused}
use Rattle.mh_top_drive.specs.declared.stop.Stop.{Stop}
use Rattle.mh_top_drive.specs.declared.stop.Stop.TheVariants.{Halted, ShelfFailed, OutOfMemory}
use Rattle.mh_top_plans.specs.Plan.{Ends, Findings, Plan, plan_of_stage}
use Rattle.mh_top_drive.specs.declared.front.OrderAndGrammar.{OrderAndGrammar}
use Rattle.mh_validate_valid.specs.Valid.{AreTokenNamesDistinct}

-- The files are short, and each finding is within its file.
pub record AreReportable (files : List GrammarFile) (findings : List Finding) : Type 0 where
  pub short : AreShort files
  pub within : All (λ (f : Finding). IsPositionWithin files f.at) findings

-- The finding is for the line of a refusal; each other stop, and want of memory, is the result.
pub data GivesFinding (stop : Stop) : Result Finding Stop → Type 0 where
  found : (whole : Text) (f : Finding) → stop ≡ Halted (Refused whole) → f.at ≡ OfAutomaton → IsBareLine whole f.text → GivesFinding stop (Ok f)
  other : ((whole : Text) → stop ≡ Halted (Refused whole) → ⊥) → GivesFinding stop (Err stop)
  memory : GivesFinding stop (Err OutOfMemory)

-- The order and the grammar allow the stages after the grammar: the grammar has a start symbol, its tokens have costs
-- and distinct names, and the job is within its limits.
pub record AllowsTable (front : OrderAndGrammar) : Type 0 where
  pub start : 0 < length front.grammar.starts
  pub limits : IsWithinLimits front.order.job
  pub costs : HaveCosts front.grammar.tokens
  pub distinct_names : AreTokenNamesDistinct front.grammar

-- The accepted files have the grammar of the order, and the calls that report on them may be made.
pub record IsAcceptedBy (named : List GrammarFile) (files : AcceptedFiles) (front : OrderAndGrammar) : Type 0 where
  pub short : AreShort named
  pub ready : AreAcceptedReady files
  pub stages : Stages
  pub are_stages : AreStages front.order.stdlib named files front.grammar stages

-- The table file of this name is the next to be read, after the files are accepted.
pub record AreTablesNext (order : Order) (named : List GrammarFile) (name : Text) : Type 0 where
  pub stages : Stages
  pub accepts : AreAccepted order.stdlib named stages
  pub named_is : order.tables ≡ Some name

-- What is found is that of the examination of these files; want of memory and a failure of the shelf at the table file
-- are free.
abbrev pub FindsIn : Option Files → Order → List GrammarFile → Result Found Stop → Type 0
FindsIn files order named (Ok result) = IsExamination files order named (Go (result.are_faults, lines_of result.findings.items)) × AreReportable named result.findings.items
FindsIn files order named (Err (Halted cause)) = IsExamination files order named (Halt cause)
FindsIn files order named (Err (ShelfFailed name)) = AreTablesNext order named name
FindsIn files order named (Err OutOfMemory) = ⊤
FindsIn files order named (Err _) = ⊥

abbrev pub ExaminesAutomaton : Option Files → OrderAndGrammar → List GrammarFile → Result Found Stop → Type 0
ExaminesAutomaton files front named result = FindsIn files front.order named result

-- The plan that writes the lines on these files, or stops the work.
abbrev pub plan_of_files : Order → List GrammarFile → StageResult (Bool × List Line) → Plan
plan_of_files order named s = plan_of_stage (λ (x : Bool × List Line). Ends (Findings named order.strict x.0 x.1)) s

-- The plan is that of the examination of these files.
abbrev pub IsPlanOfFiles : Option Files → Order → List GrammarFile → Plan → Type 0
IsPlanOfFiles files order named plan = (s : StageResult (Bool × List Line)) × IsExamination files order named s × (plan ≡ plan_of_files order named s)
