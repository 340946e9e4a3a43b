-- What is found in grammar files is the mode that writes the lines on them; a stop opens no mode.
use Rattle.std.proofs.Common.{◌≡◌, inl, List, Option, Err, Ok, refl}
use Rattle.std.specs.Prelude.{Result}
use Rattle.mh_grammar.specs.Text.{Text}
use Rattle.mh_lint_findings.specs.Lines.{lines_of}
use Rattle.mh_lint_findings.specs.declared.findings.GrammarFile.{GrammarFile}
use Rattle.mh_opts.specs.declared.order.Order.{Order}
use Rattle.mh_outside.specs.Shelf.{Files}
use Rattle.mh_top_check.specs.code.Findings.{AreTablesNext, FindsIn, IsPlanOfFiles}
use Rattle.mh_top_check.specs.declared.checking.Found.{Found}
use Rattle.mh_top_check.specs.declared.checking.GrammarFindings.{GrammarFindings}
use Rattle.mh_top_drive.specs.StageResults.{Go, Halt}
use Rattle.mh_top_drive.specs.code.ModeCalls.{ModeRan}
use Rattle.mh_top_drive.specs.declared.stop.Stop.{Stop}
use Rattle.mh_top_drive.specs.declared.stop.Stop.TheVariants.{Halted, InputFailed, OutOfMemory, ShelfFailed, WriteFailed}
use Rattle.mh_top_plans.proofs.OpenedAndRan.{opened_followed}
use Rattle.mh_top_plans.specs.Plan.{Ends, Findings, Plan, plan_behavior}
use Rattle.mh_top_plans.specs.code.Modes.{OpenedAndRan, Opens}

-- The plan of the mode.
abbrev pub findings_plan : GrammarFindings → Plan
findings_plan mode = Ends (Findings mode.files.now mode.strict mode.found.are_faults (lines_of mode.found.findings.items))

abbrev pub IsMode : GrammarFindings → Plan → Type 0
IsMode mode plan = plan ≡ findings_plan mode

module _ (files : Option Files) (order : Order) (named : List GrammarFile) where
  pub is_plan : (found : Found) → FindsIn files order named (Ok found) → IsPlanOfFiles files order named (Ends (Findings named order.strict found.are_faults (lines_of found.findings.items)))
  is_plan found is = (Go (found.are_faults, lines_of found.findings.items), is.0, refl)

  pub stops : (stop : Stop) → FindsIn files order named (Err stop) → Opens IsMode (IsPlanOfFiles files order named) (AreTablesNext order named) (Err stop)
  stops (Halted cause) is = (Halt cause, is, refl)
  stops (ShelfFailed name) is = is
  stops OutOfMemory is = tt
  stops InputFailed is = absurd is
  stops WriteFailed is = absurd is

  module _ (in0 in1 out0 out1 : Option Text) where
    -- The mode for what is found runs.
    pub found_runs : (found : Found) (r : Result (Unit {0}) Stop) → FindsIn files order named (Ok found) → ModeRan plan_behavior (Ends (Findings named order.strict found.are_faults (lines_of found.findings.items))) in0 in1 out0 out1 r → OpenedAndRan (IsPlanOfFiles files order named) (AreTablesNext order named) in0 in1 out0 out1 r
    found_runs found r is ran = inl (_, is_plan found is, ran)

    -- A stop opens no mode.
    pub stop_runs : (stop : Stop) → FindsIn files order named (Err stop) → OpenedAndRan (IsPlanOfFiles files order named) (AreTablesNext order named) in0 in0 out0 out0 (Err stop)
    stop_runs stop is =
        let opened : Result GrammarFindings Stop = Err stop in
        opened_followed IsMode (IsPlanOfFiles files order named) (AreTablesNext order named) in0 in0 out0 out0 (Err stop) opened (stops stop is) (refl, refl, refl)
