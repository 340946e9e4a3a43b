-- The examination of grammar files as stages of the work: the files are read, whatever their bytes are, and examined;
-- the result are lines, and whether they are faults (this project's own).
use Rattle.std.specs.Prelude.{◌≡◌, ◌<◌, ◌^◌, ◌++◌, Bool, true, false, List, [], ◌∷◌, length, map, Option, Some, codes}
use Rattle.mh_grammar.specs.Text.{Text}
use Rattle.mh_join_names.specs.Faults.{Meanings, meanings}
use Rattle.mh_lint_findings.specs.declared.findings.GrammarFile.{GrammarFile}
use Rattle.mh_lint_findings.specs.declared.findings.Position.TheVariants.{OfAutomaton}
use Rattle.mh_lint_findings.specs.Lines.{Line, line}
use Rattle.mh_lint_faults.specs.FaultLines.{AreFaultLines}
use Rattle.mh_lint_faults.specs.Stages.{AreAccepted, Stages, modules_of}
use Rattle.mh_lint.specs.Built.{Built}
use Rattle.mh_lint.specs.Warnings.{AreWarningLines}
use Rattle.mh_opts.specs.declared.order.Order.{Order}
use Rattle.mh_outside.specs.Shelf.{Files}
use Rattle.mh_top_drive.specs.FileContents.{AreFileContents}
use Rattle.mh_top_drive.specs.StageResults.{StageResult, Go, Halt, Gives, Then}
use Rattle.mh_top_drive.specs.declared.stop.Cause.{Cause}
use Rattle.mh_top_drive.specs.declared.stop.Cause.TheVariants.{Refused}
use Rattle.mh_top_drive.specs.NextFile.{IsNextFile}
use Rattle.mh_top_plans.specs.Plan.{Ends, Findings, Plan, plan_of_stage}
use Rattle.mh_top_prepare.specs.PreparedStage.{IsPreparedFromFiles}
use Rattle.mh_top_drive.specs.Shapes.{Prepared}
use Rattle.mh_top_drive.specs.declared.front.OrderAndGrammar.{OrderAndGrammar}

-- The file has this name and these bytes, of which there are few enough to be counted. Any bytes are a file.
abbrev pub IsGrammarFile : Text → Text → StageResult GrammarFile → Type 0
IsGrammarFile name bytes (Go f) = (f.name ≡ name) × (f.bytes ≡ bytes) × (length bytes < 2 ^ 31)
IsGrammarFile name bytes (Halt cause) = ⊥

-- A line of the program without the name of the program and the line end; any other line as it is.
pub data IsBareLine (whole : Text) : Text → Type 0 where
  of_program : (bare : Text) → whole ≡ (codes "menhir: " ++ bare) ++ codes "\n" → IsBareLine whole bare
  other : ((bare : Text) → whole ≡ (codes "menhir: " ++ bare) ++ codes "\n" → ⊥) → IsBareLine whole whole

abbrev pub front_of : Order → Stages → OrderAndGrammar
front_of order s = record { order = order; grammar = s.grammar }

abbrev pub built_of : Prepared → Built
built_of p = record { automaton = p.tabled.automaton; table = p.tabled.halting; conflicts = p.tabled.conflicts }

-- The meanings of the names of the files.
abbrev pub meanings_of : Order → Stages → Meanings
meanings_of order s = meanings order.stdlib (modules_of s.found)

-- The lines on the files, and whether they are faults. `faulty`: the files have faults. `refused`: the grammar has no
-- table, which is a fault without a place. `stopped`: the work stops before there is a table for another cause.
-- `warned`: the lines are the warnings.
pub data IsExamination (files : Option Files) (order : Order) (found : List GrammarFile) : StageResult (Bool × List Line) → Type 0 where
  faulty : (lines : List Line) → AreFaultLines order.stdlib found lines → IsExamination files order found (Go (true, lines))
  refused : (s : Stages) → AreAccepted order.stdlib found s → (whole bare : Text) → IsPreparedFromFiles files (front_of order s) (Halt (Refused whole)) → IsBareLine whole bare → IsExamination files order found (Go (true, line OfAutomaton bare ∷ []))
  stopped : (s : Stages) → AreAccepted order.stdlib found s → (cause : Cause) → IsPreparedFromFiles files (front_of order s) (Halt cause) → ((whole : Text) → cause ≡ Refused whole → ⊥) → IsExamination files order found (Halt cause)
  warned : (s : Stages) (p : Prepared) → AreAccepted order.stdlib found s → IsPreparedFromFiles files (front_of order s) (Go p)
      → (lines : List Line) → AreWarningLines (map (λ (f : GrammarFile). f.name) found) s (built_of p) (meanings_of order s) lines → IsExamination files order found (Go (false, lines))

-- The grammar files with the lines on them, and whether the lines are faults.
abbrev pub Examined : Type 0
Examined = List GrammarFile × (Bool × List Line)

-- The stages: the files of the order are read, and then examined.
abbrev pub AreExamined : Option Files → Order → StageResult Examined → Type 0
AreExamined files order s = Then (AreFileContents files IsGrammarFile order.grammars) (λ found. Then (IsExamination files order found) (λ result. Gives (found, result))) s

-- The plan that writes the lines on the grammar files, or stops the work.
abbrev pub plan_of_check : Order → StageResult Examined → Plan
plan_of_check order s = plan_of_stage (λ (x : Examined). Ends (Findings x.0 order.strict x.1.0 x.1.1)) s

abbrev pub IsPlanOfCheck : Order → Option Files → Plan → Type 0
IsPlanOfCheck order files plan = (s : StageResult Examined) × AreExamined files order s × (plan ≡ plan_of_check order s)

-- This file is the next to be read: a grammar file, or the table file of a grammar whose files have no fault.
pub data IsNextOfCheck (order : Order) (files : Option Files) (name : Text) : Type 0 where
  OfGrammar : IsNextFile files IsGrammarFile order.grammars name → IsNextOfCheck order files name
  OfTables : (found : List GrammarFile) (s : Stages) → AreFileContents files IsGrammarFile order.grammars (Go found) → AreAccepted order.stdlib found s → order.tables ≡ Some name → IsNextOfCheck order files name
