-- The stage that makes the table of an automaton and its conflicts. A table with a relative run that makes more than
-- 10,000 reductions is refused.
use Rattle.std.specs.Prelude.{◌≡◌, ℕ, Option}
use Rattle.mh_grammar.specs.declared.types.Grammar.{Grammar}
use Rattle.mh_items_kernels.specs.KernelTypes.{Automaton}
use Rattle.mh_resolve_cells.specs.States.{IsTableOf}
use Rattle.mh_resolve_cells.specs.Conflicts.{AreConflicts}
use Rattle.mh_resolve_cells.specs.declared.kinds.Mode.{Mode}
use Rattle.mh_tables_core.specs.Table.{TableData}
use Rattle.mh_tables_core.specs.Halting.{AlwaysHalts, IsFirstLoop}
use Rattle.mh_top_prepare.specs.Loops.{loops_line}
use Rattle.mh_top_drive.specs.StageResults.{StageResult, Go, Halt}
use Rattle.mh_msgfile.specs.Sentences.{token_names}
use Rattle.mh_top_drive.specs.declared.stop.Cause.{Cause}
use Rattle.mh_top_drive.specs.declared.stop.Cause.TheVariants.{Refused}
use Rattle.mh_top_drive.specs.Shapes.{TabledAutomaton}

-- Some relative run on the table makes more than 10,000 reductions, and the cause has the line for the first of these
-- runs.
pub record HasFirstLoop (mode : Mode) (g : Grammar) (a : Automaton) (cause : Cause) : Type 0 where
  pub found : TableData
  pub table : IsTableOf g a mode found
  pub below : Option ℕ
  pub state : ℕ
  pub look : Option ℕ
  pub loops : IsFirstLoop found below state look
  pub cause_is : cause ≡ Refused (loops_line (token_names g) below state look)

-- `tabled` is the automaton with its table, on which no relative run makes more than 10,000 reductions, and with its
-- conflicts.
pub record IsTabledAutomaton (mode : Mode) (g : Grammar) (a : Automaton) (tabled : TabledAutomaton) : Type 0 where
  pub automaton : tabled.automaton ≡ a
  pub table : IsTableOf g a mode tabled.halting
  pub conflicts : AreConflicts g a tabled.conflicts
  pub halts : AlwaysHalts tabled.halting
  pub resolved_in : tabled.mode ≡ mode

-- The automaton with its table, or the refusal of a table with too long a relative run.
abbrev pub IsResolvedStage : Mode → Grammar → Automaton → StageResult TabledAutomaton → Type 0
IsResolvedStage mode g a (Go tabled) = IsTabledAutomaton mode g a tabled
IsResolvedStage mode g a (Halt cause) = HasFirstLoop mode g a cause
