-- Proves that the result of the halting test is a result that the definition of the stage allows (`IsResolvedStage`).
use Rattle.std.proofs.Common.{◌≡◌, List, Option, ℕ, refl, sym, subst}
use Rattle.std.specs.Prelude.{Err}
use Rattle.mh_grammar.specs.declared.types.Grammar.{Grammar}
use Rattle.mh_items_kernels.specs.KernelTypes.{Automaton}
use Rattle.mh_resolve_cells.specs.States.{IsTableOf}
use Rattle.mh_resolve_cells.specs.Conflicts.{AreConflicts}
use Rattle.mh_resolve_cells.specs.declared.conflicts.Conflict.{Conflict}
use Rattle.mh_resolve_cells.specs.declared.kinds.Mode.{Mode}
use Rattle.mh_tables_core.specs.Table.{TableData}
use Rattle.mh_tables_core.specs.Halting.{AlwaysHalts, IsFirstLoop}
use Rattle.mh_msgfile.specs.Sentences.{token_names}
use Rattle.mh_top_drive.specs.code.StageCalls.{StageGives, StopsWith as HaltsWith}
use Rattle.mh_top_prepare.specs.ResolvedStage.{IsTabledAutomaton, IsResolvedStage}
use Rattle.mh_top_prepare.specs.Loops.{loops_line}
use Rattle.mh_top_drive.specs.declared.stop.Cause.TheVariants.{Refused}
use Rattle.mh_top_drive.specs.declared.stop.Stop.{Stop}
use Rattle.mh_top_drive.specs.declared.stop.Stop.TheVariants.{Halted, ShelfFailed, InputFailed, WriteFailed, OutOfMemory}
use Rattle.mh_top_drive.specs.Shapes.{TabledAutomaton}

module _ (mode : Mode) (g : Grammar) (a : Automaton) (t : TableData) (table : IsTableOf g a mode t) where
  -- If the table always halts, the stage gives the automaton with the table.
  pub tabled_if_halts : (h : TableData) (found conflicts : List Conflict) → h ≡ t → conflicts ≡ found → AreConflicts g a found → AlwaysHalts t → IsTabledAutomaton mode g a (record { automaton = a; halting = h; conflicts = conflicts; mode = mode })
  tabled_if_halts h found conflicts same_table same are halts = record {
    automaton = refl;
    table = subst (IsTableOf g a mode) (sym same_table) table;
    conflicts = subst (AreConflicts g a) (sym same) are;
    halts = subst AlwaysHalts (sym same_table) halts;
    resolved_in = refl;
  }

  -- If the table loops at a state, the stage refuses the grammar.
  pub refused_if_loops : (below : Option ℕ) (state : ℕ) (look : Option ℕ) (stop : Stop) → IsFirstLoop t below state look → HaltsWith (Refused (loops_line (token_names g) below state look)) stop → StageGives {A = TabledAutomaton} (IsResolvedStage mode g a) (Err stop)
  refused_if_loops below state look (Halted cause) loops is = record { found = t; table = table; below = below; state = state; look = look; loops = loops; cause_is = is }
  refused_if_loops below state look OutOfMemory loops is = tt
  refused_if_loops below state look (ShelfFailed name) loops is = absurd is
  refused_if_loops below state look InputFailed loops is = absurd is
  refused_if_loops below state look WriteFailed loops is = absurd is
