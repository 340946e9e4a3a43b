-- The reasons to stop the work for a fault of an automaton or of a table file.
use Rattle.std.specs.Prelude.{◌≡◌, ℕ, Result, Ok, Err}
use Rattle.mh_grammar.specs.declared.types.Grammar.{Grammar}
use Rattle.mh_items_kernels.specs.KernelTypes.{Automaton}
use Rattle.mh_tabfile_form.specs.declared.types.RawTable.{RawTable}
use Rattle.mh_grammar.specs.Text.{Text}
use Rattle.mh_top_drive.specs.code.StageCalls.{StopsWith, StageGives}
use Rattle.mh_top_drive.specs.declared.stop.Cause.TheVariants.{Refused}
use Rattle.mh_top_drive.specs.declared.stop.Stop.{Stop}
use Rattle.mh_top_drive.specs.declared.stop.Stop.TheVariants.{OutOfMemory}
use Rattle.mh_validate.specs.Outcome.{IsValidResult as IsValidGiven}
use Rattle.mh_validate.specs.declared.validation.Valid.{Valid}
use Rattle.mh_validate.specs.declared.fault.ValidFault.{ValidFault}
use Rattle.mh_validate.specs.declared.fault.ValidFault.TheVariants as tables
use Rattle.mh_items_kernels.specs.declared.kernels.StatesFault.{StatesFault}
use Rattle.mh_items_kernels.specs.declared.kernels.StatesFault.TheVariants as automata
use Rattle.mh_top_prepare.specs.TableStage.{IsAutomatonStage}
use Rattle.mh_top_prepare.specs.TableTexts.{invalid_line, too_many_states}
use Rattle.mh_top_prepare.specs.declared.sources.AutomatonSource.TheVariants.{File}

-- The stop for an automaton that cannot be built: the refusal for too many states, or lack of memory.
abbrev pub IsStopForStatesFault : StatesFault → Stop → Type 0
IsStopForStatesFault automata.Memory stop = stop ≡ OutOfMemory
IsStopForStatesFault automata.TooManyStates stop = StopsWith (Refused too_many_states) stop

-- The stop for a table file that is not valid: its refusal, or lack of memory.
abbrev pub IsStopForInvalidTable : Text → ValidFault → Stop → Type 0
IsStopForInvalidTable name tables.Memory stop = stop ≡ OutOfMemory
IsStopForInvalidTable name (tables.Invalid state reason) stop = StopsWith (Refused (invalid_line name state reason)) stop

-- The table file is valid for the grammar and has this automaton, table and conflicts; or the work stops as the
-- definition of the stage says.
abbrev pub IsValidated : {W : ℕ} → Text → RawTable → Grammar → Result (Valid W) Stop → Type 0
IsValidated name raw g (Ok valid) = IsValidGiven g raw valid
IsValidated name raw g (Err stop) = StageGives {A = Automaton} (IsAutomatonStage (File name raw) g) (Err stop)
