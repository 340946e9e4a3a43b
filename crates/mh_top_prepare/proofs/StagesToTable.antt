-- Lemmas on the stages between the grammar and the warnings: the code's result of one stage is a result of all of them
-- together.
use Rattle.std.proofs.Common.{◌≡◌, ℕ, List, Option, Some, refl, subst, sym}
use Rattle.std.specs.Prelude.{Result, Ok, Err, IfOk}
use Rattle.mh_grammar.specs.declared.types.Grammar.{Grammar}
use Rattle.mh_outside.specs.Shelf.{Files}
use Rattle.mh_grammar.specs.Text.{Text}
use Rattle.mh_top_drive.specs.StageResults.{Go, Halt, Gives}
use Rattle.mh_top_drive.specs.code.StageCalls.{FileStageGives, StopsWith, StageGives}
use Rattle.mh_top_drive.specs.declared.stop.Cause.TheVariants.{Refused}
use Rattle.mh_top_drive.specs.declared.stop.Stop.{Stop}
use Rattle.mh_top_drive.specs.declared.stop.Stop.TheVariants.{Halted, ShelfFailed, InputFailed, WriteFailed, OutOfMemory}
use Rattle.mh_top_drive.proofs.Then.{no_names, then_on, then_stops}
use Rattle.mh_grammar.specs.Plain.{plain_of}
use Rattle.mh_items_kernels.specs.Automaton.{IsAutomaton}
use Rattle.mh_items_kernels.specs.KernelTypes.{Automaton}
use Rattle.mh_items_kernels.specs.declared.kernels.StatesFault.{StatesFault}
use Rattle.mh_items_kernels.specs.declared.kernels.StatesFault.TheVariants as automata
use Rattle.mh_resolve_cells.specs.declared.kinds.Mode.{Mode}
use Rattle.mh_resolve_cells.specs.declared.kinds.Mode.TheVariants as modes
use Rattle.mh_top_prepare.specs.code.BuiltSource.{source_in}
use Rattle.mh_tables_core.specs.declared.parts.StateParts.{StateParts}
use Rattle.mh_tabfile_form.specs.declared.types.RawTable.{RawTable}
use Rattle.mh_validate_valid.specs.declared.reason.Reason.{Reason}
use Rattle.mh_validate_valid.specs.Valid.{IsInvalidAt, IsValidFor}
use Rattle.mh_validate.specs.declared.fault.ValidFault.{ValidFault}
use Rattle.mh_validate.specs.declared.fault.ValidFault.TheVariants as tables
use Rattle.mh_top_prepare.specs.code.FaultStops.{IsStopForInvalidTable, IsStopForStatesFault}
use Rattle.mh_top_prepare.specs.TableStage.{IsAutomatonStage, IsTableStage, mode_of}
use Rattle.mh_top_prepare.specs.ResolvedStage.{IsResolvedStage}
use Rattle.mh_top_prepare.specs.AutomatonSources.{IsAutomatonSource}
use Rattle.mh_top_prepare.specs.TableTexts.{invalid_line, too_many_states}
use Rattle.mh_top_drive.specs.declared.front.OrderAndGrammar.{OrderAndGrammar}
use Rattle.mh_top_prepare.specs.PreparedStage.{IsPreparedFromSource, IsPreparedFromFiles}
use Rattle.mh_top_drive.specs.Shapes.{Prepared, TabledAutomaton}
use Rattle.mh_top_prepare.specs.declared.sources.AutomatonSource.{AutomatonSource}
use Rattle.mh_top_prepare.specs.declared.sources.AutomatonSource.TheVariants.{File}

-- A result for the table of the automaton is a result for the grammar.
pub resolved_of_automaton : (source : AutomatonSource) (g : Grammar) (a : Automaton) (r : Result TabledAutomaton Stop) → IsAutomatonStage source g (Go a) → StageGives (IsResolvedStage (mode_of source) g a) r → StageGives (IsTableStage source g) r
resolved_of_automaton source g a r is has = then_on (IsAutomatonStage source g) (IsResolvedStage (mode_of source) g) (λ other. ⊥) a r is has

pub automaton_stops : (source : AutomatonSource) (g : Grammar) (stop : Stop) → StageGives {A = Automaton} (IsAutomatonStage source g) (Err stop) → StageGives {A = TabledAutomaton} (IsTableStage source g) (Err stop)
automaton_stops source g stop has = then_stops (IsAutomatonStage source g) (IsResolvedStage (mode_of source) g) (λ other. ⊥) stop has

-- ---- An automaton that is built.

pub both_ok : {A E : Type 0} (P Q : A → Type 0) (r : Result A E) → IfOk r P → IfOk r Q → IfOk r (λ x. P x × Q x)
both_ok P Q (Ok x) p q = (p, q)
both_ok P Q (Err e) p q = tt

pub mode_in : (mode : Mode) → mode_of (source_in mode) ≡ mode
mode_in modes.Merged = refl
mode_in modes.Canonical = refl

-- The table of an automaton is resolved in the mode in which the automaton is built.
pub resolved_of_built : (mode : Mode) (g : Grammar) (a : Automaton) (r : Result TabledAutomaton Stop) → IsAutomatonStage (source_in mode) g (Go a) → StageGives (IsResolvedStage mode g a) r → StageGives (IsTableStage (source_in mode) g) r
resolved_of_built mode g a r is has = resolved_of_automaton (source_in mode) g a r is (subst (λ (m : Mode). StageGives (IsResolvedStage m g a) r) (sym (mode_in mode)) has)

-- The refusal of an automaton with too many states is a result of the stage.
states_stop : (source : AutomatonSource) (g : Grammar) (stop : Stop) → IsAutomatonStage source g (Halt (Refused too_many_states)) → StopsWith (Refused too_many_states) stop → StageGives {A = Automaton} (IsAutomatonStage source g) (Err stop)
states_stop source g (Halted cause) is halts = subst (λ other. IsAutomatonStage source g (Halt other)) (sym halts) is
states_stop source g OutOfMemory is halts = tt
states_stop source g (ShelfFailed other) is halts = absurd halts
states_stop source g InputFailed is halts = absurd halts
states_stop source g WriteFailed is halts = absurd halts

pub no_automaton_stops : (source : AutomatonSource) (g : Grammar) (fault : StatesFault) (stop : Stop) → (fault ≡ automata.TooManyStates → IsAutomatonStage source g (Halt (Refused too_many_states))) → IsStopForStatesFault fault stop → StageGives {A = Automaton} (IsAutomatonStage source g) (Err stop)
no_automaton_stops source g automata.TooManyStates stop is halts = states_stop source g stop (is refl) halts
no_automaton_stops source g automata.Memory stop is halts = subst (λ (s : Stop). StageGives {A = Automaton} (IsAutomatonStage source g) (Err s)) (sym halts) tt

-- A result for the table of a valid file is a result for the grammar.
pub valid_table : (name : Text) (raw : RawTable) (g : Grammar) (a : Automaton) (parts : List StateParts) (r : Result TabledAutomaton Stop) → IsValidFor g raw a parts → StageGives (IsResolvedStage raw.mode g a) r → StageGives (IsTableStage (File name raw) g) r
valid_table name raw g a parts r valid has = resolved_of_automaton (File name raw) g a r (parts, valid) has

-- The refusal of a file that is not valid is a result of the stage.
invalid_stops : (name : Text) (raw : RawTable) (g : Grammar) (state : Option ℕ) (reason : Reason) (stop : Stop) → IsInvalidAt g raw state reason → StopsWith (Refused (invalid_line name state reason)) stop → StageGives {A = Automaton} (IsAutomatonStage (File name raw) g) (Err stop)
invalid_stops name raw g state reason (Halted cause) first halts = record { state = state; reason = reason; first = first; cause_is = halts }
invalid_stops name raw g state reason OutOfMemory first halts = tt
invalid_stops name raw g state reason (ShelfFailed other) first halts = absurd halts
invalid_stops name raw g state reason InputFailed first halts = absurd halts
invalid_stops name raw g state reason WriteFailed first halts = absurd halts

-- Making the table does not change the automaton.
pub automaton_kept : (mode : Mode) (g : Grammar) (a : Automaton) (r : Result TabledAutomaton Stop) → IsAutomaton (plain_of g) a → StageGives (IsResolvedStage mode g a) r → IfOk r (λ (tabled : TabledAutomaton). IsAutomaton (plain_of g) tabled.automaton)
automaton_kept mode g a (Ok tabled) is has = subst (IsAutomaton (plain_of g)) (sym has.automaton) is
automaton_kept mode g a (Err stop) is has = tt

pub not_valid_stops : (name : Text) (raw : RawTable) (g : Grammar) (fault : ValidFault) (stop : Stop) → ((state : Option ℕ) (reason : Reason) → fault ≡ tables.Invalid state reason → IsInvalidAt g raw state reason) → IsStopForInvalidTable name fault stop → StageGives {A = Automaton} (IsAutomatonStage (File name raw) g) (Err stop)
not_valid_stops name raw g (tables.Invalid state reason) stop first halts = invalid_stops name raw g state reason stop (first state reason refl) halts
not_valid_stops name raw g tables.Memory stop first halts = subst (λ (s : Stop). StageGives {A = Automaton} (IsAutomatonStage (File name raw) g) (Err s)) (sym halts) tt

pub table_stops : (front : OrderAndGrammar) (source : AutomatonSource) (stop : Stop) → StageGives (IsTableStage source front.grammar) (Err stop) → StageGives {A = Prepared} (IsPreparedFromSource front source) (Err stop)
table_stops front source stop has = then_stops (IsTableStage source front.grammar) (λ tabled. Gives (record { order = front.order; grammar = front.grammar; tabled = tabled })) (λ name. ⊥) stop has

module _ (files : Option Files) (front : OrderAndGrammar) where
  pub source_stops : (stop : Stop) → FileStageGives {A = AutomatonSource} (IsAutomatonSource files front.order) (λ name. front.order.tables ≡ Some name) (Err stop) → FileStageGives {A = Prepared} (IsPreparedFromFiles files front) (λ name. front.order.tables ≡ Some name) (Err stop)
  source_stops stop has = then_stops (IsAutomatonSource files front.order) (IsPreparedFromSource front) (λ name. front.order.tables ≡ Some name) stop has

  pub from_source : (source : AutomatonSource) (r : Result Prepared Stop) → IsAutomatonSource files front.order (Go source) → StageGives (IsPreparedFromSource front source) r → FileStageGives (IsPreparedFromFiles files front) (λ name. front.order.tables ≡ Some name) r
  from_source source r is has = then_on (IsAutomatonSource files front.order) (IsPreparedFromSource front) (λ name. front.order.tables ≡ Some name) source r is (no_names (IsPreparedFromSource front source) (λ name. front.order.tables ≡ Some name) r has)
