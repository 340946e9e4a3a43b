-- Proves that the source of the automaton that the code gives is a source that the definition of the stage allows.
use Rattle.std.proofs.Common.{◌≡◌, ◌<◌, ◌^◌, Bool, true, false, length, Option, Some, None, refl, subst, sym, ap, ◌∙◌}
use Rattle.std.specs.Prelude.{Result, Err}
use Rattle.mh_opts.specs.declared.order.Order.{Order}
use Rattle.mh_outside.specs.Shelf.{Files}
use Rattle.mh_grammar.specs.Text.{Text}
use Rattle.mh_top_drive.specs.StageResults.{StageResult, Go, Halt, AfterStage, Gives}
use Rattle.mh_top_drive.specs.code.StageCalls.{FileStageGives}
use Rattle.mh_top_drive.specs.declared.stop.Stop.{Stop}
use Rattle.mh_top_drive.proofs.Then.{names_wider, then_stops}
use Rattle.mh_tabfile_form.specs.declared.types.RawTable.{RawTable}
use Rattle.mh_top_drive.specs.FileContents.{IsFileContent}
use Rattle.mh_top_prepare.specs.TableFileContent.{IsTableFile}
use Rattle.mh_top_prepare.specs.code.SourceFacts.{HasNumberedStates}
use Rattle.mh_top_prepare.specs.AutomatonSources.{IsAutomatonSource, IsAutomatonSourceBy, source_to_build}
use Rattle.mh_top_prepare.specs.declared.sources.AutomatonSource.{AutomatonSource}
use Rattle.mh_top_prepare.specs.declared.sources.AutomatonSource.TheVariants.{File}

-- If an order names a table file, the content of this file is the automaton source of the order.
pub file_source : (files : Option Files) (name : Text) (canonical : Bool) (raw : RawTable) → IsFileContent files IsTableFile name (Go raw) → IsAutomatonSourceBy (Some name) canonical files (Go (File name raw))
file_source files name canonical raw is = (Go raw, is, refl)

pub file_stops : (files : Option Files) (name : Text) (canonical : Bool) (stop : Stop) → FileStageGives {A = RawTable} (IsFileContent files IsTableFile name) (λ other. other ≡ name) (Err stop) → FileStageGives {A = AutomatonSource} (IsAutomatonSourceBy (Some name) canonical files) (λ other. other ≡ name) (Err stop)
file_stops files name canonical stop has = then_stops (IsFileContent files IsTableFile name) (λ raw. Gives (File name raw)) (λ other. other ≡ name) stop has

-- A table file that was read has fewer than 2^32 states.
pub read_numbered : (files : Option Files) (name : Text) (raw : RawTable) → IsFileContent files IsTableFile name (Go raw) → length raw.states < 2 ^ 32
read_numbered files name raw is = at is.0 is.2
  where
    at : (read : StageResult Text) → AfterStage read (IsTableFile name) (Go raw) → length raw.states < 2 ^ 32
    at (Go bytes) file = file.spelled.few_states
    at (Halt cause) same = absurd (cc)

-- A result for the name of a table file is a result for each order that has this name.
pub order_source : (files : Option Files) (order : Order) (name : Text) (r : Result AutomatonSource Stop) → order.tables ≡ Some name → FileStageGives (IsAutomatonSourceBy (Some name) order.canonical files) (λ other. other ≡ name) r → FileStageGives (IsAutomatonSource files order) (λ other. order.tables ≡ Some other) r
order_source files order name r is has =
    names_wider (IsAutomatonSource files order) (λ other. other ≡ name) (λ other. order.tables ≡ Some other) r (λ other same. is ∙ ap Some (sym same)) (subst (λ (t : Option Text). FileStageGives (IsAutomatonSourceBy t order.canonical files) (λ other. other ≡ name) r) (sym is) has)

pub built_source : (files : Option Files) (order : Order) (source : AutomatonSource) → order.tables ≡ None → source ≡ source_to_build order.canonical → IsAutomatonSource files order (Go source)
built_source files order source is same = subst (λ (t : Option Text). IsAutomatonSourceBy t order.canonical files (Go source)) (sym is) (ap Go same)

pub built_numbered : (canonical : Bool) (source : AutomatonSource) → source ≡ source_to_build canonical → HasNumberedStates source
built_numbered true source is = subst HasNumberedStates (sym is) tt
built_numbered false source is = subst HasNumberedStates (sym is) tt
