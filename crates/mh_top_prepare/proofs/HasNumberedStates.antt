-- A source has numbered states, and the source of an order without a table file is built.
use Rattle.std.proofs.Common.{◌≡◌, Bool, true, false, Option, Some, None, subst, sym}
use Rattle.mh_outside.specs.Shelf.{Files}
use Rattle.mh_grammar.specs.Text.{Text}
use Rattle.mh_top_drive.specs.StageResults.{StageResult, Go, Halt, AfterStage, Gives}
use Rattle.mh_tabfile_form.specs.declared.types.RawTable.{RawTable}
use Rattle.mh_top_drive.specs.FileContents.{IsFileContent}
use Rattle.mh_top_prepare.specs.code.SourceFacts.{IsBuilt, HasNumberedStates}
use Rattle.mh_top_prepare.specs.TableFileContent.{IsTableFile}
use Rattle.mh_top_prepare.specs.AutomatonSources.{IsAutomatonSourceBy, source_to_build}
use Rattle.mh_top_prepare.proofs.IsAutomatonSource.{built_numbered, read_numbered}
use Rattle.mh_top_prepare.specs.declared.sources.AutomatonSource.{AutomatonSource}
use Rattle.mh_top_prepare.specs.declared.sources.AutomatonSource.TheVariants.{File}

pub source_numbered : (files : Option Files) (tables : Option Text) (canonical : Bool) (source : AutomatonSource) → IsAutomatonSourceBy tables canonical files (Go source) → HasNumberedStates source
source_numbered files None canonical source is = let one : source ≡ source_to_build canonical = cc in built_numbered canonical source one
source_numbered files (Some name) canonical source is = at is.0 is.1 is.2
  where
    at : (s : StageResult RawTable) → IsFileContent files IsTableFile name s → AfterStage s (λ raw. Gives (File name raw)) (Go source) → HasNumberedStates source
    at (Go raw) file same = let one : source ≡ File name raw = cc in subst HasNumberedStates (sym one) (read_numbered files name raw file)
    at (Halt cause) file same = absurd (cc)

pub source_built : (files : Option Files) (tables : Option Text) (canonical : Bool) (source : AutomatonSource) → tables ≡ None → IsAutomatonSourceBy tables canonical files (Go source) → IsBuilt source
source_built files None canonical source none is = let one : source ≡ source_to_build canonical = cc in by canonical one
  where
    by : (b : Bool) → source ≡ source_to_build b → IsBuilt source
    by true same = subst IsBuilt (sym same) tt
    by false same = subst IsBuilt (sym same) tt
source_built files (Some name) canonical source none is = absurd (cc)
