-- The source of the automaton of an order: it is built, or taken from a table file.
use Rattle.std.specs.Prelude.{if◌then◌else◌, Bool, Option, None, Some}
use Rattle.mh_outside.specs.Shelf.{Files}
use Rattle.mh_opts.specs.declared.order.Order.{Order}
use Rattle.mh_grammar.specs.Text.{Text}
use Rattle.mh_top_drive.specs.StageResults.{StageResult, Then, Gives}
use Rattle.mh_top_drive.specs.FileContents.{IsFileContent}
use Rattle.mh_top_prepare.specs.TableFileContent.{IsTableFile}
use Rattle.mh_top_prepare.specs.declared.sources.AutomatonSource.{AutomatonSource}
use Rattle.mh_top_prepare.specs.declared.sources.AutomatonSource.TheVariants.{Canonical, Merged, File}

-- The source of an automaton that is built, canonical or merged.
abbrev pub source_to_build : Bool → AutomatonSource
source_to_build canonical = if canonical then Canonical else Merged

-- The source for an optional name of a table file: the content of the file, or the automaton is built.
abbrev pub IsAutomatonSourceBy : Option Text → Bool → Option Files → StageResult AutomatonSource → Type 0
IsAutomatonSourceBy None canonical files s = Gives (source_to_build canonical) s
IsAutomatonSourceBy (Some name) canonical files s = Then (IsFileContent files IsTableFile name) (λ raw. Gives (File name raw)) s

-- The source of the automaton of an order.
abbrev pub IsAutomatonSource : Option Files → Order → StageResult AutomatonSource → Type 0
IsAutomatonSource files order s = IsAutomatonSourceBy order.tables order.canonical files s
