-- The source of an automaton that is built.
use Rattle.mh_resolve_cells.specs.declared.kinds.Mode.{Mode}
use Rattle.mh_resolve_cells.specs.declared.kinds.Mode.TheVariants as modes
use Rattle.mh_top_prepare.specs.declared.sources.AutomatonSource.{AutomatonSource}
use Rattle.mh_top_prepare.specs.declared.sources.AutomatonSource.TheVariants.{Canonical, Merged}

-- The source of the automaton that is built in a mode.
abbrev pub source_in : Mode → AutomatonSource
source_in modes.Merged = Merged
source_in modes.Canonical = Canonical
