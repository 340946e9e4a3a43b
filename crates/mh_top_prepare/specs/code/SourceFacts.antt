-- Properties of the source of an automaton.
use Rattle.std.specs.Prelude.{◌<◌, ◌^◌, length, ⊤}
use Rattle.mh_top_prepare.specs.declared.sources.AutomatonSource.{AutomatonSource}
use Rattle.mh_top_prepare.specs.declared.sources.AutomatonSource.TheVariants.{Canonical, Merged, File}

-- A table file has so few states that each has a number of 32 bits.
abbrev pub HasNumberedStates : AutomatonSource → Type 0
HasNumberedStates Merged = ⊤
HasNumberedStates Canonical = ⊤
HasNumberedStates (File name raw) = length raw.states < 2 ^ 32

-- The automaton is built, not taken from a table file.
abbrev pub IsBuilt : AutomatonSource → Type 0
IsBuilt Merged = ⊤
IsBuilt Canonical = ⊤
IsBuilt (File name raw) = ⊥
