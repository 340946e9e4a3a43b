-- Conflicts of the item sets that paths of symbols reach (Knuth 1965). No automaton is needed for these definitions.
use Rattle.std.specs.Prelude.{◌<◌, ℕ, List, length}
use Rattle.mh_grammar.specs.declared.types.Symbol.{Symbol}
use Rattle.mh_grammar.specs.Plain.{PlainGrammar}
use Rattle.mh_grammar.specs.ItemSets.{PathItems}
use Rattle.mh_items_kernels.specs.Conflicts.{HasConflict, HasAnyConflict}

-- Some item set that a path reaches from a start has a conflict, so that the grammar is not LR(1).
abbrev pub ReachesConflict : PlainGrammar → Type 0
ReachesConflict g = (i : ℕ) × (path : List Symbol) × (i < length g.starts) × HasConflict g (PathItems g i path)

-- Some item set that a path reaches from a start has a conflict or an end-of-stream conflict.
abbrev pub ReachesAnyConflict : PlainGrammar → Type 0
ReachesAnyConflict g = (i : ℕ) × (path : List Symbol) × (i < length g.starts) × HasAnyConflict g (PathItems g i path)
