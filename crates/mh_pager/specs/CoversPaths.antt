-- The definition of an automaton that has all paths of the canonical collection.
use Rattle.std.specs.Prelude.{◌<◌, ℕ, List, length}
use Rattle.mh_grammar.specs.declared.types.Symbol.{Symbol}
use Rattle.mh_grammar.specs.Plain.{PlainGrammar}
use Rattle.mh_grammar.specs.ItemSets.{PathItems}
use Rattle.mh_items_kernels.specs.KernelTypes.{Automaton}
use Rattle.mh_items_kernels.specs.Automaton.{kernel_of}
use Rattle.mh_items_kernels.specs.Collection.{HasItem, PathLeadsTo}
use Rattle.mh_pager.specs.WeakCompatibility.{Covers}

-- Each path of the canonical collection is a path of the automaton, to a state that contains the items of the
-- collection's state.
abbrev pub CoversPaths : PlainGrammar → Automaton → Type 0
CoversPaths g a = (i : ℕ) (path : List Symbol) → i < length g.starts → HasItem (PathItems g i path) → (s : ℕ) × (s < length a.kernels) × PathLeadsTo a i path s × Covers (kernel_of a s) (PathItems g i path)
