-- Items, kernels and automata as contracts see them: the lookahead set of an item is a rising list, whatever the width
-- of the set in the code.
use Rattle.std.specs.Prelude.{List}
use Rattle.mh_grammar.specs.declared.types.Look.{Look}
use Rattle.mh_items_kernels.specs.declared.kernels.ItemWith.{ItemWith}
use Rattle.mh_items_kernels.specs.declared.kernels.ItemsWith.{ItemsWith}
use Rattle.mh_items_kernels.specs.declared.kernels.AutomatonWith.{AutomatonWith}

-- An item with its looks.
abbrev pub KernelItem : Type 0
KernelItem = ItemWith (List Look)

-- Lists of items, for example of a closure.
abbrev pub Items : Type 0
Items = ItemsWith (List Look)

-- The kernel of a state: its items with their looks.
abbrev pub Kernel : Type 0
Kernel = Items

-- An automaton: its kernels and its edges.
abbrev pub Automaton : Type 0
Automaton = AutomatonWith (List Look)
