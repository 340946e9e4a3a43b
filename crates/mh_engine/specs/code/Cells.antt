-- The value of the cells of a stack.
use Rattle.std.specs.Prelude.{ℕ, List, [], ◌∷◌, ◌++◌, length, take, drop, ◌-◌}
use Rattle.mh_grammar.specs.Trees.{SyntaxTree}
use Rattle.mh_engine.specs.Positions.{Pairs, bottom}
use Rattle.mh_engine.specs.declared.stack.Link.{Link}
use Rattle.mh_engine.specs.declared.stack.Link.TheVariants as link

-- The stack with one more pair of a state and a tree.
abbrev pub pushed : Pairs → ℕ → SyntaxTree → Pairs
pushed below state tree = record { states = below.states ++ state ∷ []; trees = below.trees ++ tree ∷ [] }

-- The stack without its last n pairs.
abbrev pub without_last : ℕ → Pairs → Pairs
without_last n pairs = record { states = take (length pairs.states - n) pairs.states; trees = take (length pairs.trees - n) pairs.trees }

abbrev pub pairs_of : Link → Pairs
pairs_of (link.Bottom start) = bottom start
pairs_of (link.Above cell) = pushed cell.value.below cell.value.state cell.value.tree
