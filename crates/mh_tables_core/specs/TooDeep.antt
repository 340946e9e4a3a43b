-- The limit of depth of a run with trees (this project's own).
use Rattle.std.specs.Prelude.{ℕ, Bool, List, length, nat_lt, ◌||◌}
use Rattle.mh_grammar.specs.Limits.{max_height}
use Rattle.mh_grammar.specs.Trees.{SyntaxTree, forest_of, forest_height}

-- The greatest number of trees on a stack, and the greatest height of a tree.
abbrev pub max_depth : ℕ
max_depth = max_height

-- There are too many trees, or one is too high.
abbrev pub too_deep : List SyntaxTree → Bool
too_deep trees = nat_lt max_depth (length trees) || nat_lt max_depth (forest_height (forest_of trees))
