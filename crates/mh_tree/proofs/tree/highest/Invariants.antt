use Rattle.std.proofs.Common.{◌≡◌, ◌<◌, max, drop}
use Rattle.mh_grammar.specs.Trees.{forest_height, forest_of}
use Rattle.mh_grammar.specs.Limits.{max_height}
use Rattle.mh_tree.proofs.tree.highest.Given as goal

abbrev pub invariant-loop-tree : goal.invariant-loop-tree
invariant-loop-tree l = record {
  rest : max l.highest (forest_height (forest_of (drop l.tree-index l.trees))) ≡ forest_height (forest_of l.trees);
  bound : l.highest < max_height;
}
