use Rattle.std.proofs.Common.{◌≡◌, ◌++◌, ◌+◌, ◌*◌, drop}
use Rattle.mh_grammar.specs.Trees.{height_of, forest_height, forest_text, forest_of}
use Rattle.mh_tree.proofs.text.+texts.Given as goal

abbrev pub decreases-write_tree : goal.decreases-write_tree
decreases-write_tree l = 2 * height_of l.tree.now

abbrev pub decreases-write_children : goal.decreases-write_children
decreases-write_children l = 2 * forest_height (forest_of l.children.now) + 1

abbrev pub invariant-write_children-loop-child : goal.invariant-write_children-loop-child
invariant-write_children-loop-child l = l.text.items ++ forest_text l.grammar (forest_of (drop l.child-index l.children)) ≡ l.initial.text.items ++ forest_text l.grammar (forest_of l.children)
