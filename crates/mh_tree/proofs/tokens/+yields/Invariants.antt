use Rattle.std.proofs.Common.{◌≡◌, ◌++◌, ◌+◌, ◌*◌, drop}
use Rattle.mh_grammar.specs.Trees.{height_of, forest_height, forest_yield, forest_of}
use Rattle.mh_tree.proofs.tokens.+yields.Given as goal

abbrev pub decreases-push_tokens : goal.decreases-push_tokens
decreases-push_tokens l = 2 * height_of l.tree.now

abbrev pub decreases-push_children : goal.decreases-push_children
decreases-push_children l = 2 * forest_height (forest_of l.children.now) + 1

abbrev pub invariant-push_children-loop-child : goal.invariant-push_children-loop-child
invariant-push_children-loop-child l = l.tokens.items ++ forest_yield (forest_of (drop l.child-index l.children)) ≡ l.initial.tokens.items ++ forest_yield (forest_of l.children)
