-- Proves that the stack below a cell is shorter than the stack with this cell.
use Rattle.std.specs.Prelude.{◌≤◌, max, length}
use Rattle.std.proofs.Common.{arith, length-append, ◌∷◌, []}
use Rattle.mh_engine.specs.declared.stack.Link.{Link}
use Rattle.mh_engine.specs.declared.stack.Link.TheVariants as link
use Rattle.mh_engine.specs.declared.stack.Stack.TheDeep.{deep-Link}
use Rattle.mh_engine.specs.code.Cells.{pairs_of}

-- `deep-Link`, the depth of the stacks inside a link, is at most the number of the link's pairs. So the number of pairs
-- is a size for recursions over a stack.
pub depth_within_pairs : (l : Link) → max (deep-Link l) 0 ≤ length (pairs_of l).trees
depth_within_pairs (link.Bottom start) = omega arith
depth_within_pairs (link.Above cell) = omega (arith, length-append cell.value.below.trees (cell.value.tree ∷ []))
