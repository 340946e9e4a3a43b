use Rattle.std.proofs.Common.{rules, arith}
use Rattle.mh_tree.proofs.DroppedTrees.{recursion_measure_bound, popped_heights, popped_fewer, kids_lower, dropped_low, joined_lower, joined_fewer}
use Rattle.mh_tree.proofs.tree.Tree.+drop.Goals as goal

pub drop-children-requires : goal.drop-children-requires
drop-children-requires t c κs =
    let is = rw c.in-Some-into_children.is at c.into_children.ensures in
    let e = rw c.in-Some-pop.is at c.pop.ensures.items in
    let low = kids_lower c.trees.waiting.items c.pop.new.self.items c.in-Some-into_children.children.items c.in-Some-pop.tree is.0 e is.1 in
    let left = dropped_low _ c.in-Some-into_children.children.items c.append.new.other.items c.append.ensures.other_items in
    let most = recursion_measure_bound c.append.new.other.items in
    (((omega (arith, most, left, low, c.trees.invariant, c.decreases), tt), tt), (λ a m. search rules, λ a m. search rules))

pub trees-smaller-in-Some-into_children : goal.trees-smaller-in-Some-into_children
trees-smaller-in-Some-into_children t c =
    let is = rw c.in-Some-into_children.is at c.into_children.ensures in
    joined_fewer _ c.trees.waiting.items c.pop.new.self.items c.in-Some-into_children.children.items c.append.new.self.items c.in-Some-pop.tree is.0 (rw c.in-Some-pop.is at c.pop.ensures.items) is.1
    c.append.ensures.items

pub trees-preserved-in-Some-into_children : goal.trees-preserved-in-Some-into_children
trees-preserved-in-Some-into_children t c =
    let is = rw c.in-Some-into_children.is at c.into_children.ensures in
    let low = joined_lower _ c.trees.waiting.items c.pop.new.self.items c.in-Some-into_children.children.items c.append.new.self.items c.in-Some-pop.tree is.0 (rw c.in-Some-pop.is at c.pop.ensures.items)
    is.1 c.append.ensures.items in omega (arith, low, c.trees.invariant)

pub trees-smaller : goal.trees-smaller
trees-smaller t c = popped_fewer c.trees.waiting.items c.pop.new.self.items c.in-Some-pop.tree (rw c.in-Some-pop.is at c.pop.ensures.items)

pub trees-preserved : goal.trees-preserved
trees-preserved t c = let h = popped_heights c.trees.waiting.items c.pop.new.self.items c.in-Some-pop.tree (rw c.in-Some-pop.is at c.pop.ensures.items) in let low = h.0 in omega (arith, c.trees.invariant)
