use Rattle.std.proofs.Common.{◌+◌, ◌-◌, length}
use Rattle.mh_grammar.specs.Plain.{plain_of}
use Rattle.mh_items.specs.code.ItemUnion.{IsUnionSoFar}
use Rattle.mh_items.proofs.merging.merged.Given as goal

abbrev pub invariant-items : goal.invariant-items
invariant-items _ l = IsUnionSoFar (plain_of l.grammar) l.left l.i l.right l.j l.items.items

abbrev pub decreases-items : goal.decreases-items
decreases-items _ l = length l.left + length l.right - (l.i + l.j)
