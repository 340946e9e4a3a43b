use Rattle.std.proofs.Common.{length}
use Rattle.mh_inline.proofs.LastUses.{AreLastUsesTo}
use Rattle.mh_inline.proofs.uses.last_uses.Given as goal

abbrev pub invariant-loop-place : goal.invariant-loop-place
invariant-loop-place l = AreLastUsesTo l.expanded.instances l.order l.place 0 l.last.items

abbrev pub invariant-loop-number : goal.invariant-loop-number
invariant-loop-number l = AreLastUsesTo l.expanded.instances l.order (length l.order) l.number l.last.items
