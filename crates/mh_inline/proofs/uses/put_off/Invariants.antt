use Rattle.std.proofs.Common.{take}
use Rattle.std.specs.List.{Contains}
use Rattle.mh_inline.specs.code.LastUses.{RaisesLastUse}
use Rattle.mh_inline.proofs.uses.put_off.Given as goal

abbrev pub invariant-loop-number : goal.invariant-loop-number
invariant-loop-number l = RaisesLastUse (Contains (take l.number-index l.numbers)) l.place l.initial.last.items l.last.items
