use Rattle.mh_inline.specs.code.LastUses.{DropsUnneeded}
use Rattle.mh_inline.proofs.uses.forget.Given as goal

abbrev pub invariant-loop-number : goal.invariant-loop-number
invariant-loop-number l = DropsUnneeded l.last l.place l.initial.known.items l.known.items
