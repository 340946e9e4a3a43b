use Rattle.mh_inline.specs.code.NumbersAndOrigins.{AreOriginsBelow}
use Rattle.mh_inline.proofs.origins.origins_of.Given as goal

abbrev pub invariant-loop-number : goal.invariant-loop-number
invariant-loop-number l = AreOriginsBelow l.expanded.instances l.number 0 l.origins.keys
