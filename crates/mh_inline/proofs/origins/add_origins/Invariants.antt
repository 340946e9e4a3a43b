use Rattle.mh_inline.specs.code.NumbersAndOrigins.{AreOriginsBelow}
use Rattle.mh_inline.proofs.origins.add_origins.Given as goal

abbrev pub invariant-loop-alternative : goal.invariant-loop-alternative
invariant-loop-alternative l = AreOriginsBelow l.expanded.instances l.number l.alternative l.origins.keys
