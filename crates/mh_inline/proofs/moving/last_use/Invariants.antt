use Rattle.std.specs.Option.{IfSome}
use Rattle.mh_inline.specs.code.MovableProducers.{IsLastUse}
use Rattle.mh_inline.proofs.moving.last_use.Given as goal

abbrev pub invariant-loop-alternative : goal.invariant-loop-alternative
invariant-loop-alternative l = IfSome l.best (IsLastUse l.expanded.instances l.last l.place l.productions)
