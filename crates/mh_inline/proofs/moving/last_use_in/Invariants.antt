use Rattle.std.specs.Option.{IfSome}
use Rattle.mh_inline.specs.code.MovableProducers.{IsLastUseIn}
use Rattle.mh_inline.proofs.moving.last_use_in.Given as goal

abbrev pub invariant-loop-producer : goal.invariant-loop-producer
invariant-loop-producer l = IfSome l.best (IsLastUseIn l.expanded.instances l.last l.place l.alternative l.producers)
