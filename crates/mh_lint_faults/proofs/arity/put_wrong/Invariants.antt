use Rattle.std.proofs.Common.{◌≡◌, ◌↔◌, ◌⊎◌, ◌<◌}
use Rattle.std.specs.List.{Contains}
use Rattle.mh_lint_faults.specs.code.Producers.{IsWrongProducerOf}
use Rattle.mh_lint_faults.specs.declared.arity.ProducerOf.{ProducerOf}
use Rattle.mh_lint_faults.proofs.arity.put_wrong.Given as goal

abbrev pub invariant-loop-producer : goal.invariant-loop-producer
invariant-loop-producer l = (p : ProducerOf) → Contains l.found.keys p ↔ (Contains l.fn.found.keys p ⊎ ((p.producer < l.producer) × IsWrongProducerOf l.joined l.printed l.alternative p))
