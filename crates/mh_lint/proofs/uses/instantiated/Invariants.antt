use Rattle.std.specs.List.{Contains}
use Rattle.mh_lint.proofs.Gains.{AnyOf, Gains}
use Rattle.mh_lint.proofs.UsedRules.{HasPlaceOf, IsPlaceOf, Nothing}
use Rattle.mh_lint.proofs.uses.instantiated.Given as goal

abbrev pub invariant-loop-production : goal.invariant-loop-production
invariant-loop-production l = Gains (AnyOf IsPlaceOf l.production-items l.production-index) (Contains l.initial.found.keys) (Contains l.found.keys)

abbrev pub invariant-loop-instance : goal.invariant-loop-instance
invariant-loop-instance l = Gains (AnyOf HasPlaceOf l.instance-items l.instance-index) Nothing (Contains l.found.keys)
