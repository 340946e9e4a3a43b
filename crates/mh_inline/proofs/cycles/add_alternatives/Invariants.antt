use Rattle.std.proofs.Common.{take}
use Rattle.mh_inline_unfold.specs.code.UsedInstances.{OccursInAlternatives}
use Rattle.mh_inline.specs.code.FoundInstances.{AddsFound}
use Rattle.mh_inline.proofs.cycles.add_alternatives.Given as goal

abbrev pub invariant-loop-production : goal.invariant-loop-production
invariant-loop-production l = AddsFound (OccursInAlternatives l.expanded.instances (take l.production-index l.productions)) l.initial.found l.found
