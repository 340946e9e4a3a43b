use Rattle.std.proofs.Common.{take}
use Rattle.mh_inline_unfold.specs.code.UsedInstances.{OccursInAlternatives, AddsToList}
use Rattle.mh_inline_unfold.proofs.inlined.list_alternatives.Given as goal

abbrev pub invariant-loop-production : goal.invariant-loop-production
invariant-loop-production l = AddsToList (OccursInAlternatives l.expanded.instances (take l.production-index l.productions)) l.initial.list.items l.list.items
