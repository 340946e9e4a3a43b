use Rattle.std.proofs.Common.{take}
use Rattle.mh_inline_unfold.specs.code.UsedInstances.{OccursInProducers, AddsToList}
use Rattle.mh_inline_unfold.proofs.inlined.list_side.Given as goal

abbrev pub invariant-loop-part : goal.invariant-loop-part
invariant-loop-part l = AddsToList (OccursInProducers l.expanded.instances (take l.part-index l.producers)) l.initial.list.items l.list.items
