use Rattle.std.proofs.Common.{take}
use Rattle.mh_inline_unfold.specs.code.UsedInstances.{OccursInProducers}
use Rattle.mh_inline.specs.code.FoundInstances.{AddsFound}
use Rattle.mh_inline.proofs.cycles.add_side.Given as goal

abbrev pub invariant-loop-part : goal.invariant-loop-part
invariant-loop-part l = AddsFound (OccursInProducers l.expanded.instances (take l.part-index l.producers)) l.initial.found l.found
