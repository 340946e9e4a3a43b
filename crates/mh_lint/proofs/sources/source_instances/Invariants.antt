use Rattle.std.proofs.Common.{◌≡◌, map, take}
use Rattle.mh_lint.specs.LevelSources.{source_instance}
use Rattle.mh_lint.proofs.sources.source_instances.Given as goal

abbrev pub invariant-loop-instance : goal.invariant-loop-instance
invariant-loop-instance l = l.sources ≡ map source_instance (take l.instance-index l.instances)
