use Rattle.std.proofs.Common.{◌≡◌, map, take}
use Rattle.mh_lint.specs.LevelSources.{source_production}
use Rattle.mh_lint.proofs.sources.source_productions.Given as goal

abbrev pub invariant-loop-production : goal.invariant-loop-production
invariant-loop-production l = l.sources ≡ map source_production (take l.production-index l.productions)
