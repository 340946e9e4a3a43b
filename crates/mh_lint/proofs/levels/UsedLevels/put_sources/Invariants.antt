use Rattle.mh_lint.proofs.AddsUses.{AddsBelow}
use Rattle.mh_lint.proofs.AreUsedLevels.{SourceNameAt, SourcePlaceAt}
use Rattle.mh_lint.proofs.levels.UsedLevels.put_sources.Given as goal

abbrev pub invariant-loop-production : goal.invariant-loop-production
invariant-loop-production l = AddsBelow (SourceNameAt l.tokens l.sources l.compared) (SourcePlaceAt l.tokens l.sources l.compared) l.production l.fn.self l.self
