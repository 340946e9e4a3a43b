use Rattle.std.proofs.Common.{◌≡◌, map, take}
use Rattle.mh_grammar.specs.declared.types.Production.{Production}
use Rattle.mh_lint.specs.LevelSources.{source_in}
use Rattle.mh_lint.proofs.sources.sources_in.Given as goal

abbrev pub invariant-loop-production : goal.invariant-loop-production
invariant-loop-production l = l.sources.items ≡ map (λ (p : Production). source_in p.level) (take l.production-index l.productions)
