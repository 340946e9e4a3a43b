use Rattle.mh_grammar.specs.declared.types.Production.{Production}
use Rattle.mh_grammar.proofs.Lists.{map_step}
use Rattle.mh_lint.specs.LevelSources.{source_in}
use Rattle.mh_lint.proofs.sources.sources_in.Goals as goal

pub loop-production-preserved : goal.loop-production-preserved
loop-production-preserved c = map_step (λ (p : Production). source_in p.level) c.args.productions.now c.loop-production.production-index c.production-item.result c.production-item.result c.loop-production.sources.items c.push.new.self.items c.source_in.result c.loop-production-test.true c.production-item.is c.loop-production.invariant c.source_in.ensures c.in_ok-push.ensures.items
