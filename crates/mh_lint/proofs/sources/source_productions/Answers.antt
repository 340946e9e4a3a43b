use Rattle.mh_grammar.proofs.Lists.{map_step}
use Rattle.mh_lint.specs.LevelSources.{source_production}
use Rattle.mh_lint.proofs.sources.source_productions.Goals as goal

pub loop-production-preserved : goal.loop-production-preserved
loop-production-preserved c = map_step source_production c.args.productions.now c.loop-production.production-index c.production-item.result c.production-item.result c.loop-production.sources c.push.new.self c.in_ok-source_production.field-0 c.loop-production-test.true c.production-item.is c.loop-production.invariant c.in_ok-source_production.ensures c.in_ok-push.ensures.ok
