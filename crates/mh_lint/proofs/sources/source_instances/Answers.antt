use Rattle.mh_grammar.proofs.Lists.{map_step}
use Rattle.mh_lint.specs.LevelSources.{source_instance}
use Rattle.mh_lint.proofs.sources.source_instances.Goals as goal

pub loop-instance-preserved : goal.loop-instance-preserved
loop-instance-preserved c = map_step source_instance c.args.instances.now c.loop-instance.instance-index c.instance-item.result c.instance-item.result c.loop-instance.sources c.push.new.self c.in_ok-source_instance.field-0 c.loop-instance-test.true c.instance-item.is c.loop-instance.invariant c.in_ok-source_instance.ensures c.in_ok-push.ensures.ok
