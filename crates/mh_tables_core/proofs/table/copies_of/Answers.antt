use Rattle.mh_grammar.proofs.Lists.{copy_step}
use Rattle.mh_tables_core.proofs.table.copies_of.Goals as goal

pub loop-production-preserved : goal.loop-production-preserved
loop-production-preserved c = copy_step c.args.productions.now c.loop-production.production-index c.production-item.result c.in_ok-copy_of.field-0 c.loop-production.copies.items c.push.new.self.items c.loop-production-test.true c.production-item.is c.loop-production.invariant c.in_ok-copy_of.ensures c.in_ok-push.ensures.items
