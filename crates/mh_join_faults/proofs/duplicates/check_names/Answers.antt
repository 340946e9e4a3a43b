use Rattle.mh_join_faults.proofs.Repeats.{name_more, name_err}
use Rattle.mh_join_faults.proofs.duplicates.check_names.Goals as goal

pub loop-name-preserved : goal.loop-name-preserved
loop-name-preserved c = name_more c.loop-name.seen.keys c.put_once.new.seen.keys c.args.names.now c.loop-name.name-index c.name-item.result c.loop-name-test.true c.name-item.is c.loop-name.invariant c.in_default.ensures.0 c.in_default.ensures.1

pub returns-in-Err : goal.returns-in-Err
returns-in-Err c = name_err c.loop-name.seen.keys c.args.names.now c.loop-name.name-index c.name-item.result c.loop-name-test.true c.name-item.is c.loop-name.invariant c.in-Err.fault c.in-Err.ensures
