use Rattle.mh_join_names.specs.Faults.{kinds_in}
use Rattle.mh_join_names.proofs.Lists.{InsertsNew-more}
use Rattle.mh_join_parts.proofs.kinds.put_kinds.Goals as goal

pub loop-file-preserved : goal.loop-file-preserved
loop-file-preserved c = InsertsNew-more kinds_in c.args.kinds.now c.loop-file.kinds c.add_kinds.new.kinds c.args.files.now c.loop-file.file-index c.file-item.result c.loop-file-test.true c.file-item.is c.loop-file.invariant c.in_ok-add_kinds.ensures
