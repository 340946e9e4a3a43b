use Rattle.std.proofs.Common.{refl}
use Rattle.mh_reach_classes.proofs.IsPartition.{classes_from}
use Rattle.mh_reach_classes.proofs.token_classes.tested_classes.Goals as goal

pub returns-then-go_alike : goal.returns-then-go_alike
returns-then-go_alike c = classes_from c.args.table.now c.in_ok-classes.classes c.in_ok-classes.ensures (c.if-go_alike.ensures refl)

pub returns : goal.returns
returns c = c.each_by_itself.ensures
