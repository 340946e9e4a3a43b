use Rattle.mh_reach_classes.proofs.TreatsAlike.{alike_by}
use Rattle.mh_reach_classes.proofs.token_classes.is_alike.Goals as goal

pub returns : goal.returns
returns c e = alike_by c.args.table.now c.args.classes.now c.args.reduction c.args.token c.class_of-other.result.representative c.class_of-here.result.representative c.class_of-same.result.representative c.reduces-there.result c.reduces-back.result
    c.class_of-other.ensures.representative c.reduces-there.ensures c.reduces-back.ensures c.class_of-here.ensures.representative c.class_of-same.ensures.representative (rw c.agree.ensures at e)
