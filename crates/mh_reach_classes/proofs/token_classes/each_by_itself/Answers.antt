use Rattle.std.proofs.Common.{◌∙◌}
use Rattle.mh_reach_classes.proofs.IsPartition.{token_classes_of_result}
use Rattle.mh_reach_classes.proofs.token_classes.each_by_itself.Goals as goal

pub returns : goal.returns
returns c = token_classes_of_result c.args.table.now c.number.result c.number.ensures.partition (c.number.ensures.each (c.as_slice.ensures.value ∙ c.new-none.ensures.items))
