use Rattle.std.proofs.Common.{rules}
use Rattle.mh_items.proofs.merging.order.Goals as goal

pub returns-then-x-y : goal.returns-then-x-y
returns-then-x-y _ c = search rules

pub returns-then-y-x : goal.returns-then-y-x
returns-then-y-x _ c = search rules

pub returns-then-x-y-2 : goal.returns-then-x-y-2
returns-then-x-y-2 _ c = search rules

pub returns-then-y-x-2 : goal.returns-then-y-x-2
returns-then-y-x-2 _ c = search rules
