use Rattle.std.proofs.Common.{◌≡◌, ◌++◌, take}
use Rattle.mh_inline_unfold.proofs.double_ended.push_all_back.Given as goal

abbrev pub invariant-loop-item : goal.invariant-loop-item
invariant-loop-item g l = l.list.items ≡ l.initial.list.items ++ take l.item-index l.items
