use Rattle.std.proofs.Common.{◌≡◌, ◌++◌, ◌-◌, drop, length}
use Rattle.mh_inline_unfold.proofs.double_ended.push_all_front.Given as goal

abbrev pub invariant-loop-done : goal.invariant-loop-done
invariant-loop-done g l = l.list.items ≡ drop (length l.items - l.done) l.items ++ l.initial.list.items
