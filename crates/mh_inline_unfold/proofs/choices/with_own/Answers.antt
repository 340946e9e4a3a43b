use Rattle.std.proofs.Common.{arith}
use Rattle.mh_inline_unfold.specs.Unfoldings.{with_own_prec}
use Rattle.mh_inline_unfold.proofs.ChangedUnfoldings.{all_changed, own-absent}
use Rattle.mh_inline_unfold.proofs.choices.with_own.Goals as goal

pub returns-in-Absent : goal.returns-in-Absent
returns-in-Absent c = rw c.in-Absent.is (own-absent c.args.unfoldings.items)

pub returns-in-Given : goal.returns-in-Given
returns-in-Given c = all_changed (with_own_prec c.args.prec) c.own_each.new.all _ c.args.unfoldings.items c.args.unfoldings.len (omega arith) c.deref_mut.ensures.value c.own_each.ensures
