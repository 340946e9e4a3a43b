use Rattle.std.proofs.Common.{◌∙◌, arith}
use Rattle.std.proofs.lemmas.Result.{on_ok_weaker}
use Rattle.mh_inline_unfold.specs.Unfoldings.{joined}
use Rattle.mh_inline_unfold.proofs.ChangedUnfoldings.{all_changed, one_second}
use Rattle.mh_inline_unfold.proofs.choices.put_after.Goals as goal

pub returns-in-len1 : goal.returns-in-len1
returns-in-len1 c = on_ok_weaker c.append_to_each.result (λ e. all_changed (λ u. joined u c.second-item.result) c.append_to_each.new.all _ c.args.all.now.items c.args.all.now.len (omega arith) c.deref_mut.ensures.value e ∙ one_second c.args.seconds.now c.second-item.result c.args.all.now.items (omega arith) c.second-item.is) c.append_to_each.ensures
