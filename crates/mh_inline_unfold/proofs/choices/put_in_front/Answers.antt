use Rattle.std.proofs.Common.{◌∙◌, arith}
use Rattle.std.proofs.lemmas.Result.{on_ok_weaker}
use Rattle.mh_inline_unfold.specs.Unfoldings.{joined}
use Rattle.mh_inline_unfold.proofs.ChangedUnfoldings.{all_changed, one_first}
use Rattle.mh_inline_unfold.proofs.choices.put_in_front.Goals as goal

pub returns-in-len1 : goal.returns-in-len1
returns-in-len1 c = on_ok_weaker c.prepend_to_each.result (λ e. all_changed (joined c.first-item.result) c.prepend_to_each.new.all _ c.args.all.now.items c.args.all.now.len (omega arith) c.deref_mut.ensures.value e ∙ one_first c.args.firsts.now c.first-item.result c.args.all.now.items (omega arith) c.first-item.is) c.prepend_to_each.ensures
