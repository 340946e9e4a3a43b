use Rattle.std.proofs.Common.{◌++◌, map, sym, ap, ◌∙◌, arith}
use Rattle.std.proofs.lemmas.List.{append-nil, take_all}
use Rattle.mh_inline_unfold.specs.Unfoldings.{joined}
use Rattle.mh_inline_unfold.proofs.ChangedUnfoldings.{append_step}
use Rattle.mh_inline_unfold.proofs.choices.add_joined_with_each.Goals as goal

pub loop-second-init : goal.loop-second-init
loop-second-init c = sym (append-nil c.args.all.now.items)

pub loop-second-preserved : goal.loop-second-preserved
loop-second-preserved c = append_step (joined c.args.first.now) c.args.seconds.now c.loop-second.second-index c.second-item.result c.args.all.now.items c.loop-second.all.items c.add_joined.new.all.items c.loop-second-test.true c.second-item.is c.loop-second.invariant c.in_ok-add_joined.ensures

pub returns : goal.returns
returns c = c.loop-second.invariant ∙ ap (λ l. c.args.all.now.items ++ map (joined c.args.first.now) l) (take_all c.loop-second.second-index c.args.seconds.now (omega arith))
