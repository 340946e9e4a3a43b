use Rattle.std.proofs.Common.{refl}
use Rattle.mh_join_names.proofs.Lists.{push_then}
use Rattle.mh_join_parts.proofs.prelude.add_others.Goals as goal

pub returns : goal.returns
returns c = push_then c.args.rules.now c.add_in_order-4.new.rules c.add_in_order-5.new.rules _ _ _ (push_then c.args.rules.now c.add_in_order-3.new.rules c.add_in_order-4.new.rules _ _ _ (push_then c.args.rules.now c.add_in_order-2.new.rules c.add_in_order-3.new.rules _ _ _ (push_then c.args.rules.now c.add_in_order.new.rules c.add_in_order-2.new.rules _ _ _ c.in_ok-add_in_order.ensures c.in_ok-add_in_order-2.ensures refl) c.in_ok-add_in_order-3.ensures refl) c.in_ok-add_in_order-4.ensures refl) c.in_ok-add_in_order-5.ensures refl
