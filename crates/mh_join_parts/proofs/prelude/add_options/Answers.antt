use Rattle.std.proofs.Common.{refl}
use Rattle.mh_join_names.proofs.Lists.{push_then}
use Rattle.mh_join_parts.proofs.prelude.add_options.Goals as goal

pub returns : goal.returns
returns c = push_then c.args.rules.now c.add_optional-3.new.rules c.add_optional-4.new.rules _ _ _ (push_then c.args.rules.now c.add_optional-2.new.rules c.add_optional-3.new.rules _ _ _ (push_then c.args.rules.now c.add_optional.new.rules c.add_optional-2.new.rules _ _ _ c.in_ok-add_optional.ensures c.in_ok-add_optional-2.ensures refl) c.in_ok-add_optional-3.ensures refl) c.in_ok-add_optional-4.ensures refl
