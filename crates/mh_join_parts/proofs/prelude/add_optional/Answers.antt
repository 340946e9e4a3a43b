use Rattle.mh_join_names.proofs.Lists.{push_first}
use Rattle.mh_join_parts.proofs.prelude.add_optional.Goals as goal

pub returns : goal.returns
returns c = push_first c.args.rules.now c.push.new.self c.in_ok-optional.field-0 _ c.in_ok-push.ensures.ok c.in_ok-optional.ensures
