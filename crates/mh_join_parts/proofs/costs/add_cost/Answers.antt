use Rattle.std.proofs.Common.{rules}
use Rattle.mh_join_parts.proofs.costs.add_cost.Goals as goal

pub returns-in_ok-put_first : goal.returns-in_ok-put_first
returns-in_ok-put_first c = search rules
