use Rattle.std.specs.HashSet.{contains}
use Rattle.mh_join_names.specs.Names.{same}
use Rattle.mh_join_names.proofs.Lists.{has_more}
use Rattle.mh_join_names.proofs.maps.put_name.Goals as goal

pub returns-clause-names : goal.returns-clause-names
returns-clause-names c = has_more (contains same c.args.names.now) (contains same c.insert.new.self) c.args.name.now (rw c.in_ok-clone.ensures.cases at c.in_ok-is_new.ensures.updates.0)
