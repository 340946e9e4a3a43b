use Rattle.std.proofs.Common.{rules}
use Rattle.mh_validate_valid.proofs.header.have_costs.Goals as goal

pub returns-in-Some : goal.returns-in-Some
returns-in-Some c = search rules
