use Rattle.mh_tabfile.proofs.Versions.{valid_with_costs, valid_without_costs, valid_is_written}
use Rattle.mh_tabfile.proofs.laws.versions_agree.Goals as goal

pub returns-clause-version_two : goal.returns-clause-version_two
returns-clause-version_two c = valid_with_costs c.args.grammar.now c.args.raw.now

pub returns-clause-version_one : goal.returns-clause-version_one
returns-clause-version_one c = valid_without_costs c.args.grammar.now c.args.raw.now

pub returns-clause-written : goal.returns-clause-written
returns-clause-written c = valid_is_written c.args.grammar.now c.args.raw.now
