use Rattle.mh_join_names.proofs.Lists.{has_more}
use Rattle.mh_lint_faults.specs.code.MentionContexts.{has_lent}
use Rattle.mh_lint_faults.proofs.name_faults.put_lent.Goals as goal

pub returns-clause-names : goal.returns-clause-names
returns-clause-names c = has_more (has_lent c.args.names.now) (has_lent c.insert.new.self) c.args.name.now (λ x. c.in_ok-is_new.ensures.updates.0 (record c.args.name { now = x }))
