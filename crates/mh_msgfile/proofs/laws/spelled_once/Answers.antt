use Rattle.mh_msgfile.proofs.MsgSpells.{spelled_once, fault_once, spelled_has_no_fault, spelled_or_not}
use Rattle.mh_msgfile.proofs.laws.spelled_once.Goals as goal

pub returns-clause-file : goal.returns-clause-file
returns-clause-file c = spelled_once c.args.grammar.now

pub returns-clause-fault : goal.returns-clause-fault
returns-clause-fault c = fault_once c.args.grammar.now

pub returns-clause-either : goal.returns-clause-either
returns-clause-either c = spelled_or_not c.args.grammar.now

pub returns-clause-not_both : goal.returns-clause-not_both
returns-clause-not_both c = spelled_has_no_fault c.args.grammar.now
