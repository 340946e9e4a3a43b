use Rattle.mh_check.proofs.CheckedOnce.{fault_once, sound_has_no_fault, compiled_once}
use Rattle.mh_check.proofs.CompiledOrFault.{compiled_or_fault}
use Rattle.mh_check.proofs.laws.checked_once.Goals as goal

pub returns-clause-fault : goal.returns-clause-fault
returns-clause-fault c = fault_once c.args.table.now

pub returns-clause-not_both : goal.returns-clause-not_both
returns-clause-not_both c = sound_has_no_fault c.args.table.now

pub returns-clause-either : goal.returns-clause-either
returns-clause-either c = compiled_or_fault c.args.table.now c.table-facts.ensures.facts

pub returns-clause-messages : goal.returns-clause-messages
returns-clause-messages c = compiled_once c.args.table.now
