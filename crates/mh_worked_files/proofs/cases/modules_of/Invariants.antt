use Rattle.mh_rules.specs.Ready.{AreModulesReady}
use Rattle.mh_worked_files.proofs.cases.modules_of.Given as goal

abbrev pub invariant-loop-file : goal.invariant-loop-file
invariant-loop-file l = AreModulesReady l.modules.items
