use Rattle.mh_lint.proofs.UsedRules.{AreFirstRules}
use Rattle.mh_lint.proofs.uses.used_rules.Given as goal

abbrev pub invariant-loop-rule : goal.invariant-loop-rule
invariant-loop-rule l = AreFirstRules l.joined l.expanded l.rule-index l.used.items
