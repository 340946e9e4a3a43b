use Rattle.mh_reader.specs.code.Printed.{rule_pieces}
use Rattle.mh_reader.proofs.PrintedText.{Writes-next}
use Rattle.mh_reader.proofs.printing.write_rules.Goals as goal

pub loop-rule-preserved : goal.loop-rule-preserved
loop-rule-preserved c = Writes-next rule_pieces c.args.rules.now _ _ _ _ _ c.loop-rule-test.true c.rule-item.is c.loop-rule.invariant c.in_ok-write_rule.ensures
