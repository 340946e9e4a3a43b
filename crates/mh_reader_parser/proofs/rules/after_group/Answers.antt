use Rattle.std.proofs.Common.{sym, subst}
use Rattle.mh_reader_parser.specs.code.ParserSteps.{AgreesWithStep}
use Rattle.mh_reader_parser.proofs.RuleSteps.{group_without_bar}
use Rattle.mh_reader_parser.proofs.rules.after_group.Goals as goal

pub returns-in_ok-made-in_default : goal.returns-in_ok-made-in_default
returns-in_ok-made-in_default c =
    subst (λ step. AgreesWithStep step c.at_rule_end.result) (sym (group_without_bar c.args.made c.args.rule c.args.sign c.args.text.now c.in_default.not-Bar)) (rw c.in_ok-made-in_default.ensures at c.at_rule_end.ensures)
