use Rattle.std.proofs.Common.{sym, subst}
use Rattle.mh_reader_parser.specs.code.ParserSteps.{AgreesWithStep}
use Rattle.mh_reader_parser.proofs.RuleSteps.{rule_end_without_semicolon}
use Rattle.mh_reader_parser.proofs.rules.at_rule_end.Goals as goal

pub returns-in_default : goal.returns-in_default
returns-in_default c =
    subst (λ step. AgreesWithStep step c.in_rules.result) (sym (rule_end_without_semicolon c.args.made c.args.sign c.args.text.now c.in_default.not-Semicolon)) c.in_rules.ensures
