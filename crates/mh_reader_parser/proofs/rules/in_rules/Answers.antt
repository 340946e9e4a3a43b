use Rattle.std.proofs.Common.{sym, subst}
use Rattle.mh_reader_parser.specs.code.ParserSteps.{AgreesWithStep}
use Rattle.mh_reader_parser.proofs.RuleSteps.{rules_without_percents}
use Rattle.mh_reader_parser.proofs.rules.in_rules.Goals as goal

pub returns-in_default : goal.returns-in_default
returns-in_default c =
    subst (λ step. AgreesWithStep step c.at_modified.result) (sym (rules_without_percents c.args.made c.args.sign c.args.text.now c.in_default.not-Percents)) c.at_modified.ensures
