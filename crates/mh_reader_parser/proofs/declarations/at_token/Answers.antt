use Rattle.std.proofs.Common.{sym, subst}
use Rattle.mh_reader_parser.specs.code.ParserSteps.{AgreesWithStep}
use Rattle.mh_reader_parser.proofs.RuleSteps.{token_without_alias}
use Rattle.mh_reader_parser.proofs.declarations.at_token.Goals as goal

pub returns-in_default : goal.returns-in_default
returns-in_default c =
    subst (λ step. AgreesWithStep step c.at_aliased.result) (sym (token_without_alias c.args.made c.args.name c.args.cost c.args.sign c.args.text.now c.in_default.not-Quoted)) c.at_aliased.ensures
