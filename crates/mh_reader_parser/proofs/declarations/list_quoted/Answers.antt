use Rattle.std.proofs.Common.{sym, subst}
use Rattle.mh_reader_parser.specs.code.ParserSteps.{AgreesWithStep}
use Rattle.mh_reader_parser.proofs.RuleSteps.{quoted_is_item}
use Rattle.mh_reader_parser.proofs.declarations.list_quoted.Goals as goal

pub returns-in-Ok : goal.returns-in-Ok
returns-in-Ok c =
    subst (λ step. AgreesWithStep step c.list_item.result) (sym (quoted_is_item c.args.made c.args.listing c.args.text.now)) (rw c.in-Ok.ensures at c.list_item.ensures)
