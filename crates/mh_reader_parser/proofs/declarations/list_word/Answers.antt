use Rattle.std.proofs.Common.{sym, subst}
use Rattle.mh_reader_parser.specs.code.ParserSteps.{AgreesWithStep}
use Rattle.mh_reader_parser.proofs.RuleSteps.{word_is_item}
use Rattle.mh_reader_parser.proofs.declarations.list_word.Goals as goal

pub returns-in_default : goal.returns-in_default
returns-in_default c =
    subst (λ step. AgreesWithStep step c.list_item.result) (sym (word_is_item c.args.made c.args.listing c.args.text.now c.in_default.not-Tokens c.in_default.not-Starts)) (rw c.in-Ok.ensures at c.list_item.ensures)
