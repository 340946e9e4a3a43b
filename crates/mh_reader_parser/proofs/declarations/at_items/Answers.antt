use Rattle.std.proofs.Common.{sym, subst}
use Rattle.mh_reader_parser.specs.code.ParserSteps.{AgreesWithStep}
use Rattle.mh_reader_parser.proofs.RuleSteps.{list_ends}
use Rattle.mh_reader_parser.proofs.declarations.at_items.Goals as goal

pub returns-in_ok-made-in_default : goal.returns-in_ok-made-in_default
returns-in_ok-made-in_default c =
    subst (λ step. AgreesWithStep step c.declare.result) (sym (list_ends c.args.made c.args.listing c.args.sign c.args.text.now c.in_default.not-Word c.in_default.not-Quoted c.in_default.not-Comma)) (rw c.in_ok-made-in_default.ensures at c.declare.ensures)
