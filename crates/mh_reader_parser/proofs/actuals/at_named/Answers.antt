use Rattle.std.proofs.Common.{sym, subst}
use Rattle.mh_reader_parser.specs.code.ParserSteps.{AgreesWithStep}
use Rattle.mh_reader_parser.proofs.ActualSteps.{name_without_equals}
use Rattle.mh_reader_parser.proofs.actuals.at_named.Goals as goal

pub returns-in_default : goal.returns-in_default
returns-in_default c =
    subst (λ step. AgreesWithStep step c.at_head.result) (sym (name_without_equals c.args.made c.args.draft c.args.name c.args.sign c.args.text.now c.in_default.not-Equals)) (rw c.new-pending.ensures at c.at_head.ensures)
