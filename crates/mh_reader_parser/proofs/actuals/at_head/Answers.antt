use Rattle.std.proofs.Common.{sym, subst}
use Rattle.mh_reader_parser.specs.code.ParserSteps.{AgreesWithStep}
use Rattle.mh_reader_parser.proofs.ActualSteps.{head_without_open}
use Rattle.mh_reader_parser.proofs.actuals.at_head.Goals as goal

pub returns-in_default : goal.returns-in_default
returns-in_default c =
    subst (λ step. AgreesWithStep step c.after.result) (sym (head_without_open c.args.made c.args.within.purpose c.args.within.pending c.args.head c.args.sign c.args.text.now c.in_default.not-Open)) (rw c.new.ensures at c.after.ensures)
