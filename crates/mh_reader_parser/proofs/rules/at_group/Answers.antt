use Rattle.std.proofs.Common.{sym, subst}
use Rattle.mh_reader_parser.specs.code.ParserSteps.{AgreesWithStep}
use Rattle.mh_reader_parser.proofs.RuleSteps.{group_without_prec}
use Rattle.mh_reader_parser.proofs.rules.at_group.Goals as goal

pub returns-in-Ok : goal.returns-in-Ok
returns-in-Ok c =
    subst (λ step. AgreesWithStep step c.after_group.result) (sym (group_without_prec c.args.made c.args.draft c.args.sign c.args.text.now c.in_default.not-Prec)) (rw c.in-Ok.ensures at c.after_group.ensures)
