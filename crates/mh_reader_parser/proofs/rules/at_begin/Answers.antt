use Rattle.std.proofs.Common.{sym, subst}
use Rattle.mh_reader_parser.specs.code.ParserSteps.{AgreesWithStep}
use Rattle.mh_reader_parser.proofs.RuleSteps.{begin_without_bar}
use Rattle.mh_reader_parser.proofs.rules.at_begin.Goals as goal

pub returns-in_default : goal.returns-in_default
returns-in_default c =
    subst (λ step. AgreesWithStep step c.in_production.result) (sym (begin_without_bar c.args.made c.args.rule c.args.sign c.args.text.now c.in_default.not-Bar)) (rw c.draft_of-begun.ensures at c.in_production.ensures)
