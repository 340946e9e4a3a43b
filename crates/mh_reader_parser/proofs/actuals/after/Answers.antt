use Rattle.std.proofs.Common.{sym, subst}
use Rattle.mh_reader_parser.specs.code.ParserSteps.{AgreesWithStep, at_optional_suffix}
use Rattle.mh_reader_parser.proofs.ActualSteps.{suffix_none}
use Rattle.mh_reader_parser.proofs.actuals.after.Goals as goal

pub returns-in_default : goal.returns-in_default
returns-in_default c =
    subst (λ suffix. AgreesWithStep (at_optional_suffix c.args.made c.args.within.purpose c.args.within.pending c.args.read.actual c.args.read.depth suffix c.args.sign c.args.text.now) c.above.result)
    (sym (suffix_none c.args.sign c.in_default.not-Question c.in_default.not-Star c.in_default.not-Plus)) c.above.ensures
