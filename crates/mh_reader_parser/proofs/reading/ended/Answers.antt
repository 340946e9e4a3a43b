use Rattle.std.proofs.Common.{sym, subst}
use Rattle.mh_reader_parser.specs.code.ParserSteps.{AgreesWithStep}
use Rattle.mh_reader_parser.proofs.ActualSteps.{no_finish}
use Rattle.mh_reader_parser.proofs.reading.ended.Goals as goal

pub returns-in_default : goal.returns-in_default
returns-in_default c =
    subst (λ step. AgreesWithStep step c.unexpected.result)
    (sym (no_finish c.args.reader.made c.args.reader.place c.in_default.not-Rules c.in_default.not-RuleEnd c.in_default.not-Ended c.in_default.not-Group c.in_default.not-GroupClosed)) c.unexpected.ensures
