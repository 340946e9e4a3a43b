use Rattle.std.proofs.Common.{sym}
use Rattle.mh_msgfile.specs.Sentences.{vocabulary_in}
use Rattle.mh_session.specs.code.Forms.{as_form}
use Rattle.mh_session.proofs.HasForm.{reads, not_readable}
use Rattle.mh_session.proofs.reading.read_command_by.Goals as goal

pub returns-in-Some : goal.returns-in-Some
returns-in-Some c = reads (vocabulary_in c.args.lexicon.now) c.args.line.now (as_form c.in-Some.spelled) c.command_of.result c.in-Some.ensures c.command_of.ensures

pub returns-in-None : goal.returns-in-None
returns-in-None c = not_readable c.args.line.now c.in-None.ensures
