use Rattle.std.proofs.Common.{subst}
use Rattle.mh_msgfile.specs.Sentences.{Vocabulary}
use Rattle.mh_session_branches.specs.LineForms.{ReadsCommand}
use Rattle.mh_session.proofs.reading.read_command.Goals as goal

pub returns : goal.returns
returns c = subst (λ (v : Vocabulary). ReadsCommand v c.args.line.now c.read_command_by.result) c.in_ok-lexicon.ensures c.read_command_by.ensures
