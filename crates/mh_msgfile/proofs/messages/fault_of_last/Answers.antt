use Rattle.mh_msgfile.specs.Sentences.{vocabulary_in}
use Rattle.mh_msgfile.proofs.ReadsEntries.{last_other}
use Rattle.mh_msgfile.proofs.messages.fault_of_last.Goals as goal

pub returns-in-Err : goal.returns-in-Err
returns-in-Err c = last_other (vocabulary_in c.args.lexicon.now) c.args.lines.now c.args.block.now c.in-Err.fault c.in-Err.ensures
