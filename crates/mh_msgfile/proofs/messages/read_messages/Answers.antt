use Rattle.std.proofs.Common.{arith}
use Rattle.mh_msgfile.proofs.AreSentencesOf.{reads_fit}
use Rattle.mh_msgfile.proofs.messages.read_messages.Goals as goal

pub returns-clause-file : goal.returns-clause-file
returns-clause-file c = c.read_file-file.ensures c.args.grammar.now c.in-Ok.ensures

pub returns-clause-known : goal.returns-clause-known
returns-clause-known c = reads_fit c.args.grammar.now c.args.bytes.now c.read_file-file.result (omega arith) (c.read_file-file.ensures c.args.grammar.now c.in-Ok.ensures)
