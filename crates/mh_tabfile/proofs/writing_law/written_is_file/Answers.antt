use Rattle.std.proofs.Common.{arith}
use Rattle.mh_tabfile.proofs.WrittenIsFile.{is_written}
use Rattle.mh_tabfile.proofs.writing_law.written_is_file.Goals as goal

pub returns : goal.returns
returns g c = is_written c.args.grammar.now c.args.automaton.now c.args.mode c.args.table.now c.requires.names c.requires.table.range c.requires.table.automaton c.requires.table.table c.facts.ensures
