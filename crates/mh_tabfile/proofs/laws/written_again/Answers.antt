use Rattle.mh_tabfile_form.specs.Form.{table_text}
use Rattle.mh_tabfile_form.specs.TableContent.{raw_of}
use Rattle.mh_tabfile_read.proofs.ReadingUnique.{only_reading}
use Rattle.mh_tabfile.proofs.WrittenIsFile.{is_written}
use Rattle.mh_validate_valid.proofs.WrittenIsValid.{written_is_valid_for}
use Rattle.mh_tabfile.proofs.WrittenAgain.{one_content}
use Rattle.mh_tabfile.proofs.laws.written_again.Goals as goal

pub returns-clause-read : goal.returns-clause-read
returns-clause-read g c = λ r h.
    let raw = raw_of c.args.grammar.now c.args.automaton.now c.args.mode c.args.table.now.states in
    only_reading (table_text raw) r h raw (is_written c.args.grammar.now c.args.automaton.now c.args.mode c.args.table.now c.requires.names c.requires.range c.requires.automaton c.requires.table c.facts.ensures)

pub returns-clause-valid : goal.returns-clause-valid
returns-clause-valid g c = written_is_valid_for c.args.grammar.now c.args.automaton.now c.args.mode c.args.table.now.states c.requires.automaton c.requires.table.states

pub returns-clause-one : goal.returns-clause-one
returns-clause-one g c = λ b u v of_b.
    one_content c.args.grammar.now c.requires.distinct (raw_of c.args.grammar.now c.args.automaton.now c.args.mode c.args.table.now.states) c.args.mode c.args.automaton.now b c.args.table.now u
    (written_is_valid_for c.args.grammar.now c.args.automaton.now c.args.mode c.args.table.now.states c.requires.automaton c.requires.table.states) c.requires.table v of_b
