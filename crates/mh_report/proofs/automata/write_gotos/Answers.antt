use Rattle.std.proofs.lemmas.Result.{on_ok_weaker}
use Rattle.mh_report.proofs.AutomatonParts.{goto_text_is}
use Rattle.mh_report.proofs.automata.write_gotos.Goals as goal

pub returns : goal.returns
returns g c =
    on_ok_weaker c.write_goto_lines.result (goto_text_is c.args.grammar.now c.args.automaton.now c.args.state c.as_slice-edges.result.now c.index.result.now c.args.text.now.items c.write_goto_lines.new.text.items c.requires.state c.index.ensures c.as_slice-edges.ensures) c.write_goto_lines.ensures
