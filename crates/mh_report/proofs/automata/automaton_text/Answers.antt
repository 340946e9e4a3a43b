use Rattle.std.proofs.Common.{◌+◌, length, arith}
use Rattle.mh_report.specs.Automata.{title}
use Rattle.mh_report.proofs.AutomatonParts.{state_texts_more}
use Rattle.mh_report.proofs.automata.automaton_text.Goals as goal

pub loop-state-preserved : goal.loop-state-preserved
loop-state-preserved g c =
    state_texts_more c.args.grammar.now c.args.automaton.now c.args.table.now c.table.result.now c.loop-state.state (c.loop-state.state + 1) (title c.args.mode (length c.args.automaton.now.kernels)) c.loop-state.text.items c.write_state.new.text.items (omega arith) c.table.ensures.table c.loop-state.invariant c.in_ok-write_state.ensures
