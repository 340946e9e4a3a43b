use Rattle.std.proofs.Common.{arith}
use Rattle.mh_tabfile_form.specs.Form.{states_lines}
use Rattle.mh_tabfile_form.specs.TableContent.{raw_states}
use Rattle.mh_tabfile.proofs.LinesWritten.{states_more}
use Rattle.mh_tabfile.proofs.writing.write_states.Goals as goal

pub loop-state-preserved : goal.loop-state-preserved
loop-state-preserved g c =
    let grammar = c.args.grammar.now in
    let automaton = c.args.automaton.now in
    let table = c.args.table.now in
    states_more grammar automaton table c.loop-state.state c.args.text.now.items c.loop-state.text.items c.write_state.new.text.items
    (states_lines 0 (raw_states grammar automaton.kernels automaton.edges table.states))
    (omega (arith, c.requires.states, c.states-state-end.ensures, c.loop-state-test.true)) (omega (arith, c.requires.edges, c.requires.states, c.states-state-end.ensures, c.loop-state-test.true))
    (omega (arith, c.states-state-end.ensures, c.loop-state-test.true)) c.loop-state.invariant (c.in_ok-write_state.ensures)
