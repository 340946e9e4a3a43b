use Rattle.mh_report.proofs.AutomatonParts.{state_text_is}
use Rattle.mh_report.proofs.automata.write_state.Goals as goal

pub returns : goal.returns
returns g c =
    state_text_is c.args.grammar.now c.args.automaton.now c.args.table.now c.args.state c.args.text.now.items c.write_head.new.text.items c.write_kernel.new.text.items c.write_actions.new.text.items c.write_gotos.new.text.items
    c.in_ok-write_head.ensures c.in_ok-write_kernel.ensures c.in_ok-write_actions.ensures c.in_ok-write_gotos.ensures
