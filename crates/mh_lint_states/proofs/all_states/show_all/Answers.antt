use Rattle.mh_lint_states.proofs.AreShown.{shown_more, shown_none}
use Rattle.mh_lint_states.proofs.all_states.show_all.Goals as goal

pub loop-number-init : goal.loop-number-init
loop-number-init g c = record { shown = shown_none c.args.grammar.now c.args.automaton.now c.args.table.now c.args.shown.now c.requires.none; closer = c.requires.closer }

pub loop-number-preserved : goal.loop-number-preserved
loop-number-preserved g c = record {
  shown = shown_more c.args.grammar.now c.args.automaton.now c.args.table.now c.loop-number.number c.loop-number.shown c.show_state.new.shown c.loop-number.invariant.shown (rw c.in_ok-state.ensures.number at c.in_ok-show_state.ensures);
  closer = c.in_ok-state.ensures.closer;
}
