use Rattle.std.proofs.Common.{refl}
use Rattle.mh_lint_states.proofs.AreShown.{all_shown}
use Rattle.mh_lint_states.proofs.all_states.shown_by_states.Goals as goal

pub returns : goal.returns
returns g c = all_shown c.args.grammar.now c.args.automaton.now c.args.table.now _ c.show_all.new.shown refl c.requires.table.1.states.count c.in_ok-show_all.ensures
