use Rattle.mh_run_exact.proofs.ExactnessLaws.{overshoots}
use Rattle.mh_run_exact.proofs.exactness.overshoots_in_sentences.Goals as goal

pub returns : goal.returns
returns g c = overshoots c.args.grammar.now c.args.automaton.now c.args.mode c.args.table.now c.facts.ensures c.requires.automaton c.requires.table c.requires.productive
