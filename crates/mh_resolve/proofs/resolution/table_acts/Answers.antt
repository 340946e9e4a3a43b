use Rattle.mh_resolve_cells.proofs.ActsCompletely.{state_acts, state_acts_if_conflict_free}
use Rattle.mh_resolve.proofs.resolution.table_acts.Goals as goal

pub returns-clause-within : goal.returns-clause-within
returns-clause-within g c = λ s lt. state_acts c.args.grammar.now c.args.automaton.now c.args.mode c.args.table.now.states c.requires.automaton c.requires.table.states s lt

pub returns-clause-clearly : goal.returns-clause-clearly
returns-clause-clearly g c = λ clear s lt. state_acts_if_conflict_free c.args.grammar.now c.args.automaton.now c.args.mode c.args.table.now.states c.requires.table.states clear s lt
