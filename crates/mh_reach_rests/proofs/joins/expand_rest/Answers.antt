use Rattle.std.proofs.Common.{◌-◌, refl}
use Rattle.mh_facts.proofs.Edges.{symbol_token}
use Rattle.mh_reach_rests.proofs.RestExpansion.{nonterminal_expands, token_expands}
use Rattle.mh_reach_rests.proofs.joins.expand_rest.Goals as goal

pub states_before-states-requires : goal.states_before-states-requires
states_before-states-requires c = rw c.requires.sources.len c.requires.rest.range.from

pub shift-requires-clause-symbol : goal.shift-requires-clause-symbol
shift-requires-clause-symbol c = c.in-T.ensures

pub shift-requires-clause-sources : goal.shift-requires-clause-sources
shift-requires-clause-sources c s there = c.requires.sources.known c.args.rest.key.from s (rw c.states_before-states.ensures at there)

pub shift-requires-clause-token : goal.shift-requires-clause-token
shift-requires-clause-token c = symbol_token c.args.table.now c.facts.ensures c.args.rest.key.production (c.args.rest.key.dot - 1) c.in-T.token c.in-T.ensures

pub returns-in_ok-shift-in-T : goal.returns-in_ok-shift-in-T
returns-in_ok-shift-in-T c = token_expands c.args.table.now c.args.classes.now c.args.sources.now c.args.work.now _ c.args.rest c.in-T.token c.in-T.ensures refl refl (rw c.states_before-states.ensures at c.in_ok-shift-in-T.ensures)

pub returns-in_ok-meet_gotos-in-N : goal.returns-in_ok-meet_gotos-in-N
returns-in_ok-meet_gotos-in-N c = nonterminal_expands c.args.table.now c.args.classes.now c.args.sources.now c.args.work.now c.meet_gotos.new.work c.args.rest c.in-N.field-0 c.in-N.ensures c.in_ok-meet_gotos-in-N.ensures.rests c.in_ok-meet_gotos-in-N.ensures.gotos c.in_ok-meet_gotos-in-N.ensures.queue
