use Rattle.mh_tables_core.specs.Table.{state_at}
use Rattle.mh_facts.specs.code.Queues.{ListGains}
use Rattle.mh_reach_classes.specs.code.Reductions.{IsReductionOverEdge}
use Rattle.mh_facts.proofs.ListGains.{FirstOf}
use Rattle.mh_reach_classes.proofs.leading_reductions.note_in.Given as goal

abbrev pub invariant-loop-edge : goal.invariant-loop-edge
invariant-loop-edge l = ListGains (FirstOf (IsReductionOverEdge l.table l.from) (state_at l.table l.from).edges l.edge-index) l.fn.past.keys l.past.keys
