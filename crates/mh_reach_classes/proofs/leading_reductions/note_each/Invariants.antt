use Rattle.mh_facts.specs.code.Queues.{ListGains}
use Rattle.mh_reach_classes.specs.code.Reductions.{IsReductionBy}
use Rattle.mh_facts.proofs.ListGains.{FirstOf}
use Rattle.mh_reach_classes.proofs.leading_reductions.note_each.Given as goal

abbrev pub invariant-loop-production : goal.invariant-loop-production
invariant-loop-production l = ListGains (FirstOf (λ p r. IsReductionBy l.table l.from l.target p r) l.productions l.production-index) l.fn.past.keys l.past.keys
