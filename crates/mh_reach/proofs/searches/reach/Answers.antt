use Rattle.std.proofs.Common.{subst}
use Rattle.mh_tables_core.specs.Table.{TableData}
use Rattle.mh_facts.specs.code.TokenClasses.{AreTokenClasses}
use Rattle.mh_reach_spots.specs.code.Spots.{AreLeastArrivals}
use Rattle.mh_reach.proofs.searches.reach.Goals as goal

pub reach_by-requires-clause-classes : goal.reach_by-requires-clause-classes
reach_by-requires-clause-classes c = subst (λ (t : TableData). AreTokenClasses t c.in_ok-classes.classes) c.table-inner.ensures.table c.in_ok-classes.ensures

pub reach_by-requires-clause-arrivals : goal.reach_by-requires-clause-arrivals
reach_by-requires-clause-arrivals c = subst (λ (t : TableData). AreLeastArrivals t c.in_ok-classes.classes c.in-Ok.spots) c.table-inner.ensures.table c.in-Ok.ensures
