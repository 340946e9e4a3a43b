use Rattle.std.proofs.Common.{subst, sym}
use Rattle.mh_tables_core.specs.Table.{TableData}
use Rattle.mh_facts.specs.code.TokenClasses.{AreTokenClasses}
use Rattle.mh_reach_spots.specs.code.Spots.{AreLeastArrivals}
use Rattle.mh_reach.specs.code.Candidates.{IsReachResult}
use Rattle.mh_reach.proofs.BestCandidate.{costs_are_capped, is_reach, sentences_are_known}
use Rattle.mh_reach.proofs.candidates.reach_by.Goals as goal

pub all_best-requires-clause-classes : goal.all_best-requires-clause-classes
all_best-requires-clause-classes c = subst (λ (t : TableData). AreTokenClasses t c.args.classes) (sym c.table-inner.ensures.table) c.requires.classes

pub all_best-requires-clause-arrivals : goal.all_best-requires-clause-arrivals
all_best-requires-clause-arrivals c =
    let arrived = subst (λ (t : TableData). AreLeastArrivals t c.args.classes c.args.spots) (sym c.table-inner.ensures.table) c.requires.arrivals in
    costs_are_capped c.table-inner.result.now c.facts.ensures c.args.classes c.args.spots arrived

pub all_best-requires-clause-sentences : goal.all_best-requires-clause-sentences
all_best-requires-clause-sentences c =
    let arrived = subst (λ (t : TableData). AreLeastArrivals t c.args.classes c.args.spots) (sym c.table-inner.ensures.table) c.requires.arrivals in
    sentences_are_known c.table-inner.result.now c.facts.ensures c.args.classes c.args.spots arrived

pub invariant_of-result : goal.invariant_of-result
invariant_of-result c =
    let classes = subst (λ (t : TableData). AreTokenClasses t c.args.classes) (sym c.table-inner.ensures.table) c.requires.classes in
    let arrived = subst (λ (t : TableData). AreLeastArrivals t c.args.classes c.args.spots) (sym c.table-inner.ensures.table) c.requires.arrivals in
    subst (λ (t : TableData). IsReachResult t c.args.classes c.args.spots c.in-Ok.best.items) c.table-inner.ensures.table
    (is_reach c.table-inner.result.now c.facts.ensures c.args.classes c.args.spots arrived classes c.in-Ok.best.items c.in-Ok.ensures)
