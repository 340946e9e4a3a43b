use Rattle.std.proofs.Common.{◌≡◌, sym, ◌∙◌, Some, None, subst}
use Rattle.mh_tables_core.specs.Table.{TableData}
use Rattle.mh_reach_spots.specs.code.Spots.{arrival_at}
use Rattle.mh_reach.specs.Reaching.{LeastCostTo}
use Rattle.mh_reach.specs.code.Candidates.{spot_of}
use Rattle.mh_reach.proofs.ComingLabel.{none_comes, arrival_cost}
use Rattle.mh_reach.proofs.sentences.Reach.cost_to.Goals as goal

pub spot_of-spot-requires-clause-sized : goal.spot_of-spot-requires-clause-sized
spot_of-spot-requires-clause-sized c = rw c.table-table.ensures.table c.self.invariant.sized

pub returns-in-None : goal.returns-in-None
returns-in-None c =
    let known = rw (sym c.self.view_is) at c.requires.token in
    let k = spot_of c.self.inside.classes c.args.state c.args.token in
    let e : arrival_at c.self.inside.spots.spots k ≡ None = rw c.spot_of-spot.ensures at (sym c.arrival_at.ensures ∙ c.in-None.is) in
    subst (λ (t : TableData). LeastCostTo t c.args.state c.args.token None) c.self.view_is (none_comes c.self.inside.table.now c.self.inside.spots.book c.self.inside.spots.spots c.self.invariant.label_assignment k c.args.state c.args.token (c.self.invariant.comings c.args.state c.args.token known) e)

pub returns-in-Some : goal.returns-in-Some
returns-in-Some c =
    let known = rw (sym c.self.view_is) at c.requires.token in
    let k = spot_of c.self.inside.classes c.args.state c.args.token in
    let e : arrival_at c.self.inside.spots.spots k ≡ Some c.in-Some.arrival = rw c.spot_of-spot.ensures at (sym c.arrival_at.ensures ∙ c.in-Some.is) in
    subst (λ (t : TableData). LeastCostTo t c.args.state c.args.token (Some c.in-Some.arrival.cost)) c.self.view_is (arrival_cost c.self.inside.table.now c.self.inside.spots.book c.self.inside.spots.spots c.self.invariant.label_assignment k c.args.state c.args.token (c.self.invariant.comings c.args.state c.args.token known) c.in-Some.arrival e)
