use Rattle.std.proofs.Common.{arith, sym, ◌∙◌, Some, None, ap, subst}
use Rattle.mh_tables_core.specs.Table.{TableData}
use Rattle.mh_reach.specs.Reaching.{LeastCost}
use Rattle.mh_reach.proofs.BestCandidate.{least_cost}
use Rattle.mh_reach.proofs.FailsFirst.{index_at}
use Rattle.mh_reach.proofs.sentences.Reach.cost_of.Goals as goal

pub returns-in-None : goal.returns-in-None
returns-in-None c =
    let known = rw (sym c.self.view_is) at c.requires in
    let at = index_at c.self.inside.best.items c.args.state c.index.result.now (let l = c.self.invariant.len in omega (arith, l, known)) c.index.ensures in
    subst (λ (t : TableData). LeastCost t c.args.state None) c.self.view_is (c.self.invariant.each c.args.state None (at ∙ ap Some c.in-None.is))

pub returns-in-Some : goal.returns-in-Some
returns-in-Some c =
    let known = rw (sym c.self.view_is) at c.requires in
    let at = index_at c.self.inside.best.items c.args.state c.index.result.now (let l = c.self.invariant.len in omega (arith, l, known)) c.index.ensures in
    subst (λ (t : TableData). LeastCost t c.args.state (Some c.in-Some.best.cost)) c.self.view_is (least_cost c.self.inside.table.now c.self.inside.spots.book c.args.state c.in-Some.best (c.self.invariant.each c.args.state (Some c.in-Some.best) (at ∙ ap Some c.in-Some.is)))
