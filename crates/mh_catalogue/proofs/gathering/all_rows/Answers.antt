use Rattle.std.proofs.Common.{◌≡◌, Err, ap, arith, ◌∙◌}
use Rattle.mh_catalogue.proofs.RowsBelow.{made, not_made, RowsBelow-start}
use Rattle.mh_catalogue.proofs.gathering.all_rows.Goals as goal

pub loop-state-init : goal.loop-state-init
loop-state-init c = rw c.new-rows.ensures.items (RowsBelow-start c.args.reach.now)

pub returns-in-Err : goal.returns-in-Err
returns-in-Err c = not_made c.args.reach.now c.in-Err.fault (λ s e. c.in-Err.ensures.too_long s (ap Err e))

pub returns : goal.returns
returns c =
    let e : c.loop-state.state ≡ c.args.states = (let a = c.loop-state-test.false in let b = c.loop-state.auto.state-end in omega arith) in
    made c.args.reach.now c.requires.facts c.loop-state.state (e ∙ c.requires.states) _ c.loop-state.invariant
