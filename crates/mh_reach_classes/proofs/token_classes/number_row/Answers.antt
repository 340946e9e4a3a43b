use Rattle.std.proofs.Common.{◌≡◌, arith}
use Rattle.mh_reach_classes.proofs.RowOfClasses.{row_begins}
use Rattle.mh_reach_classes.proofs.token_classes.number_row.Goals as goal

pub loop-token-init : goal.loop-token-init
loop-token-init c = rw (c.new.ensures.items, c.new-2.ensures.items) (row_begins c.args.given.now c.args.count.now, omega arith)

pub loop-token-preserved : goal.loop-token-preserved
loop-token-preserved c = (c.in_ok-add_class.ensures.row, (let a = c.in_ok-add_class.ensures.grows in let b = c.loop-token.invariant.1 in omega (arith, a, b)))

pub returns-clause-row : goal.returns-clause-row
returns-clause-row c = let e : c.loop-token.token ≡ c.args.tokens = (let a = c.loop-token-test.false in let b = c.loop-token.auto.token-end in omega arith) in rw e at c.loop-token.invariant.0

pub returns-clause-grows : goal.returns-clause-grows
returns-clause-grows c = c.loop-token.invariant.1
