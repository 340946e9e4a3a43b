use Rattle.mh_reach_classes.proofs.RowOfClasses.{row_lists, row_follows}
use Rattle.mh_reach_classes.proofs.token_classes.add_class.Goals as goal

pub returns-then-class-token-clause-row : goal.returns-then-class-token-clause-row
returns-then-class-token-clause-row c = rw c.in_ok-push.ensures.items (row_follows c.args.token c.args.given.now c.args.row.now.classes.items c.args.row.now.list.items c.args.count.now c.class_for-class.new.count c.class_for-class.result c.requires (rw c.as_slice.ensures.value at c.class_for-class.ensures) c.if-class-token.true)

pub returns-clause-row : goal.returns-clause-row
returns-clause-row c = rw (c.in_ok-push.ensures.items, c.in_ok-push-2.ensures.items) (row_lists c.args.token c.args.given.now c.args.row.now.classes.items c.args.row.now.list.items c.args.count.now c.class_for-class.new.count c.class_for-class.result c.requires (rw c.as_slice.ensures.value at c.class_for-class.ensures) c.if-class-token.false)

pub returns-then-class-token-clause-grows : goal.returns-then-class-token-clause-grows
returns-then-class-token-clause-grows c = c.class_for-class.ensures.0

pub returns-clause-grows : goal.returns-clause-grows
returns-clause-grows c = c.class_for-class.ensures.0
