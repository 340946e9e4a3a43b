use Rattle.mh_explain.proofs.SentenceOrder.{by_tokens, same_number}
use Rattle.mh_explain.proofs.first_sentence.order.Goals as goal

pub returns-in-Equal : goal.returns-in-Equal
returns-in-Equal c =
    by_tokens c.args.left.now c.args.right.now c.cmp-in-Equal.result (same_number c.args.left.now.start c.args.right.now.start c.in-Equal.ensures) (rw (c.as_slice.ensures, c.as_slice-in-Equal.ensures) at c.cmp-in-Equal.ensures)
