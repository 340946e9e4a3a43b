use Rattle.mh_explain.proofs.SentenceOrder.{same_number, sooner_by_order}
use Rattle.mh_explain.proofs.first_sentence.is_sooner.Goals as goal

pub returns-in-Equal : goal.returns-in-Equal
returns-in-Equal c =
    rw (c.in-First.is, c.eq.ensures) (sooner_by_order c.args.cost c.in-First.least c.args.sentence.now c.in-First.first c.in-First.next c.order.result (same_number c.args.cost c.in-First.least c.in-Equal.ensures) c.order.ensures)
