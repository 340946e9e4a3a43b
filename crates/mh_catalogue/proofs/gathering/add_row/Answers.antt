use Rattle.std.proofs.Common.{◌≡◌, refl, subst}
use Rattle.mh_tables_core.specs.Failing.{TooLongAt}
use Rattle.mh_catalogue.specs.Rows.{rows_of}
use Rattle.mh_catalogue.proofs.RowsBelow.{FailsWithinMaxCost-least, rows_added, RowsBelow-skip, too_long}
use Rattle.mh_catalogue.proofs.gathering.add_row.Goals.{in-Err-push, in-Ok-push}
use Rattle.mh_catalogue.proofs.gathering.add_row.Goals as goal

pub returns-then-cost-gt-MAX_SENTENCE_COST-clause-too_long : goal.returns-then-cost-gt-MAX_SENTENCE_COST-clause-too_long
returns-then-cost-gt-MAX_SENTENCE_COST-clause-too_long c = λ s e.
    let same : c.args.state ≡ s = cc in
    subst (TooLongAt c.args.reach.now) same (too_long c.args.reach.now c.args.state (rows_of c.args.rows.now.items) c.requires.rows c.in-Some.cost c.in-Some.ensures c.if-cost-gt-MAX_SENTENCE_COST.true)

pub returns-in-None-clause-ok : goal.returns-in-None-clause-ok
returns-in-None-clause-ok c = RowsBelow-skip c.args.reach.now c.args.state (rows_of c.args.rows.now.items) c.requires.rows c.in-None.ensures

pub returns-after-push-clause-ok : goal.returns-after-push-clause-ok
returns-after-push-clause-ok c = elim c.match-push.branch [
  | in-Err-push w ↦ rw w.result-is tt
  | in-Ok-push w ↦
      rw w.result-is
      (rows_added c.args.reach.now c.args.state (rows_of c.args.rows.now.items) c.requires.rows c.requires.facts c.args.rows.now.items _ refl _ refl c.in-Ok.ensures
      (FailsWithinMaxCost-least c.args.reach.now c.args.state c.in-Some.cost c.in-Some.ensures c.if-cost-gt-MAX_SENTENCE_COST.false) w.in-Ok-push.ensures.items)
]
