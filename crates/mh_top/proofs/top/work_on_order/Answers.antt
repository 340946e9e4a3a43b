use Rattle.std.proofs.Common.{refl, subst, sym}
use Rattle.std.specs.Prelude.{Err, Ok}
use Rattle.mh_top_drive.specs.StageResults.{Go}
use Rattle.mh_top_load.specs.OrderAndGrammar.{IsOrderAndGrammar}
use Rattle.mh_top_load.proofs.StagesToGrammar.{of_words}
use Rattle.mh_top_claims.proofs.PreparedWork.{order_needs}
use Rattle.mh_top_claims.proofs.WorkBeforeLastLine.{front_stops, worked_same}
use Rattle.mh_top_drive.proofs.MayWriteAfter.{after_stop}
use Rattle.mh_top.proofs.top.work_on_order.Goals as goal

pub work_at_width-requires-clause-front : goal.work_at_width-requires-clause-front
work_at_width-requires-clause-front g c = record {
  job = rw (← c.in-Ok.ensures.order) c.requires.job;
  start = c.in-Ok.ensures.start;
  limits = c.in-Ok.ensures.limits;
  costs = c.in-Ok.ensures.costs;
  distinct_names = c.in-Ok.ensures.distinct_names;
  tables = rw (← c.in-Ok.ensures.order) (λ name named. c.in-Ok.ensures.may_ask _ (c.requires.tables name named));
  asked = rw (← c.in-Ok.ensures.order) (λ k d lt. c.in-Ok.ensures.may_ask _ (c.requires.asked k d lt));
}

pub returns-in-Err-clause-ran : goal.returns-in-Err-clause-ran
returns-in-Err-clause-ran g c = λ words on.
    front_stops words (order_needs words c.args.order on c.requires.job) _ _ (record { out = refl; err = refl; left = refl; input_faults = refl; out_faults = refl; err_faults = refl }) c.in-Err.stop c.in-Err.ensures.counts (of_words words _ c.args.order (Err c.in-Err.stop) on c.in-Err.ensures.front)

pub returns-in-Err-clause-may_warn_on : goal.returns-in-Err-clause-may_warn_on
returns-in-Err-clause-may_warn_on g c = after_stop _ c.in-Err.stop c.requires.may_warn

pub returns-in-Ok-clause-ran : goal.returns-in-Ok-clause-ran
returns-in-Ok-clause-ran g c = λ words on.
    worked_same words _ _ _ _ c.work_at_width.result c.in-Ok.ensures.kept c.in-Ok.ensures.counts
    (c.work_at_width.ensures.ran words (subst (λ f. IsOrderAndGrammar words f (Go c.in-Ok.front)) (sym c.in-Ok.ensures.kept) (of_words words _ c.args.order (Ok c.in-Ok.front) on c.in-Ok.ensures.front)))
