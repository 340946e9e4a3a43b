use Rattle.std.proofs.Common.{refl, rules, subst, sym}
use Rattle.mh_items.specs.Fitting.{FitsSets}
use Rattle.mh_top_drive.specs.StageResults.{Go}
use Rattle.mh_top_claims.specs.Preparing.{IsPrepared}
use Rattle.mh_top_claims.proofs.PreparedWork.{front_needs}
use Rattle.mh_top_claims.proofs.WorkBeforeLastLine.{prepare_stops, prepared_so, worked_same}
use Rattle.mh_top_drive.proofs.MayWriteAfter.{after_stop}
use Rattle.mh_top.proofs.top.work_on.Goals as goal

pub work_with-ended-requires : goal.work_with-ended-requires
work_with-ended-requires g c = (
  search rules,
  (record { fits = subst (FitsSets _) (sym c.in-Ok.ensures.grammar) c.requires.fits; job = rw c.in-Ok.ensures.order c.requires.front.job; consistent = c.in-Ok.ensures.consistent; asked = rw c.in-Ok.ensures.order (λ k d lt. c.in-Ok.ensures.may_ask _ (c.requires.front.asked k d lt)); may_read = c.requires.may_read; may_write = c.requires.may_write }, c.requires.may_warn),
)

pub returns-in-Err-clause-ran : goal.returns-in-Err-clause-ran
returns-in-Err-clause-ran g c = λ words is.
    prepare_stops words (front_needs words _ c.args.front is c.requires.front.job) _ _ (record { out = refl; err = refl; left = refl; input_faults = refl; out_faults = refl; err_faults = refl }) c.args.front c.in-Err.stop is c.in-Err.ensures.counts c.in-Err.ensures.prepared

pub returns-in-Err-clause-may_warn_on : goal.returns-in-Err-clause-may_warn_on
returns-in-Err-clause-may_warn_on g c = after_stop _ c.in-Err.stop c.requires.may_warn

pub returns-in-Ok-clause-ran : goal.returns-in-Ok-clause-ran
returns-in-Ok-clause-ran g c = λ words is.
    worked_same words _ _ _ _ c.work_with-ended.result c.in-Ok.ensures.kept c.in-Ok.ensures.counts
    (c.work_with-ended.ensures.ran words (subst (λ f. IsPrepared words f (Go c.in-Ok.prepared)) (sym c.in-Ok.ensures.kept) (prepared_so words _ c.args.front _ is c.in-Ok.ensures.prepared)))
