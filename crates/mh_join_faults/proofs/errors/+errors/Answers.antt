use Rattle.std.proofs.Common.{sym, ap, subst, inr}
use Rattle.std.specs.Prelude.{not}
use Rattle.std.specs.List.{flat_map}
use Rattle.mh_rules.specs.declared.modules.Actual.TheViews.{out-Actual}
use Rattle.mh_join_names.specs.declared.fault.JoinFault.TheVariants.{ErrorToken}
use Rattle.mh_join_names.specs.Faults.{ReportsFirst, first, unless, error_token, errors_in_actual}
use Rattle.mh_join_names.proofs.Refs.{actual_out}
use Rattle.mh_join_names.proofs.ReportsFirst.{IsFirstOrMemory, first_then, finds_then, finds_more, finds_err}
use Rattle.mh_join_faults.proofs.errors.+errors.Goals as goal

pub check_actual-returns : goal.check_actual-returns
check_actual-returns t c =
    subst (λ k. ReportsFirst k c.check_actuals.result) (actual_out error_token c.args.actual.now)
    (finds_then (error_token (out-Actual c.args.actual.now).head) (flat_map errors_in_actual (out-Actual c.args.actual.now).args) c.check_actuals.result
    (ap (λ b. unless (not b) ErrorToken) (sym c.if-is_error.ensures)) (rw c.as_slice.ensures at c.check_actuals.ensures))

pub check_actual-returns-then-is_error : goal.check_actual-returns-then-is_error
check_actual-returns-then-is_error t c =
    subst (λ k. IsFirstOrMemory k ErrorToken) (actual_out error_token c.args.actual.now)
    (first_then (error_token (out-Actual c.args.actual.now).head) (flat_map errors_in_actual (out-Actual c.args.actual.now).args) ErrorToken
    (inr (ap (λ b. first (unless (not b) ErrorToken)) (sym c.if-is_error.ensures))))

pub check_actuals-loop-actual-preserved : goal.check_actuals-loop-actual-preserved
check_actuals-loop-actual-preserved t c = finds_more errors_in_actual c.args.actuals.now c.loop-actual.actual-index c.actual-item.result c.loop-actual-test.true c.actual-item.is c.loop-actual.invariant c.in_default.ensures

pub check_actuals-returns-in-Err : goal.check_actuals-returns-in-Err
check_actuals-returns-in-Err t c = finds_err errors_in_actual c.args.actuals.now c.loop-actual.actual-index c.actual-item.result c.loop-actual-test.true c.actual-item.is c.loop-actual.invariant c.in-Err.fault c.in-Err.ensures
