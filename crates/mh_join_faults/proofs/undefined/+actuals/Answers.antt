use Rattle.std.specs.List.{flat_map}
use Rattle.mh_rules.specs.declared.modules.Actual.TheViews.{out-Actual}
use Rattle.std.proofs.Common.{subst}
use Rattle.mh_join_names.specs.Faults.{ReportsFirst, meant_by, undefined, undefined_in_actual}
use Rattle.mh_join_names.specs.code.SymbolTables.{meanings_in, formals_in}
use Rattle.mh_join_names.proofs.Refs.{actual_out}
use Rattle.mh_join_names.proofs.ReportsFirst.{IsFirstOrMemory, first_then, finds_then, finds_more, finds_err}
use Rattle.mh_join_faults.proofs.undefined.+actuals.Goals as goal

pub check_actual-returns-in-Ok : goal.check_actual-returns-in-Ok
check_actual-returns-in-Ok t c =
    let f = (undefined c.args.in_body (meant_by (meanings_in c.args.names.now) c.args.file (formals_in c.args.formals.now))) in
    subst (λ k. ReportsFirst k c.check_actuals.result) (actual_out f c.args.actual.now)
    (finds_then (f (out-Actual c.args.actual.now).head) (flat_map (undefined_in_actual c.args.in_body (meant_by (meanings_in c.args.names.now) c.args.file (formals_in c.args.formals.now))) (out-Actual c.args.actual.now).args) c.check_actuals.result c.in-Ok.ensures (rw c.as_slice.ensures at c.check_actuals.ensures))

pub check_actual-returns-in-Err : goal.check_actual-returns-in-Err
check_actual-returns-in-Err t c =
    let f = (undefined c.args.in_body (meant_by (meanings_in c.args.names.now) c.args.file (formals_in c.args.formals.now))) in
    subst (λ k. IsFirstOrMemory k c.in-Err.fault) (actual_out f c.args.actual.now)
    (first_then (f (out-Actual c.args.actual.now).head) (flat_map (undefined_in_actual c.args.in_body (meant_by (meanings_in c.args.names.now) c.args.file (formals_in c.args.formals.now))) (out-Actual c.args.actual.now).args) c.in-Err.fault c.in-Err.ensures)

pub check_actuals-loop-actual-preserved : goal.check_actuals-loop-actual-preserved
check_actuals-loop-actual-preserved t c = finds_more (undefined_in_actual c.args.in_body (meant_by (meanings_in c.args.names.now) c.args.file (formals_in c.args.formals.now))) c.args.actuals.now c.loop-actual.actual-index c.actual-item.result c.loop-actual-test.true c.actual-item.is c.loop-actual.invariant c.in_default.ensures

pub check_actuals-returns-in-Err : goal.check_actuals-returns-in-Err
check_actuals-returns-in-Err t c = finds_err (undefined_in_actual c.args.in_body (meant_by (meanings_in c.args.names.now) c.args.file (formals_in c.args.formals.now))) c.args.actuals.now c.loop-actual.actual-index c.actual-item.result c.loop-actual-test.true c.actual-item.is c.loop-actual.invariant c.in-Err.fault c.in-Err.ensures
