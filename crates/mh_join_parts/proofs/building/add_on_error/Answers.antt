use Rattle.std.proofs.Common.{Some, map, sym, ap, ◌∙◌}
use Rattle.mh_join_names.specs.Faults.{meant_by, undefined_in_on_error}
use Rattle.mh_join_names.specs.Joining.{all_of, all_resolved}
use Rattle.mh_join_names.specs.code.SymbolTables.{meanings_in, formals_in}
use Rattle.mh_join_names.proofs.Resolved.{nil_at, somes_more, all_somes}
use Rattle.mh_join_parts.proofs.building.add_on_error.Goals as goal

pub loop-actuals-preserved : goal.loop-actuals-preserved
loop-actuals-preserved c = somes_more (all_resolved (meant_by (meanings_in c.args.scope.now.names.now) c.args.scope.now.file (formals_in c.args.scope.now.formals.now))) (map Some c.args.joined.now) c.args.declared.now c.loop-actuals.actuals-index c.actuals-item.result c.loop-actuals.joined c.push.new.self c.in_ok-joined_actuals.field-0 c.loop-actuals-test.true c.actuals-item.is c.loop-actuals.invariant
    (sym (all_somes c.in_ok-joined_actuals.field-0) ∙ ap all_of (rw c.as_slice.ensures at c.in_ok-joined_actuals.ensures)) c.in_ok-push.ensures.ok

pub joined_actuals-requires-clause-resolved : goal.joined_actuals-requires-clause-resolved
joined_actuals-requires-clause-resolved c = rw c.as_slice.ensures (nil_at (undefined_in_on_error (meant_by (meanings_in c.args.scope.now.names.now) c.args.scope.now.file (formals_in c.args.scope.now.formals.now))) c.args.declared.now c.loop-actuals.actuals-index c.actuals-item.result c.loop-actuals-test.true c.actuals-item.is c.requires.resolved)
