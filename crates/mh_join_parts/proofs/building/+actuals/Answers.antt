use Rattle.std.proofs.Common.{length, arith, false, [], ap, ◌≡◌, sym, ◌∙◌}
use Rattle.std.specs.List.{flat_map}
use Rattle.mh_join_names.specs.Faults.{refs, meant_by, undefined_in_actual}
use Rattle.mh_join_names.specs.Joining.{resolved}
use Rattle.mh_join_names.specs.code.SymbolTables.{meanings_in, formals_in}
use Rattle.mh_join_names.proofs.Refs.{size_out, size_item}
use Rattle.mh_join_names.proofs.Resolved.{head_resolved, args_resolved, resolved_with, nil_at, somes_more}
use Rattle.mh_join_parts.proofs.building.+actuals.Goals as goal

pub joined_actual-unwrap-head-requires : goal.joined_actual-unwrap-head-requires
joined_actual-unwrap-head-requires t c = rw c.head_of.ensures (head_resolved (meant_by (meanings_in c.args.scope.now.names.now) c.args.scope.now.file (formals_in c.args.scope.now.formals.now)) c.args.actual.now c.requires.resolved)

pub joined_actual-joined_actuals-requires : goal.joined_actual-joined_actuals-requires
joined_actual-joined_actuals-requires t c =
    let stands : flat_map (undefined_in_actual false (meant_by (meanings_in c.args.scope.now.names.now) c.args.scope.now.file (formals_in c.args.scope.now.formals.now))) c.as_slice.result.now ≡ [] = rw c.as_slice.ensures (args_resolved (meant_by (meanings_in c.args.scope.now.names.now) c.args.scope.now.file (formals_in c.args.scope.now.formals.now)) c.args.actual.now c.requires.resolved) in
    (omega (arith, size_out c.args.actual.now, ap (λ k. length (flat_map refs k)) c.as_slice.ensures, c.decreases), (c.requires.few, stands))

pub joined_actual-returns : goal.joined_actual-returns
joined_actual-returns t c = resolved_with (meant_by (meanings_in c.args.scope.now.names.now) c.args.scope.now.file (formals_in c.args.scope.now.formals.now)) c.args.actual.now c.unwrap-head.result c.in_ok-args.args (sym c.unwrap-head.ensures ∙ c.head_of.ensures) (rw c.as_slice.ensures at c.in_ok-args.ensures)

pub joined_actuals-joined_actual-requires : goal.joined_actuals-joined_actual-requires
joined_actuals-joined_actual-requires t c =
    let stands : undefined_in_actual false (meant_by (meanings_in c.args.scope.now.names.now) c.args.scope.now.file (formals_in c.args.scope.now.formals.now)) c.actual-item.result ≡ [] = nil_at (undefined_in_actual false (meant_by (meanings_in c.args.scope.now.names.now) c.args.scope.now.file (formals_in c.args.scope.now.formals.now))) c.args.actuals.now c.loop-actual.actual-index c.actual-item.result c.loop-actual-test.true c.actual-item.is c.requires.resolved in
    (omega (arith, size_item c.args.actuals.now c.loop-actual.actual-index c.actual-item.result c.loop-actual-test.true c.actual-item.is, c.decreases), (c.requires.few, stands))

pub joined_actuals-loop-actual-preserved : goal.joined_actuals-loop-actual-preserved
joined_actuals-loop-actual-preserved t c = somes_more (resolved (meant_by (meanings_in c.args.scope.now.names.now) c.args.scope.now.file (formals_in c.args.scope.now.formals.now))) [] c.args.actuals.now c.loop-actual.actual-index c.actual-item.result c.loop-actual.joined c.push.new.self c.in_ok-joined_actual.field-0 c.loop-actual-test.true c.actual-item.is c.loop-actual.invariant c.in_ok-joined_actual.ensures c.in_ok-push.ensures.ok
