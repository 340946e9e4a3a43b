use Rattle.std.proofs.Common.{refl, Some, map, ◌+◌}
use Rattle.mh_join_names.specs.Faults.{meant_by}
use Rattle.mh_join_names.specs.Joining.{alternative_by}
use Rattle.mh_join_parts.specs.code.CanJoin.{unresolved}
use Rattle.mh_join_names.specs.code.SymbolTables.{meanings_in, formals_in}
use Rattle.mh_join_names.proofs.Resolved.{nil_at, somes_enum_more}
use Rattle.mh_join_parts.proofs.building.add_alternatives.Goals as goal

pub loop-at-preserved : goal.loop-at-preserved
loop-at-preserved c = somes_enum_more (alternative_by (meanings_in c.args.scope.now.names.now) c.args.scope.now.file (meant_by (meanings_in c.args.scope.now.names.now) c.args.scope.now.file (formals_in c.args.scope.now.formals.now))) (map Some c.args.joined.now) c.args.place c.args.alternatives.now c.loop-at.at (c.args.place + c.loop-at.at) c.index-alternatives-at.result c.loop-at.joined c.push.new.self c.in_ok-joined_alternative.field-0 c.loop-at-test.true c.index-alternatives-at.is refl c.loop-at.invariant c.in_ok-joined_alternative.ensures c.in_ok-push.ensures.ok

pub joined_alternative-requires-clause-resolved : goal.joined_alternative-requires-clause-resolved
joined_alternative-requires-clause-resolved c = nil_at (unresolved (meant_by (meanings_in c.args.scope.now.names.now) c.args.scope.now.file (formals_in c.args.scope.now.formals.now))) c.args.alternatives.now c.loop-at.at c.index-alternatives-at.result c.loop-at-test.true c.index-alternatives-at.is c.requires.resolved
