use Rattle.std.proofs.Common.{None, []}
use Rattle.mh_join_names.specs.Faults.{undefined_start}
use Rattle.mh_join_names.specs.code.SymbolTables.{meanings_in}
use Rattle.mh_join_names.proofs.Resolved.{nil_at, somes_more}
use Rattle.mh_join_parts.proofs.building.put_starts.Goals as goal

pub loop-name-preserved : goal.loop-name-preserved
loop-name-preserved c = somes_more ((meanings_in c.args.names.now).numbers.rule None) [] c.as_slice-name-items.result.now c.loop-name.name-index c.name-item.result c.loop-name.starts c.push.new.self c.start_number.result c.loop-name-test.true c.name-item.is c.loop-name.invariant c.start_number.ensures c.in_ok-push.ensures.ok

pub start_number-requires : goal.start_number-requires
start_number-requires c = nil_at (undefined_start (meanings_in c.args.names.now)) c.as_slice-name-items.result.now c.loop-name.name-index c.name-item.result c.loop-name-test.true c.name-item.is (rw c.as_slice-name-items.ensures c.requires.resolved)
