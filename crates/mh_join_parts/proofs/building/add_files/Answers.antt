use Rattle.std.proofs.Common.{arith, ◌+◌, subst, List}
use Rattle.mh_join_names.specs.Names.{definitions_in}
use Rattle.mh_join_parts.specs.code.CanJoin.{unresolved_in_file, AddsAlternatives}
use Rattle.mh_join_names.specs.code.SymbolTables.{meanings_in}
use Rattle.mh_join_names.proofs.Resolved.{nil_enum_at}
use Rattle.mh_join_parts.proofs.AddsAlternatives.{AddsAlternatives-nothing, AddsAlternatives-enum_more}
use Rattle.std.specs.List.{flat_map, enumerate_from}
use Rattle.std.proofs.lemmas.List.{take_all}
use Rattle.mh_rules.specs.declared.modules.Module.{Module}
use Rattle.mh_join_parts.proofs.building.add_files.Goals as goal

pub loop-at-init : goal.loop-at-init
loop-at-init c = AddsAlternatives-nothing (meanings_in c.args.names.now) c.args.joined.now

pub loop-at-preserved : goal.loop-at-preserved
loop-at-preserved c = AddsAlternatives-enum_more (meanings_in c.args.names.now) (definitions_in c.args.names.now.starts.keys) c.args.joined.now c.loop-at.joined c.add_file.new.joined 1 c.args.modules.now c.loop-at.at (c.loop-at.at + 1) c.index-modules-at.result c.loop-at-test.true c.index-modules-at.is (omega arith) c.loop-at.invariant (rw c.as_slice.ensures at c.in_ok-add_file.ensures)

pub add_file-requires-clause-resolved : goal.add_file-requires-clause-resolved
add_file-requires-clause-resolved c = rw c.as_slice.ensures (nil_enum_at (unresolved_in_file (meanings_in c.args.names.now)) 1 c.args.modules.now c.loop-at.at (c.loop-at.at + 1) c.index-modules-at.result c.loop-at-test.true c.index-modules-at.is (omega arith) c.requires.resolved)

pub returns : goal.returns
returns c = subst (λ (xs : List Module). AddsAlternatives (meanings_in c.args.names.now) (flat_map (definitions_in c.args.names.now.starts.keys) (enumerate_from 1 xs)) c.args.joined.now c.loop-at.joined) (take_all c.loop-at.at c.args.modules.now c.loop-at-test.false) c.loop-at.invariant
