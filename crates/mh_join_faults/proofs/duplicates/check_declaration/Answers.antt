use Rattle.mh_rules.specs.declared.modules.Ref.{Ref}
use Rattle.mh_join_names.specs.Names.{name_by, level_in}
use Rattle.mh_join_names.specs.Faults.{other_level}
use Rattle.mh_join_names.specs.code.SymbolTables.{meanings_in}
use Rattle.mh_join_names.proofs.ReportsFirst.{finds_more, finds_err}
use Rattle.mh_join_faults.proofs.duplicates.check_declaration.Goals as goal

pub loop-reference-preserved : goal.loop-reference-preserved
loop-reference-preserved c = finds_more (λ (r : Ref). other_level (meanings_in c.args.names.now) (level_in c.args.file c.args.rank c.args.declared.now.assoc) (name_by (meanings_in c.args.names.now).aliased r)) c.as_slice-reference-items.result.now c.loop-reference.reference-index c.reference-item.result c.loop-reference-test.true c.reference-item.is c.loop-reference.invariant c.in_default.ensures

pub returns-in-Err : goal.returns-in-Err
returns-in-Err c = rw c.as_slice-reference-items.ensures at (finds_err (λ (r : Ref). other_level (meanings_in c.args.names.now) (level_in c.args.file c.args.rank c.args.declared.now.assoc) (name_by (meanings_in c.args.names.now).aliased r)) c.as_slice-reference-items.result.now c.loop-reference.reference-index c.reference-item.result c.loop-reference-test.true c.reference-item.is c.loop-reference.invariant c.in-Err.fault c.in-Err.ensures)
