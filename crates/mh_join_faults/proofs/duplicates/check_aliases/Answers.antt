use Rattle.mh_rules.specs.declared.modules.TokenDecl.{TokenDecl}
use Rattle.mh_join_names.specs.Faults.{other_token}
use Rattle.mh_join_names.specs.code.SymbolTables.{meanings_in}
use Rattle.mh_join_names.proofs.ReportsFirst.{finds_more, finds_err}
use Rattle.mh_join_faults.proofs.duplicates.check_aliases.Goals as goal

pub loop-token-preserved : goal.loop-token-preserved
loop-token-preserved c = finds_more (λ (t : TokenDecl). other_token (meanings_in c.args.names.now) t.name t.alias) c.as_slice-token-items.result.now c.loop-token.token-index c.token-item.result c.loop-token-test.true c.token-item.is c.loop-token.invariant c.in_default.ensures

pub returns-in-Err : goal.returns-in-Err
returns-in-Err c = rw c.as_slice-token-items.ensures at (finds_err (λ (t : TokenDecl). other_token (meanings_in c.args.names.now) t.name t.alias) c.as_slice-token-items.result.now c.loop-token.token-index c.token-item.result c.loop-token-test.true c.token-item.is c.loop-token.invariant c.in-Err.fault c.in-Err.ensures)
