use Rattle.mh_rules.specs.declared.modules.TokenDecl.{TokenDecl}
use Rattle.mh_join_names.specs.declared.kinds.NameKind.TheVariants as kinds
use Rattle.mh_join_names.specs.Faults.{other_kind}
use Rattle.mh_join_names.specs.code.SymbolTables.{meanings_in}
use Rattle.mh_join_names.proofs.ReportsFirst.{finds_more, finds_err}
use Rattle.mh_join_faults.proofs.duplicates.check_token_kinds.Goals as goal

pub loop-token-preserved : goal.loop-token-preserved
loop-token-preserved c = finds_more (λ (t : TokenDecl). other_kind (meanings_in c.args.names.now) kinds.Token t.name) c.args.tokens.now c.loop-token.token-index c.token-item.result c.loop-token-test.true c.token-item.is c.loop-token.invariant c.in_default.ensures

pub returns-in-Err : goal.returns-in-Err
returns-in-Err c = finds_err (λ (t : TokenDecl). other_kind (meanings_in c.args.names.now) kinds.Token t.name) c.args.tokens.now c.loop-token.token-index c.token-item.result c.loop-token-test.true c.token-item.is c.loop-token.invariant c.in-Err.fault c.in-Err.ensures
