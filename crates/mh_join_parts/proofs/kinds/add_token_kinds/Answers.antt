use Rattle.std.proofs.Common.{◌∷◌, []}
use Rattle.mh_rules.specs.declared.modules.TokenDecl.{TokenDecl}
use Rattle.mh_join_names.specs.declared.kinds.NameKind.TheVariants as kinds
use Rattle.mh_join_names.proofs.Lists.{InsertsNew-more}
use Rattle.mh_join_parts.proofs.kinds.add_token_kinds.Goals as goal

pub loop-token-preserved : goal.loop-token-preserved
loop-token-preserved c = InsertsNew-more (λ (t : TokenDecl). (t.name, kinds.Token) ∷ []) c.args.kinds.now c.loop-token.kinds c.put_first.new.map c.args.tokens.now c.loop-token.token-index c.token-item.result c.loop-token-test.true c.token-item.is c.loop-token.invariant c.in_ok-put_first.ensures
