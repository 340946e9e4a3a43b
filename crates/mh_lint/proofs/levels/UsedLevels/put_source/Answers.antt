use Rattle.std.proofs.Common.{refl, subst, sym}
use Rattle.std.proofs.lemmas.Result.{on_ok_weaker}
use Rattle.mh_lint.specs.code.LevelUses.{AddsUses, IsPrecSource, IsTokenSource}
use Rattle.mh_lint.proofs.AreUsedLevels.{no_source, prec_source_added, token_source_added}
use Rattle.mh_lint.proofs.levels.UsedLevels.put_source.Goals as goal

pub returns-in-None : goal.returns-in-None
returns-in-None c = subst (λ s. AddsUses (IsTokenSource c.args.tokens.now s) (IsPrecSource s) c.args.self.now c.args.self.now) (sym c.in-None.is) (no_source c.args.tokens.now c.args.self.now)

pub returns-in-Token : goal.returns-in-Token
returns-in-Token c = on_ok_weaker c.put_token.result (λ g. subst (λ s. AddsUses (IsTokenSource c.args.tokens.now s) (IsPrecSource s) c.args.self.now c.put_token.new.self) (sym c.in-Token.is) (token_source_added c.args.tokens.now c.in-Token.token c.args.self.now c.put_token.new.self g)) c.put_token.ensures

pub returns-in_ok-put_key-in-Prec : goal.returns-in_ok-put_key-in-Prec
returns-in_ok-put_key-in-Prec c =
    let old = c.args.self.now in
    let new = record old { alternatives = c.put_key.new.set } in
    subst (λ s. AddsUses (IsTokenSource c.args.tokens.now s) (IsPrecSource s) old new) (sym c.in-Prec.is) (prec_source_added c.args.tokens.now c.in-Prec.file c.in-Prec.alternative old new (λ x. refl) c.in_ok-put_key-in-Prec.ensures.keys)
