use Rattle.std.proofs.Common.{Some, ap, false, sym, true, ◌∙◌}
use Rattle.std.proofs.lemmas.Bool.{false≢true}
use Rattle.std.proofs.lemmas.Option.{same_Some, slice_get-get_or}
use Rattle.mh_lint.specs.code.LevelUses.{NoPlace}
use Rattle.mh_lint.proofs.AddsUses.{none_below}
use Rattle.mh_lint.proofs.AreUsedLevels.{TokenAt, all_tokens, token_more, token_skipped}
use Rattle.mh_lint.proofs.levels.UsedLevels.put_tokens.Goals as goal
use Rattle.mh_lint.proofs.levels.UsedLevels.put_tokens.Goals.{then-is_compared+in_ok-put_token, else-is_compared}

pub loop-token-init : goal.loop-token-init
loop-token-init c = none_below (TokenAt c.args.tokens.now c.args.compared.now) (λ z. NoPlace) c.args.self.now

pub loop-token-preserved : goal.loop-token-preserved
loop-token-preserved c =
    let tokens = c.args.tokens.now in
    let compared = c.args.compared.now in
    let i = c.loop-token.token in
    let flag = slice_get-get_or compared i false c.loop-token-test.true in
    elim c.if-is_compared.branch [
      | then-is_compared+in_ok-put_token w ↦ rw w.self-is (token_more tokens compared i c.args.self.now c.loop-token.self w.put_token.new.self (flag ∙ ap Some w.if-is_compared.true) c.loop-token.invariant w.in_ok-put_token.ensures)
      | else-is_compared w ↦ rw w.self-is (token_skipped tokens compared i c.args.self.now c.loop-token.self (λ e. false≢true (sym w.if-is_compared.false ∙ same_Some _ true (sym flag ∙ e))) c.loop-token.invariant)
    ]

pub returns : goal.returns
returns c = all_tokens c.args.tokens.now c.args.compared.now c.loop-token.token c.args.self.now c.loop-token.self c.loop-token-test.false c.loop-token.invariant
