use Rattle.std.proofs.Common.{Some}
use Rattle.mh_lint.proofs.WithSources.{tokens_step}
use Rattle.mh_lint.proofs.sources.source_tokens.Goals as goal

pub loop-number-preserved : goal.loop-number-preserved
loop-number-preserved c = tokens_step c.args.tokens.now c.loop-number.number c.index-tokens-number.result (record { name = c.in_ok-clone.field-0; level = Some c.token_source.result; cost = c.index-tokens-number.result.cost }) c.loop-number.sources c.push.new.self c.loop-number-test.true c.index-tokens-number.is c.loop-number.invariant (λ i. record { name = c.in_ok-clone.ensures.cases i; level = Some (c.token_source.ensures i); cost = c.index-tokens-number.result.cost }) c.in_ok-push.ensures.ok
