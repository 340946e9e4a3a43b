use Rattle.std.proofs.Common.{◌≤◌, length, arith, refl}
use Rattle.std.proofs.lemmas.Option.{slice_get_read}
use Rattle.mh_lint.proofs.NamedTokens.{all_named, more_named, none_named}
use Rattle.mh_lint.proofs.warning_walk.mark_names.Goals as goal

pub loop-token-init : goal.loop-token-init
loop-token-init c = none_named c.args.tokens.now c.args.names.now c.args.used.now

pub mark_name-requires : goal.mark_name-requires
mark_name-requires c = let l = c.loop-token-test.true in let len = c.loop-token.invariant.len in let sized = c.requires in omega (arith, l, len, sized)

pub loop-token-preserved : goal.loop-token-preserved
loop-token-preserved c =
    let tokens = c.args.tokens.now in
    let n = c.loop-token.token in
    let name = c.index-tokens-token.result in
    more_named tokens c.args.names.now n name c.args.used.now c.loop-token.used c.mark_name.new.used (slice_get_read tokens (length tokens) n name refl c.loop-token-test.true c.index-tokens-token.is) c.loop-token.invariant c.mark_name.ensures

pub returns : goal.returns
returns c = all_named c.args.tokens.now c.args.names.now c.loop-token.token c.args.used.now c.loop-token.used (let past : length c.args.tokens.now ≤ c.loop-token.token = (let a = c.loop-token-test.false in omega (arith, a)) in past) c.loop-token.invariant
