use Rattle.std.proofs.Common.{◌≤◌, arith, get_or, length, refl}
use Rattle.std.proofs.lemmas.List.{take_all}
use Rattle.mh_reach_rests.proofs.RestNumbers.{none_added, one_added}
use Rattle.mh_reach_rests.proofs.numbering.add_tokens.Goals as goal

pub loop-token-init : goal.loop-token-init
loop-token-init c = none_added c.args.tokens.now c.args.made.now.items

pub loop-token-preserved : goal.loop-token-preserved
loop-token-preserved c = one_added c.args.tokens.now c.loop-token.token-index 0 (get_or c.args.tokens.now c.loop-token.token-index 0) c.args.made.now.items c.loop-token.made.items c.push.new.self.items c.loop-token-test.true refl c.loop-token.invariant c.in_ok-push.ensures.items

pub returns : goal.returns
returns c =
    let past : length c.args.tokens.now ≤ c.loop-token.token-index = (let a = c.loop-token-test.false in omega (arith, a)) in
    rw (take_all c.loop-token.token-index c.args.tokens.now past) at c.loop-token.invariant
