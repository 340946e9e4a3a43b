use Rattle.std.proofs.Common.{rules, arith}
use Rattle.mh_grammar.specs.declared.types.TokenInfo.{TokenInfo}
use Rattle.mh_msgfile.proofs.AreNumbers.{item_put, none_put, all_put}
use Rattle.mh_msgfile.proofs.lexicon.number_tokens.Goals as goal

pub loop-number-preserved : goal.loop-number-preserved
loop-number-preserved c = item_put (λ (t : TokenInfo). t.name) c.args.tokens.now c.loop-number.number _ c.index-tokens-number.result _ _ _ (search (arith, rules)) c.index-tokens-number.is c.as_slice.ensures (search rules) c.loop-number.invariant c.in_ok-put_name.ensures

pub loop-number-init : goal.loop-number-init
loop-number-init c = none_put (λ (t : TokenInfo). t.name) c.args.tokens.now c.args.numbers.now.entries c.requires.none

pub returns : goal.returns
returns c = all_put (λ (t : TokenInfo). t.name) c.args.tokens.now c.loop-number.number c.loop-number.numbers.entries (search (arith, rules)) c.loop-number.invariant
