use Rattle.std.proofs.Common.{List, ◌∷◌, map, decimal, refl}
use Rattle.mh_grammar.specs.Costs.{costs_of}
use Rattle.mh_grammar.specs.declared.types.TokenInfo.{TokenInfo}
use Rattle.mh_tabfile.specs.code.Texts.{words_after}
use Rattle.mh_tabfile.proofs.LinesWritten.{item_more}
use Rattle.mh_tabfile.proofs.writing.write_token_costs.Goals as goal

pub loop-token-preserved : goal.loop-token-preserved
loop-token-preserved c =
    let i = c.loop-token.token-index in
    let now = c.loop-token.text.items in
    record {
      rest = item_more (λ (xs : List TokenInfo). words_after (map decimal (costs_of xs))) c.args.tokens.now i c.token-item.result c.token-item.result (32 ∷ decimal c.token-item.result.cost)
          c.args.text.now.items now c.write_numeral.new.text.items c.loop-token-test.true c.token-item.is refl c.in_ok-write_numeral.ensures c.loop-token.invariant.rest;
    }
