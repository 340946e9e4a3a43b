use Rattle.std.proofs.Common.{ℕ, List, ◌∷◌, ◌++◌, map, ap, refl, ◌∙◌}
use Rattle.mh_grammar.specs.declared.types.TokenInfo.{TokenInfo}
use Rattle.mh_tabfile.specs.code.Texts.{words_after}
use Rattle.mh_tabfile.proofs.LinesWritten.{item_more}
use Rattle.mh_tabfile.proofs.writing.write_token_names.Goals as goal

pub loop-token-preserved : goal.loop-token-preserved
loop-token-preserved c =
    let i = c.loop-token.token-index in
    let now = c.loop-token.text.items in
    record {
      rest = item_more (λ (xs : List TokenInfo). words_after (map (λ (t : TokenInfo). t.name) xs)) c.args.tokens.now i c.token-item.result c.token-item.result (32 ∷ c.token-item.result.name)
          c.args.text.now.items now c.write_word.new.text.items c.loop-token-test.true c.token-item.is refl (c.in_ok-write_word.ensures ∙ ap (λ (w : List ℕ). now ++ 32 ∷ w) c.as_slice.ensures) c.loop-token.invariant.rest;
    }
