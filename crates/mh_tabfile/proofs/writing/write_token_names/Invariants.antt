use Rattle.std.proofs.Common.{◌≡◌, ◌++◌, drop, map}
use Rattle.mh_tabfile.specs.code.Texts.{words_after}
use Rattle.mh_tabfile.proofs.writing.write_token_names.Given as goal

abbrev pub invariant-loop-token : goal.invariant-loop-token
invariant-loop-token l = record {
  rest : l.text.items ++ words_after (map (λ t. t.name) (drop l.token-index l.tokens)) ≡ l.initial.text.items ++ words_after (map (λ t. t.name) l.tokens);
}
