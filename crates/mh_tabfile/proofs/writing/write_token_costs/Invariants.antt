use Rattle.std.proofs.Common.{◌≡◌, ◌++◌, drop, map, decimal}
use Rattle.mh_grammar.specs.Costs.{costs_of}
use Rattle.mh_tabfile.specs.code.Texts.{words_after}
use Rattle.mh_tabfile.proofs.writing.write_token_costs.Given as goal

abbrev pub invariant-loop-token : goal.invariant-loop-token
invariant-loop-token l = record {
  rest : l.text.items ++ words_after (map decimal (costs_of (drop l.token-index l.tokens))) ≡ l.initial.text.items ++ words_after (map decimal (costs_of l.tokens));
}
