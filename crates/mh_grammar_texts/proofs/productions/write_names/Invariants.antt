use Rattle.std.proofs.Common.{◌≡◌, ◌++◌, drop}
use Rattle.mh_grammar_texts.specs.Productions.{spaced_symbols}
use Rattle.mh_grammar_texts.proofs.productions.write_names.Given as goal

abbrev pub invariant-loop-symbol : goal.invariant-loop-symbol
invariant-loop-symbol l = record {
  rest : l.text.items ++ spaced_symbols l.grammar (drop l.symbol-index l.symbols) ≡ l.initial.text.items ++ spaced_symbols l.grammar l.symbols;
}
