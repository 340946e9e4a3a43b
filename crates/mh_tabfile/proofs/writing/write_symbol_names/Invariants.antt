use Rattle.std.proofs.Common.{◌≡◌, ◌++◌, drop, map}
use Rattle.mh_grammar.specs.Names.{symbol_name}
use Rattle.mh_tabfile.specs.code.Texts.{words_after}
use Rattle.mh_tabfile.proofs.writing.write_symbol_names.Given as goal

abbrev pub invariant-loop-symbol : goal.invariant-loop-symbol
invariant-loop-symbol l = record {
  rest : l.text.items ++ words_after (map (symbol_name l.grammar) (drop l.symbol-index l.symbols)) ≡ l.initial.text.items ++ words_after (map (symbol_name l.grammar) l.symbols);
}
