use Rattle.std.proofs.Common.{◌≡◌, ◌++◌, drop, map}
use Rattle.mh_grammar.specs.Names.{nonterminal_name}
use Rattle.mh_tabfile.specs.code.Texts.{words_after}
use Rattle.mh_tabfile.proofs.writing.write_start_names.Given as goal

abbrev pub invariant-loop-start : goal.invariant-loop-start
invariant-loop-start l = record {
  rest : l.text.items ++ words_after (map (nonterminal_name l.grammar) (drop l.start-index l.starts)) ≡ l.initial.text.items ++ words_after (map (nonterminal_name l.grammar) l.starts);
}
