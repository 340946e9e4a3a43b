use Rattle.std.proofs.Common.{◌≡◌, true, take}
use Rattle.mh_grammar.specs.Marked.{all_marked}
use Rattle.mh_grammar.proofs.marks.are_marked.Given as goal

abbrev pub invariant-loop-symbol : goal.invariant-loop-symbol
invariant-loop-symbol l = all_marked l.tokens l.marks (take l.symbol-index l.symbols) ≡ true
