use Rattle.std.proofs.Common.{map, take}
use Rattle.mh_msgfile.specs.code.LineSteps.{AreNumbers}
use Rattle.mh_msgfile.specs.StartNames.{start_symbol_name}
use Rattle.mh_msgfile.proofs.lexicon.number_starts.Given as goal

abbrev pub invariant-loop-number : goal.invariant-loop-number
invariant-loop-number l = AreNumbers (map (start_symbol_name l.grammar) (take l.number l.grammar.starts)) l.numbers.entries
