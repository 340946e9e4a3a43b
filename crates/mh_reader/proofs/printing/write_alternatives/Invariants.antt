use Rattle.std.proofs.Common.{◌≡◌, ◌++◌, drop}
use Rattle.std.specs.List.{flat_map}
use Rattle.mh_lex.specs.LexemeTexts.{laid_out}
use Rattle.mh_reader.specs.code.Printed.{alternative_pieces}
use Rattle.mh_reader.proofs.printing.write_alternatives.Given as goal

abbrev pub invariant-loop-alternative : goal.invariant-loop-alternative
invariant-loop-alternative l = l.text.items ++ laid_out (flat_map alternative_pieces (drop l.alternative-index l.alternatives)) ≡ l.initial.text.items ++ laid_out (flat_map alternative_pieces l.alternatives)
