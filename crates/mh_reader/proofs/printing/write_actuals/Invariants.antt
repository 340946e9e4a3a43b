use Rattle.std.proofs.Common.{◌≡◌, ◌++◌, drop}
use Rattle.std.specs.List.{flat_map}
use Rattle.mh_lex.specs.LexemeTexts.{laid_out}
use Rattle.mh_reader_parser.specs.code.Pieces.{actual_pieces}
use Rattle.mh_reader.proofs.printing.write_actuals.Given as goal

abbrev pub invariant-loop-actual : goal.invariant-loop-actual
invariant-loop-actual l = l.text.items ++ laid_out (flat_map actual_pieces (drop l.actual-index l.actuals)) ≡ l.initial.text.items ++ laid_out (flat_map actual_pieces l.actuals)
