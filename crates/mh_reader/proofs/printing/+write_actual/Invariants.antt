use Rattle.std.proofs.Common.{◌≡◌, ◌++◌, map, drop}
use Rattle.mh_lex.specs.LexemeTexts.{laid_out}
use Rattle.mh_reader_parser.specs.code.Pieces.{bracket_end, actual_pieces}
use Rattle.mh_reader.proofs.printing.+write_actual.Given as goal

abbrev pub invariant-loop-other : goal.invariant-loop-other
invariant-loop-other l =
    l.text.items ++ laid_out (bracket_end (map actual_pieces (drop l.other-index l.others))) ≡ l.initial.text.items ++ laid_out (bracket_end (map actual_pieces l.others))
