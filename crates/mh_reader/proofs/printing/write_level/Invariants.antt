use Rattle.std.proofs.Common.{◌≡◌, ◌++◌, map, drop}
use Rattle.mh_lex.specs.LexemeTexts.{laid_out}
use Rattle.mh_reader_parser.specs.code.Pieces.{ref_piece}
use Rattle.mh_reader.proofs.printing.write_level.Given as goal

abbrev pub invariant-loop-name : goal.invariant-loop-name
invariant-loop-name l = l.text.items ++ laid_out (map ref_piece (drop l.name-index l.level.names)) ≡ l.initial.text.items ++ laid_out (map ref_piece l.level.names)
