use Rattle.std.proofs.Common.{◌≡◌, ◌++◌, drop}
use Rattle.std.specs.List.{flat_map}
use Rattle.mh_lex.specs.LexemeTexts.{laid_out}
use Rattle.mh_reader.specs.code.Printed.{start_pieces}
use Rattle.mh_reader.proofs.printing.write_starts.Given as goal

abbrev pub invariant-loop-start : goal.invariant-loop-start
invariant-loop-start l = l.text.items ++ laid_out (flat_map start_pieces (drop l.start-index l.starts)) ≡ l.initial.text.items ++ laid_out (flat_map start_pieces l.starts)
