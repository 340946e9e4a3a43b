use Rattle.std.proofs.Common.{◌≡◌, ◌++◌, drop}
use Rattle.std.specs.List.{flat_map}
use Rattle.mh_lex.specs.LexemeTexts.{laid_out}
use Rattle.mh_reader.specs.code.Printed.{on_error_pieces}
use Rattle.mh_reader.proofs.printing.write_on_error.Given as goal

abbrev pub invariant-loop-list : goal.invariant-loop-list
invariant-loop-list l = l.text.items ++ laid_out (flat_map on_error_pieces (drop l.list-index l.lists)) ≡ l.initial.text.items ++ laid_out (flat_map on_error_pieces l.lists)
