use Rattle.std.proofs.Common.{◌≡◌, ◌++◌, drop}
use Rattle.std.specs.List.{flat_map}
use Rattle.mh_lex.specs.LexemeTexts.{laid_out}
use Rattle.mh_reader.specs.code.Printed.{level_pieces}
use Rattle.mh_reader.proofs.printing.write_levels.Given as goal

abbrev pub invariant-loop-level : goal.invariant-loop-level
invariant-loop-level l = l.text.items ++ laid_out (flat_map level_pieces (drop l.level-index l.levels)) ≡ l.initial.text.items ++ laid_out (flat_map level_pieces l.levels)
