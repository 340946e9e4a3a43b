use Rattle.std.proofs.Common.{◌≡◌, ◌++◌, map, drop}
use Rattle.mh_msgfile.specs.LooseFiles.{loose_line}
use Rattle.mh_msgfile.proofs.loose.lines_of_block.Given as goal

abbrev pub invariant-loop-line : goal.invariant-loop-line
invariant-loop-line l = l.sentences ++ map (loose_line l.lines) (drop l.line-index l.block) ≡ map (loose_line l.lines) l.block
