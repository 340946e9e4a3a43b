use Rattle.std.proofs.Common.{◌≤◌, ◌-◌, length}
use Rattle.mh_lex.proofs.LexesUnique.{LexedSoFar}
use Rattle.mh_lex.specs.Lexing.{AreLexemesInOrder}
use Rattle.mh_lex.proofs.scanning.lex_placed.Given as goal

abbrev pub invariant-loop-left : goal.invariant-loop-left
invariant-loop-left l = record {
  so_far : LexedSoFar l.bytes l.at l.left l.lexemes.items;
  rises : AreLexemesInOrder 0 l.at l.lexemes.items;
  within : l.at ≤ length l.bytes;
  left : l.left ≤ 2;
}

abbrev pub decreases-loop-left : goal.decreases-loop-left
decreases-loop-left l = length l.bytes - l.at
