use Rattle.std.proofs.Common.{arith, length, sym, subst}
use Rattle.mh_lex.proofs.LexesUnique as takes
use Rattle.mh_lex.proofs.LexemesInOrder as spans
use Rattle.mh_lex.proofs.scanning.lex_placed.Goals as goal

pub returns-in-Ended-clause-lexemes : goal.returns-in-Ended-clause-lexemes
returns-in-Ended-clause-lexemes c = takes.LexedSoFar-ended c.args.bytes.now c.loop-left.at c.loop-left.left c.loop-left.lexemes.items c.loop-left.invariant.so_far (omega arith) c.in-Ended.ensures

pub loop-left-preserved : goal.loop-left-preserved
loop-left-preserved c = record {
  so_far = subst (λ k. takes.LexedSoFar c.args.bytes.now c.in-Piece.end k c.add.new.lexemes.items) (sym c.still_left-left.ensures.value)
      (takes.LexedSoFar-next c.args.bytes.now c.loop-left.at c.loop-left.left c.in-Piece.end c.loop-left.lexemes.items c.add.new.lexemes.items c.in-Piece.what c.loop-left.invariant.so_far (omega arith)
      c.in-Piece.ensures.0 c.in-Piece.ensures.1 c.in-Piece.ensures.2 c.in-Ok.ensures);
  rises = spans.AreLexemesInOrder-next c.loop-left.at c.in-Piece.end c.in-Piece.what c.loop-left.lexemes.items c.add.new.lexemes.items c.loop-left.invariant.rises c.in-Piece.ensures.0 c.in-Ok.ensures;
  within = c.in-Piece.ensures.1;
  left = omega (arith, c.still_left-left.ensures.within);
}

pub returns-in-Fault-clause-fault : goal.returns-in-Fault-clause-fault
returns-in-Fault-clause-fault c = (
  c.loop-left.lexemes.items,
  takes.LexedSoFar-fault c.args.bytes.now c.loop-left.at c.loop-left.left c.loop-left.lexemes.items c.loop-left.invariant.so_far (omega arith) c.loop-left.invariant.within c.in-Fault.ensures.0 c.in-Fault.ensures.1,
)

pub returns-in-Fault-clause-bound : goal.returns-in-Fault-clause-bound
returns-in-Fault-clause-bound c = c.loop-left.invariant.within

pub returns-clause-lexemes : goal.returns-clause-lexemes
returns-clause-lexemes c = takes.LexedSoFar-trailer c.args.bytes.now c.loop-left.at c.loop-left.left c.loop-left.lexemes.items c.loop-left.invariant.so_far (omega arith)

pub returns-in-Ended-clause-spans : goal.returns-in-Ended-clause-spans
returns-in-Ended-clause-spans c = spans.AreLexemesInOrder-longer 0 c.loop-left.at (length c.args.bytes.now) c.loop-left.lexemes.items c.loop-left.invariant.rises c.loop-left.invariant.within

pub returns-clause-spans : goal.returns-clause-spans
returns-clause-spans c = spans.AreLexemesInOrder-longer 0 c.loop-left.at (length c.args.bytes.now) c.loop-left.lexemes.items c.loop-left.invariant.rises c.loop-left.invariant.within

pub returns-in-Ended-clause-within : goal.returns-in-Ended-clause-within
returns-in-Ended-clause-within c = spans.AreLexemesInOrder-within 0 (length c.args.bytes.now) c.loop-left.lexemes.items
    (spans.AreLexemesInOrder-longer 0 c.loop-left.at (length c.args.bytes.now) c.loop-left.lexemes.items c.loop-left.invariant.rises c.loop-left.invariant.within)

pub returns-clause-within : goal.returns-clause-within
returns-clause-within c = spans.AreLexemesInOrder-within 0 (length c.args.bytes.now) c.loop-left.lexemes.items
    (spans.AreLexemesInOrder-longer 0 c.loop-left.at (length c.args.bytes.now) c.loop-left.lexemes.items c.loop-left.invariant.rises c.loop-left.invariant.within)
