use Rattle.std.proofs.Common.{arith}
use Rattle.mh_lex.specs.declared.kinds.Kind.TheVariants.{Word}
use Rattle.mh_lex.specs.declared.kinds.Lexeme.{Lexeme}
use Rattle.std.proofs.Common.{get_or, length, refl}
use Rattle.mh_reader_parser.proofs.ParserExact as exact
use Rattle.mh_reader_parser.proofs.reading.read_lexemes.Goals as goal

abbrev none : Lexeme
none = record { kind = Word; start = 0; end = 0 }

pub returns-in-Err-Unexpected-clause-fault : goal.returns-in-Err-Unexpected-clause-fault
returns-in-Err-Unexpected-clause-fault c =
    exact.unexpected_lexeme_at c.args.bytes.now c.args.lexemes.now c.loop-lexeme.lexeme-index none c.loop-lexeme.reader (get_or c.args.lexemes.now c.loop-lexeme.lexeme-index none).start (omega arith) c.loop-lexeme.invariant.goes
    (rw c.in-Err-Unexpected.field-0-is at c.in-Err-Unexpected.ensures) refl

pub loop-lexeme-preserved : goal.loop-lexeme-preserved
loop-lexeme-preserved c = record {
  goes = exact.HasReadTokens-at c.args.bytes.now c.args.lexemes.now c.loop-lexeme.lexeme-index none c.loop-lexeme.reader c.in-Ok.next (omega arith) c.loop-lexeme.invariant.goes c.in-Ok.ensures;
  shallow = exact.shallow_at c.args.bytes.now (get_or c.args.lexemes.now c.loop-lexeme.lexeme-index none) c.loop-lexeme.reader c.in-Ok.next c.loop-lexeme.invariant.shallow c.in-Ok.ensures;
}

pub returns-in-Ok-ended-clause-spelled : goal.returns-in-Ok-ended-clause-spelled
returns-in-Ok-ended-clause-spelled c =
    exact.file_at_end_at c.args.bytes.now c.args.lexemes.now c.loop-lexeme.lexeme-index c.loop-lexeme.reader c.in-Ok-ended.made (omega arith) c.loop-lexeme.invariant.goes c.in-Ok-ended.ensures

pub returns-in-Err-Unexpected-ended-clause-fault : goal.returns-in-Err-Unexpected-ended-clause-fault
returns-in-Err-Unexpected-ended-clause-fault c =
    exact.unexpected_end_at c.args.bytes.now c.args.lexemes.now c.loop-lexeme.lexeme-index c.loop-lexeme.reader (length c.args.bytes.now) (omega arith) c.loop-lexeme.invariant.goes
    (rw c.in-Err-Unexpected-ended.field-0-is at c.in-Err-Unexpected-ended.ensures) refl
