use Rattle.std.proofs.Common.{take}
use Rattle.mh_reader_parser.specs.code.DepthLimit.{IsStateShallow}
use Rattle.mh_reader_parser.specs.TokenKinds.{file_tokens}
use Rattle.mh_reader_parser.proofs.ParserExact.{HasReadTokens}
use Rattle.mh_reader_parser.proofs.reading.read_lexemes.Given as goal

abbrev pub invariant-loop-lexeme : goal.invariant-loop-lexeme
invariant-loop-lexeme l = record {
  goes : HasReadTokens (file_tokens l.bytes (take l.lexeme-index l.lexemes)) l.reader;
  shallow : IsStateShallow l.reader.place;
}
