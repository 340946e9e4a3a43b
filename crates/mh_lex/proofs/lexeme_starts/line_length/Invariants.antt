use Rattle.std.proofs.Common.{◌≡◌, ◌+◌, drop}
use Rattle.mh_lex.specs.LexemeStarts.{line_rest}
use Rattle.mh_lex.proofs.lexeme_starts.line_length.Given as goal

abbrev pub invariant-loop-byte : goal.invariant-loop-byte
invariant-loop-byte l = (l.length ≡ l.byte-index) × (line_rest l.rest ≡ line_rest (drop l.byte-index l.rest) + l.byte-index)
