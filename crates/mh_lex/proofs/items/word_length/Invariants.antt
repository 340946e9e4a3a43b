use Rattle.std.proofs.Common.{◌≡◌, ◌+◌, drop}
use Rattle.mh_lex.specs.LexemeLengths.{word_rest}
use Rattle.mh_lex.proofs.items.word_length.Given as goal

abbrev pub invariant-loop-byte : goal.invariant-loop-byte
invariant-loop-byte l = (l.length ≡ l.byte-index) × (word_rest l.rest ≡ word_rest (drop l.byte-index l.rest) + l.byte-index)
