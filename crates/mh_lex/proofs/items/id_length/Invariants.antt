use Rattle.std.proofs.Common.{◌≡◌, ◌+◌, drop}
use Rattle.mh_lex.specs.LexemeLengths.{id_rest}
use Rattle.mh_lex.proofs.items.id_length.Given as goal

abbrev pub invariant-loop-byte : goal.invariant-loop-byte
invariant-loop-byte l = (l.length ≡ l.byte-index) × (id_rest l.rest ≡ id_rest (drop l.byte-index l.rest) + l.byte-index)
