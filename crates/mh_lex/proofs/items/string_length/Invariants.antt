use Rattle.std.proofs.Common.{◌≡◌, drop, false}
use Rattle.mh_lex.specs.LexemeLengths.{string_rest}
use Rattle.mh_lex.proofs.OptionalLength.{plus}
use Rattle.mh_lex.proofs.items.string_length.Given as goal

abbrev pub invariant-loop-place : goal.invariant-loop-place
invariant-loop-place l = string_rest false l.rest ≡ plus l.place (string_rest l.taken (drop l.place l.rest))
