use Rattle.std.proofs.Common.{◌≡◌, drop}
use Rattle.mh_lex.specs.LexemeLengths.{quoted_rest}
use Rattle.mh_lex.proofs.OptionalLength.{plus}
use Rattle.mh_lex.proofs.items.quoted_length.Given as goal

abbrev pub invariant-loop-place : goal.invariant-loop-place
invariant-loop-place l = quoted_rest l.id l.rest ≡ plus l.place (quoted_rest l.id (drop l.place l.rest))
