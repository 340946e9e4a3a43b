use Rattle.std.proofs.Common.{◌≡◌, drop}
use Rattle.mh_sample.specs.code.Chains.{lex_less}
use Rattle.mh_sample.proofs.order.is_lower.Given as goal

abbrev pub invariant-loop-place : goal.invariant-loop-place
invariant-loop-place l = lex_less (drop l.place l.word) (drop l.place l.other) ≡ lex_less l.word l.other
