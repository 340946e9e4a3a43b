use Rattle.std.proofs.Common.{◌≡◌, ◌++◌}
use Rattle.mh_sample.specs.Texts.{each_from, token_line}
use Rattle.mh_sample.proofs.texts.write_tokens.Given as goal

abbrev pub invariant-loop-place : goal.invariant-loop-place
invariant-loop-place l = l.text.items ≡ l.initial.text.items ++ each_from token_line 1 l.place
