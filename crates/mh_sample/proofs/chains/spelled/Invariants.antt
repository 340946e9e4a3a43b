use Rattle.std.proofs.Common.{◌≡◌, Some, drop}
use Rattle.mh_sample.specs.code.Chains.{chain, joined}
use Rattle.mh_sample.proofs.chains.spelled.Given as goal

abbrev pub invariant-loop-symbol : goal.invariant-loop-symbol
invariant-loop-symbol l = joined (Some l.tokens.items) (chain l.words (drop l.symbol-index l.symbols)) ≡ chain l.words l.symbols
