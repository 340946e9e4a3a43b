use Rattle.std.proofs.Common.{◌↔◌, drop}
use Rattle.mh_sample.specs.code.Chains.{chain, IsWithin}
use Rattle.mh_sample.proofs.chains.fits.Given as goal

abbrev pub invariant-loop-symbol : goal.invariant-loop-symbol
invariant-loop-symbol l = IsWithin l.left (chain l.words (drop l.symbol-index l.symbols)) ↔ IsWithin l.limit (chain l.words l.symbols)
