use Rattle.std.proofs.Common.{◌≡◌, ◌++◌, drop, reverse}
use Rattle.mh_sample.proofs.writing.put_front.Given as goal

abbrev pub invariant-loop-place : goal.invariant-loop-place
invariant-loop-place l = l.pending.items ≡ l.fn.pending.items ++ reverse (drop l.place l.symbols)
