use Rattle.std.proofs.Common.{◌≡◌, ℕ, ◌<◌, Some, true, false, get_or}
use Rattle.std.specs.List.{slice_get}
use Rattle.mh_inline.proofs.inlining.first_empty.Given as goal

abbrev pub invariant-loop-place : goal.invariant-loop-place
invariant-loop-place l = (k s : ℕ) → k < l.place → slice_get l.starts k ≡ Some s → get_or l.marks s false ≡ true
