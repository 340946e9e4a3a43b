use Rattle.std.proofs.Common.{◌≡◌, ℕ, ◌<◌, Some, false}
use Rattle.std.specs.List.{slice_get}
use Rattle.mh_inline_unfold.specs.Instances.{is_inlined}
use Rattle.mh_inline.proofs.inlining.first_inline_start.Given as goal

abbrev pub invariant-loop-start : goal.invariant-loop-start
invariant-loop-start l = (k m : ℕ) → k < l.start-index → slice_get l.expanded.starts k ≡ Some m → is_inlined l.expanded.instances m ≡ false
