use Rattle.std.proofs.Common.{◌≡◌, take, Some}
use Rattle.std.specs.List.{AllZip, slice_get}
use Rattle.mh_pager.proofs.numbering.pick.Given as goal

abbrev pub invariant-loop-state : goal.invariant-loop-state
invariant-loop-state g l = AllZip (λ n k. slice_get l.kernels n ≡ Some k) (take l.state-index l.states) l.all
