use Rattle.std.proofs.Common.{◌<◌, take, slice_index_or}
use Rattle.std.specs.List.{All}
use Rattle.mh_inline.proofs.ranks.are_below.Given as goal

abbrev pub invariant-loop-number : goal.invariant-loop-number
invariant-loop-number l = All (λ m. slice_index_or l.ranks m 0 < l.bound) (take l.number-index l.numbers)
