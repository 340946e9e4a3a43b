use Rattle.std.proofs.Common.{◌≡◌, false, take, vec_len}
use Rattle.std.specs.List.{All}
use Rattle.mh_tables.specs.code.Passages.{IsBoundHighEnough}
use Rattle.mh_tables.proofs.bounds.raise_forward.Given as goal

abbrev pub invariant-loop-passage : goal.invariant-loop-passage
invariant-loop-passage l = record {
  size : vec_len l.bounds ≡ vec_len l.fn.bounds;
  lifted : l.lower ≡ false → All (IsBoundHighEnough l.bounds.items) (take l.passage-index l.passages);
}
