use Rattle.std.proofs.Common.{◌≡◌, take, map, slice_index}
use Rattle.mh_inline.proofs.nonterminals.starts_of.Given as goal

abbrev pub invariant-loop-start : goal.invariant-loop-start
invariant-loop-start l = l.found.items ≡ map (slice_index l.numbers) (take l.start-index l.starts)
