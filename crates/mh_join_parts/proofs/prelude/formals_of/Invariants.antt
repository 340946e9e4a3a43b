use Rattle.std.proofs.Common.{◌≡◌, map, take}
use Rattle.mh_join_parts.proofs.prelude.formals_of.Given as goal

abbrev pub invariant-loop-name : goal.invariant-loop-name
invariant-loop-name l = l.formals ≡ map (λ n. n.now) (take l.name-index l.names)
