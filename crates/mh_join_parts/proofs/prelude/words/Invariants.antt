use Rattle.std.proofs.Common.{◌≡◌, map, take}
use Rattle.mh_join_names.specs.Prelude.{words}
use Rattle.mh_join_parts.proofs.prelude.words.Given as goal

abbrev pub invariant-loop-name : goal.invariant-loop-name
invariant-loop-name l = l.actuals ≡ words (map (λ n. n.now) (take l.name-index l.names))
