use Rattle.std.proofs.Common.{[], ◌∷◌, arith, length-append}
use Rattle.std.proofs.lemmas.List.Elements.{All-push}
use Rattle.std.specs.HashMap.{IsEmpty}
use Rattle.mh_join_parts.proofs.numbering.put_maps.Goals as goal

pub loop-at-preserved : goal.loop-at-preserved
loop-at-preserved c = (
  rw (c.in_ok-push.ensures.items, length-append c.loop-at.maps.items (c.new.result ∷ [])) (omega arith),
  rw c.in_ok-push.ensures.items (All-push IsEmpty c.loop-at.maps.items c.new.result c.loop-at.invariant.1 c.new.ensures.empty),
)

pub returns-clause-len : goal.returns-clause-len
returns-clause-len c = rw (c.in_ok-push-2.ensures.items, length-append c.loop-at.maps.items (c.new-2.result ∷ [])) (omega arith)

pub returns-clause-empty : goal.returns-clause-empty
returns-clause-empty c = rw c.in_ok-push-2.ensures.items (All-push IsEmpty c.loop-at.maps.items c.new-2.result c.loop-at.invariant.1 c.new-2.ensures.empty)
