use Rattle.std.proofs.Common.{◌≡◌, [], arith}
use Rattle.std.proofs.lemmas.List.Elements.{All-push}
use Rattle.mh_items.proofs.gathering.empty_rows.Goals as goal

pub loop-preserved : goal.loop-preserved
loop-preserved g c = record {
  len = omega (arith, c.in_ok-push.ensures.len, c.loop.invariant.len);
  empty = rw c.in_ok-push.ensures.items (All-push (λ row. row ≡ []) c.loop.rows.items c.new.result c.loop.invariant.empty c.new.ensures);
}
