use Rattle.std.proofs.Common.{◌≡◌, [], List, refl, rules}
use Rattle.std.proofs.lemmas.List.Elements.{All-push}
use Rattle.mh_items_kernels.specs.KernelTypes.{KernelItem}
use Rattle.mh_items.proofs.rows.SymbolRows.new.Goals as goal

pub loop-preserved : goal.loop-preserved
loop-preserved g c = record {
  len = search rules;
  empty = rw (c.in_ok-push.ensures.items, c.new.ensures) (All-push (λ (row : List KernelItem). row ≡ []) c.loop.rows.items [] c.loop.invariant.empty refl);
}
