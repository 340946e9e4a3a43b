use Rattle.std.proofs.Common.{refl}
use Rattle.mh_items_kernels.proofs.items.advanced.Goals as goal

pub returns : goal.returns
returns _ c = rw c.copied.ensures refl
