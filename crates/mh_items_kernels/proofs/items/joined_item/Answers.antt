use Rattle.std.proofs.Common.{refl}
use Rattle.mh_items_kernels.proofs.items.joined_item.Goals as goal

pub returns : goal.returns
returns _ c = record { production = refl; dot = refl; rising = c.union_into.ensures.set.rising; looks = rw c.copied-looks.ensures at c.union_into.ensures.members }
