use Rattle.std.proofs.Common.{take}
use Rattle.mh_validate.specs.code.LooksAndItems.{AreItemsOf}
use Rattle.mh_validate.proofs.items.items_of.Given as goal

abbrev pub invariant-loop-raw : goal.invariant-loop-raw
invariant-loop-raw g l = AreItemsOf l.grammar (take l.raw-index l.raws) l.items.items
