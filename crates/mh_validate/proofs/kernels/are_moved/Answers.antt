use Rattle.std.proofs.Common.{◌↔◌, IsTrue, subst}
use Rattle.mh_items_kernels.specs.KernelTypes.{KernelItem}
use Rattle.mh_validate.specs.code.LooksAndItems.{IsNonStartItem}
use Rattle.mh_validate.proofs.RisingValues.{failing}
use Rattle.mh_validate.proofs.kernels.are_moved.Goals as goal

pub returns-then-not-is_moved : goal.returns-then-not-is_moved
returns-then-not-is_moved g c = failing (IsNonStartItem c.args.grammar.now) c.args.items.now c.loop-at.at c.index-items-at.result c.is_moved.result c.loop-at-test.true (subst (λ (k : KernelItem). IsTrue c.is_moved.result ↔ IsNonStartItem c.args.grammar.now k) c.index-items-at.is c.is_moved.ensures) c.if-not-is_moved.true
