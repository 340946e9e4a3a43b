use Rattle.std.proofs.Common.{rules, refl}
use Rattle.mh_items_kernels.proofs.KernelEquality.{item_Decides, kernel_Decides}
use Rattle.mh_items_kernels.proofs.laws.are_equal.Goals as goal

pub returns : goal.returns
returns g c = kernel_Decides _ (λ a b. item_Decides _ (λ x y. search rules) a b _ refl) c.args.left.now c.args.right.now c.eq.result c.eq.ensures
