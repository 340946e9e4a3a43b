use Rattle.std.proofs.Common.{rules, refl}
use Rattle.mh_grammar.proofs.NumberingInvariant.{Placed-insert}
use Rattle.mh_items_kernels.proofs.KernelEquality.{item_Decides, kernel_Decides}
use Rattle.mh_canon.proofs.kernel_set.KernelIndex.insert.Goals as goal

pub returns : goal.returns
returns _ c =
    let s = c.in_ok-at.ensures.stored in
    Placed-insert _ c.args.self.now.set.keys c.insert_full.new.self.keys c.args.kernel c.in_ok-at.at c.in_ok-at.ensures.keys (λ a b. kernel_Decides _ (λ p q. item_Decides _ (λ x y. search rules) p q _ refl) a b _ refl) s.0 s.1 s.2
