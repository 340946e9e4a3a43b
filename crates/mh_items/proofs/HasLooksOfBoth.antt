-- Proves that an item with the looks of two items is in the grammar's range.
use Rattle.std.proofs.Common.{get_or, arith, inl, inr}
use Rattle.std.proofs.lemmas.List.Elements.{Contains-get_or}
use Rattle.mh_grammar.specs.declared.types.Look.TheVariants.{End}
use Rattle.mh_grammar.specs.Plain.{PlainGrammar, IsLookBelow}
use Rattle.mh_items_kernels.specs.KernelTypes.{KernelItem}
use Rattle.mh_items_kernels.specs.Kernels.{IsKernelItem, HasLooksOfBoth}
use Rattle.mh_grammar.proofs.Lists.{recursion-from, recursion_contains}

pub joined_item : (g : PlainGrammar) (x y z : KernelItem) → IsKernelItem g x → IsKernelItem g y → HasLooksOfBoth x y z → IsKernelItem g z
joined_item g x y z i j h = record {
  production = rw h.production i.production;
  dot = rw (h.production, h.dot) i.dot;
  looks = recursion-from (IsLookBelow g.tokens) z.looks (λ b c. elim ((h.looks b).0 c) [
    | inl k ↦ recursion_contains (IsLookBelow g.tokens) x.looks i.looks b k
    | inr k ↦ recursion_contains (IsLookBelow g.tokens) y.looks j.looks b k
  ]);
  rising = h.rising;
  some = (let first = get_or x.looks 0 End in let c = (h.looks first).1 (inl (Contains-get_or x.looks 0 End i.some)) in let l = c.1 in omega arith);
}
