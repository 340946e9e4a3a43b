use Rattle.std.proofs.Common.{◌≡◌, ◌↔◌, Bool, List, true, false, not, IsTrue, refl, inl, inr}
use Rattle.mh_grammar.specs.declared.types.Look.{Look}
use Rattle.mh_pager.specs.code.ItemLists.{ShareLook, MeetsCondition}
use Rattle.mh_pager.proofs.compatible.fit.Goals as goal

-- The last test decides Pager's condition if neither kernel has a look in common between its two items and the looks a
-- and d are disjoint.
last : (a b c d : List Look) (ac bd ad cb : Bool) → (IsTrue ac ↔ ShareLook a c) → (IsTrue bd ↔ ShareLook b d) → (IsTrue ad ↔ ShareLook a d) → (IsTrue cb ↔ ShareLook c b) → ac ≡ false → bd ≡ false → ad ≡ false → IsTrue (not cb) ↔ MeetsCondition a b c d
last a b c d ac bd ad true p q r s n m k = (
  (λ t. cc),
  (λ f. elim f [
    | inl e ↦ absurd (e.1 (s.0 refl))
    | inr e ↦ elim e [
      | inl x ↦ (let h : ac ≡ true = p.1 x in cc)
      | inr x ↦ (let h : bd ≡ true = q.1 x in cc)
    ]
  ]),
)
last a b c d ac bd ad false p q r s n m k = (
  (λ t. inl ((λ x. let h : ad ≡ true = r.1 x in cc), (λ x. let h : false ≡ true = s.1 x in cc))),
  (λ f. refl),
)

pub returns : goal.returns
returns _ c = last _ _ _ _ _ _ _ _ c.item_meets.ensures c.item_meets-2.ensures c.item_meets-3.ensures c.item_meets-4.ensures c.if-item_meets.false c.if-item_meets-2.false c.if-item_meets-3.false
