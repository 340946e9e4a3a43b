-- Proves that items and kernels that compare equal are equal.
use Rattle.std.proofs.Common.{◌≡◌, Bool, true, false, eqb, ◌&&◌, Decides, refl, ap, ◌∙◌, sym}
use Rattle.std.specs.Cmp.Lexicographic.{pointwise}
use Rattle.std.proofs.lemmas.Slice.Eq.{slice_eq-Decides}
use Rattle.std.proofs.lemmas.Bool.Decides.{Decides-eqb}
use Rattle.std.proofs.lemmas.Bool.{and_parts}
use Rattle.mh_grammar.specs.declared.types.Look.{Look}
use Rattle.mh_items_kernels.specs.KernelTypes.{KernelItem}
use Rattle.mh_items_kernels.specs.KernelTypes.{Kernel}

all_three : (p q s : Bool) → p ≡ true → q ≡ true → s ≡ true → (p && (q && s)) ≡ true
all_three true true s e f g = g
all_three true false s e f g = f
all_three false q s e f g = e

pub item_Decides : (F : Look → Look → Bool) → ((a b : Look) → Decides (F a b) (a ≡ b)) → (a b : KernelItem) (r : Bool) → r ≡ (eqb a.production b.production && (eqb a.dot b.dot && pointwise F a.looks b.looks)) → Decides r (a ≡ b)
item_Decides F d a b r e =
    let looks = slice_eq-Decides d a.looks b.looks (pointwise F a.looks b.looks) refl in (
      (λ h. let t = and_parts _ _ (sym e ∙ h) in let u = and_parts _ _ t.1 in
          let p = (Decides-eqb a.production b.production).0 t.0 in
          let q = (Decides-eqb a.dot b.dot).0 u.0 in
          let l = looks.0 u.1 in
          λ i. record { production = p i; dot = q i; looks = l i }),
      (λ h. e ∙ all_three _ _ _ ((Decides-eqb a.production b.production).1 (ap (λ (k : KernelItem). k.production) h)) ((Decides-eqb a.dot b.dot).1 (ap (λ (k : KernelItem). k.dot) h)) (looks.1 (ap (λ (k : KernelItem). k.looks) h))),
    )

pub kernel_Decides : (E : KernelItem → KernelItem → Bool) → ((a b : KernelItem) → Decides (E a b) (a ≡ b)) → (a b : Kernel) (r : Bool) → r ≡ pointwise E a.items b.items → Decides r (a ≡ b)
kernel_Decides E d a b r e =
    let items = slice_eq-Decides d a.items b.items r e in
    ((λ h. let l = items.0 h in λ i. record { items = l i }), (λ h. items.1 (ap (λ (k : Kernel). k.items) h)))
