-- Lemma on what an iterator yields (`YieldsList`), seen through a function on its items.
use Rattle.std.proofs.Common.{Option, List, [], ◌∷◌, map, ap}
use Rattle.std.specs.Iterator.{AlwaysYields}
use Rattle.std.proofs.lemmas.Iterator.{YieldsList}

module _ {S A B C : Type 0} (steps : S → Option A → S → Type 0) (v : A → B) (f : B → C) where
  yields_values : (ys : List B) (s : S) → AlwaysYields steps v s ys → AlwaysYields steps (λ x. f (v x)) s (map f ys)
  yields_values [] s yields = yields
  yields_values (y ∷ ys) s yields = (yields.0, λ x j h. let first = yields.1 x j h in (ap f first.0, yields_values ys j first.1))

-- If an iterator yields the items of a list, the values of a function on its items are the values on the list.
pub YieldsList-values : {S A B C : Type 0} {steps : S → Option A → S → Type 0} {v : A → B} {s : S} {ys : List B} (f : B → C) → YieldsList steps v s ys → YieldsList steps (λ x. f (v x)) s (map f ys)
YieldsList-values {S} {A} {B} {C} {steps} {v} {s} {ys} f yields = record { runs = yields_values steps v f ys s yields.runs }
