-- Lines for the items of a list, in the order of the items.
use Rattle.std.specs.Prelude.{◌≡◌, ◌++◌, List, [], ◌∷◌}
use Rattle.mh_lint_findings.specs.Lines.{Line}

-- The lines are those of the items, in order.
pub data AreInOrder {A : Type 0} (Of : A → List Line → Type 0) : List A → List Line → Type 0 where
  none : AreInOrder Of [] []
  more : {x : A} {xs : List A} {lines rest all : List Line} → Of x lines → AreInOrder Of xs rest → all ≡ lines ++ rest → AreInOrder Of (x ∷ xs) all
