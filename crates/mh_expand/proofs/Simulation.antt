-- Proves that a derivation over one family of productions is a derivation over another family that has each of its
-- productions.
use Rattle.std.proofs.Common.{ℕ, List, [], ◌∷◌}
use Rattle.std.specs.List.{AllZip}
use Rattle.mh_grammar.specs.Derivations as derivations
use Rattle.mh_grammar.specs.Derivations.{Derivation, Derivations}

module _ {S T : Type 0} (IsTokenS : S → ℕ → Type 0) (ProducesS : S → List S → Type 0) (IsTokenT : T → ℕ → Type 0) (ProducesT : T → List T → Type 0) (R : S → T → Type 0) (token : (X : S) (Y : T) (a : ℕ) → R X Y → IsTokenS X a → IsTokenT Y a) (step : (X : S) (Y : T) (rhs : List S) → R X Y → ProducesS X rhs → (side : List T) × ProducesT Y side × AllZip R rhs side) where
  mutual
    pub derivation_along : (X : S) (w : List ℕ) → Derivation IsTokenS ProducesS X w → (Y : T) → R X Y → Derivation IsTokenT ProducesT Y w
    derivation_along X w (derivations.Derivation.leaf {a} t) Y r = derivations.Derivation.leaf (token X Y a r t)
    derivation_along X w (derivations.Derivation.node {rhs} p ds) Y r = let s = step X Y rhs r p in derivations.Derivation.node s.1 (derivations_along rhs w ds s.0 s.2)

    derivations_along : (Xs : List S) (w : List ℕ) → Derivations IsTokenS ProducesS Xs w → (Ys : List T) → AllZip R Xs Ys → Derivations IsTokenT ProducesT Ys w
    derivations_along [] w derivations.Derivations.none [] z = derivations.Derivations.none
    derivations_along [] w derivations.Derivations.none (Y ∷ Ys) z = absurd z
    derivations_along (X ∷ Xs) w (derivations.Derivations.more {u} {v} e d ds) [] z = absurd z
    derivations_along (X ∷ Xs) w (derivations.Derivations.more {u} {v} e d ds) (Y ∷ Ys) z = derivations.Derivations.more e (derivation_along X u d Y z.0) (derivations_along Xs v ds Ys z.1)
