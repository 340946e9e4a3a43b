-- Derivation trees over any family of productions: of terms, of instances, or of a grammar's symbols (textbook).
use Rattle.std.specs.Prelude.{◌≡◌, ℕ, List, [], ◌∷◌, ◌++◌}

-- A derivation for a symbol is a leaf if the symbol is a token, or else one of the symbol's right sides with a
-- derivation for each symbol in it. The leaves spell a word.
mutual
  pub data Derivation {S : Type 0} (IsToken : S → ℕ → Type 0) (Produces : S → List S → Type 0) : S → List ℕ → Type 0 where
    leaf : {X : S} {a : ℕ} → IsToken X a → Derivation IsToken Produces X (a ∷ [])
    node : {X : S} {rhs : List S} {w : List ℕ} → Produces X rhs → Derivations IsToken Produces rhs w → Derivation IsToken Produces X w

  pub data Derivations {S : Type 0} (IsToken : S → ℕ → Type 0) (Produces : S → List S → Type 0) : List S → List ℕ → Type 0 where
    none : Derivations IsToken Produces [] []
    more : {X : S} {Xs : List S} {u v w : List ℕ} → w ≡ u ++ v → Derivation IsToken Produces X u → Derivations IsToken Produces Xs v → Derivations IsToken Produces (X ∷ Xs) w
