-- Proves that texts that are equal byte by byte are equal.
use Rattle.std.proofs.Common.{◌≡◌, ℕ, ◌==◌, Bool, true, false, List, refl, sym, ◌⊎◌, inl, inr}
use Rattle.std.specs.Cmp.Lexicographic.{pointwise, bytes_decides}

abbrev same : List ℕ → List ℕ → Bool
same = pointwise ◌==◌

pub equal_from_same : (x y : List ℕ) → same x y ≡ true → x ≡ y
equal_from_same x y = (bytes_decides x y).0

pub same_refl : (x : List ℕ) → same x x ≡ true
same_refl x = (bytes_decides x x).1 refl

-- Two texts are equal, or the comparison is false in both directions.
pub same_cases : (x y : List ℕ) → (x ≡ y) ⊎ ((same x y ≡ false) × (same y x ≡ false))
same_cases x y = go (same x y) refl (same y x) refl
  where
    go : (b : Bool) → same x y ≡ b → (d : Bool) → same y x ≡ d → (x ≡ y) ⊎ ((same x y ≡ false) × (same y x ≡ false))
    go true e d f = inl (equal_from_same x y e)
    go false e true f = inl (sym (equal_from_same y x f))
    go false e false f = inr (e, f)
