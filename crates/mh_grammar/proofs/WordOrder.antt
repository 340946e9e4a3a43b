-- Lemmas on the lexicographic order of words.
use Rattle.std.proofs.Common.{◌≡◌, ◌∙◌, ◌<◌, ◌⊎◌, ℕ, inl, inr, List, [], ◌∷◌, ◌++◌, refl, arith}
use Rattle.mh_grammar.specs.WordOrder.{LexLe}

pub lex_refl : (u : List ℕ) → LexLe u u
lex_refl [] = tt
lex_refl (x ∷ u) = inr (refl, lex_refl u)

-- The order is transitive on three words if it is transitive on the words without their first tokens.
pub lower_or_same : {P Q R : Type 0} (x y z : ℕ) → (P → Q → R) → (x < y) ⊎ ((x ≡ y) × P) → (y < z) ⊎ ((y ≡ z) × Q) → (x < z) ⊎ ((x ≡ z) × R)
lower_or_same x y z on (inl a) (inl b) = inl (omega arith)
lower_or_same x y z on (inl a) (inr b) = inl (let e = b.0 in omega arith)
lower_or_same x y z on (inr a) (inl b) = inl (let e = a.0 in omega arith)
lower_or_same x y z on (inr a) (inr b) = inr (a.0 ∙ b.0, on a.1 b.1)

pub lex_trans : (u v w : List ℕ) → LexLe u v → LexLe v w → LexLe u w
lex_trans [] v w a b = tt
lex_trans (x ∷ u) [] w a b = absurd a
lex_trans (x ∷ u) (y ∷ v) [] a b = absurd b
lex_trans (x ∷ u) (y ∷ v) (z ∷ w) a b = lower_or_same x y z (λ p q. lex_trans u v w p q) a b

pub lex_prefix : (u v : List ℕ) → LexLe u (u ++ v)
lex_prefix [] v = tt
lex_prefix (x ∷ u) v = inr (refl, lex_prefix u v)
