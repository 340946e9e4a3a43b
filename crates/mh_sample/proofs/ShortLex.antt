-- Lemmas on the order of words by length and then by the numbers of their tokens.
use Rattle.std.proofs.Common.{◌≡◌, ◌∙◌, ◌≤◌, ℕ, inl, inr, List, [], ◌∷◌, ◌++◌, length, refl, sym, arith, false}
use Rattle.std.proofs.lemmas.Bool.{cases_eq, eq-eqb, ne_eqb, ltb-false}
use Rattle.std.proofs.lemmas.List.{length-append}
use Rattle.mh_grammar.specs.WordOrder.{LexLe}
use Rattle.mh_grammar.proofs.WordOrder.{lex_refl, lex_trans}
use Rattle.mh_sample.specs.Shortest.{ShortLex}
use Rattle.mh_sample.specs.code.Chains.{lex_less}

pub shortlex_same : (u : List ℕ) → ShortLex u u
shortlex_same u = inr (refl, lex_refl u)

pub shortlex_length : (u v : List ℕ) → ShortLex u v → length u ≤ length v
shortlex_length u v (inl l) = omega (arith, l)
shortlex_length u v (inr h) = omega (arith, h.0)

pub shortlex_after : (u v w : List ℕ) → ShortLex u v → ShortLex v w → ShortLex u w
shortlex_after u v w (inl a) (inl b) = inl (omega (arith, a, b))
shortlex_after u v w (inl a) (inr b) = inl (omega (arith, a, b.0))
shortlex_after u v w (inr a) (inl b) = inl (omega (arith, a.0, b))
shortlex_after u v w (inr a) (inr b) = inr (a.0 ∙ b.0, lex_trans u v w a.1 b.1)

lex_append : (a b c d : List ℕ) → length a ≡ length b → LexLe a b → LexLe c d → LexLe (a ++ c) (b ++ d)
lex_append [] [] c d l h k = k
lex_append [] (y ∷ b) c d l h k = absurd (omega (arith, l))
lex_append (x ∷ a) [] c d l h k = absurd h
lex_append (x ∷ a) (y ∷ b) c d l (inl lt) k = inl lt
lex_append (x ∷ a) (y ∷ b) c d l (inr e) k = inr (e.0, lex_append a b c d (omega (arith, l)) e.1 k)

-- Concatenation is monotone in the order of words.
pub shortlex_append : (a b c d : List ℕ) → ShortLex a b → ShortLex c d → ShortLex (a ++ c) (b ++ d)
shortlex_append a b c d (inl l) h = inl (omega (arith, l, shortlex_length c d h, length-append a c, length-append b d))
shortlex_append a b c d (inr e) (inl l) = inl (omega (arith, l, e.0, length-append a c, length-append b d))
shortlex_append a b c d (inr e) (inr f) = inr (omega (arith, e.0, f.0, length-append a c, length-append b d), lex_append a b c d e.0 e.1 f.1)

-- If a word is not lower than a word of the same length, the other word comes no later.
pub lex_less-false : (u v : List ℕ) → length u ≡ length v → lex_less u v ≡ false → LexLe v u
lex_less-false [] [] l e = tt
lex_less-false [] (y ∷ v) l e = absurd (omega (arith, l))
lex_less-false (x ∷ u) [] l e = absurd (omega (arith, l))
lex_less-false (x ∷ u) (y ∷ v) l e = elim (cases_eq x y) [
  | inl same ↦ inr (sym same, lex_less-false u v (omega (arith, l)) (let f = e in rw (eq-eqb x y same) at f))
  | inr other ↦ inl (let f = e in let g = ltb-false x y (rw (ne_eqb x y other) at f) in omega (arith, g, other))
]

-- Two words of which each comes no later than the other are equal.
lex_one : (u v : List ℕ) → LexLe u v → LexLe v u → u ≡ v
lex_one [] [] a b = refl
lex_one [] (y ∷ v) a b = absurd b
lex_one (x ∷ u) [] a b = absurd a
lex_one (x ∷ u) (y ∷ v) (inl l) (inl m) = absurd (omega (arith, l, m))
lex_one (x ∷ u) (y ∷ v) (inl l) (inr f) = absurd (omega (arith, l, f.0))
lex_one (x ∷ u) (y ∷ v) (inr e) (inl m) = absurd (omega (arith, e.0, m))
lex_one (x ∷ u) (y ∷ v) (inr e) (inr f) = let rest = lex_one u v e.1 f.1 in λ i. e.0 i ∷ rest i

pub shortlex_one : (u v : List ℕ) → ShortLex u v → ShortLex v u → u ≡ v
shortlex_one u v (inl l) h = absurd (omega (arith, l, shortlex_length v u h))
shortlex_one u v (inr e) (inl l) = absurd (omega (arith, l, e.0))
shortlex_one u v (inr e) (inr f) = lex_one u v e.1 f.1
