-- Lemmas on adding to an optional length.
use Rattle.std.proofs.Common.{◌≡◌, ℕ, ◌+◌, Option, Some, None, refl, arith, ap}
use Rattle.mh_lex.specs.LexemeLengths.{plus_one}

-- An optional length with a number added.
abbrev pub plus : ℕ → Option ℕ → Option ℕ
plus k None = None
plus k (Some n) = Some (k + n)

pub plus_more : (k : ℕ) (n : Option ℕ) → plus k (plus_one n) ≡ plus (k + 1) n
plus_more k None = refl
plus_more k (Some n) = ap Some (omega arith)

pub plus_zero : (n : Option ℕ) → n ≡ plus 0 n
plus_zero None = refl
plus_zero (Some n) = ap Some (omega arith)
