-- A word that comes before another word has the lower rank.
use Rattle.std.proofs.Common.{◌≡◌, ◌<◌, ◌≤◌, ◌+◌, ◌*◌, ◌^◌, ℕ, suc, inl, inr, true, false, List, [], ◌∷◌, Option, None, Some, length, refl, ap, arith, get_or, set}
use Rattle.std.specs.List.{AllByRecursion}
use Rattle.std.proofs.Math.Nat.{pow-succ', pow-zero, pow-le-pow_right, mul-le-mul_right}
use Rattle.std.proofs.lemmas.Bool.{cases_eq, eq-eqb, ne_eqb, ltb-true, both_ways}
use Rattle.std.proofs.lemmas.List.Sums.{sum_by-set}
use Rattle.mh_sample.specs.WordLimit.{max_word}
use Rattle.mh_sample.specs.code.Chains.{lex_less, comes_before, digits, rank, rank_sum}

module _ (base : ℕ) (some : 2 ≤ base) where
  -- All numbers of the word are digits in this base.
  abbrev pub AreDigits : List ℕ → Type 0
  AreDigits w = AllByRecursion (λ z. z < base) w

  -- A lower leading digit makes the whole number lower.
  higher : (x y p d : ℕ) → x < y → d < p → x * p + d < y * p
  higher x y p d l m = let h = mul-le-mul_right {m = suc x} {n = y} p l in omega (arith, h, m)

  digits_below : (w : List ℕ) → AreDigits w → digits base w < base ^ length w
  digits_below [] h = omega (arith, pow-zero base)
  digits_below (x ∷ w) h = let e = higher x base (base ^ length w) (digits base w) h.0 (digits_below w h.1) in omega (arith, e, pow-succ' base (length w))

  digits_lower : (u v : List ℕ) → length u ≡ length v → lex_less u v ≡ true → AreDigits u → digits base u < digits base v
  digits_lower [] v l e h = absurd (both_ways false refl e)
  digits_lower (x ∷ u) [] l e h = absurd (both_ways false refl e)
  digits_lower (x ∷ u) (y ∷ v) l e h =
      let len : length u ≡ length v = omega (arith, l) in
      elim (cases_eq x y) [
        | inl same ↦ (let f = e in
            let rest = digits_lower u v len (let g = rw (eq-eqb x y same) at f in g) h.1 in
            let first : x * base ^ length u ≡ y * base ^ length v = λ i. same i * base ^ len i in
            omega (arith, rest, first))
        | inr other ↦ (let f = e in
            let less = ltb-true x y (let g = rw (ne_eqb x y other) at f in g) in
            let first = higher x y (base ^ length u) (digits base u) less (digits_below u h.1) in
            let power : y * base ^ length u ≡ y * base ^ length v = λ i. y * base ^ len i in
            omega (arith, first, power))
      ]

  -- The rank of a shorter word is below the rank of every longer word.
  below_power : (k n d : ℕ) → k < n → d < base ^ k → base ^ k + d < base ^ n
  below_power k n d l h =
      let twice = mul-le-mul_right {m = 2} {n = base} (base ^ k) some in
      let more = pow-le-pow_right {n = base} (omega (arith, some)) {i = suc k} {j = n} l in
      omega (arith, twice, more, h, pow-succ' base k)

  pub rank_lower : (u : List ℕ) (o : Option (List ℕ)) → comes_before u o ≡ true → length u ≤ max_word → AreDigits u → rank base (Some u) < rank base o
  unfolding rank
  rank_lower u None e l h = below_power (length u) (max_word + 1) (digits base u) (omega (arith, l)) (digits_below u h)
  rank_lower u (Some v) e l h = elim (cases_eq (length u) (length v)) [
    | inl same ↦ (let f = e in
        let rest = digits_lower u v same (let g = rw (eq-eqb (length u) (length v) same) at f in g) h in
        let power : base ^ length u ≡ base ^ length v = ap (λ n. base ^ n) same in
        omega (arith, rest, power))
    | inr other ↦ (let f = e in
        let less = ltb-true (length u) (length v) (let g = rw (ne_eqb (length u) (length v) other) at f in g) in
        omega (arith, below_power (length u) (length v) (digits base u) less (digits_below u h)))
  ]

  -- An earlier word lowers the sum of the ranks.
  pub sum_lower : (words : List (Option (List ℕ))) (n : ℕ) (u : List ℕ) → n < length words → rank base (Some u) < rank base (get_or words n None) → rank_sum base (set words n (Some u)) < rank_sum base words
  sum_lower words n u l h = omega (arith, sum_by-set (rank base) words n (Some u) None l, h)
