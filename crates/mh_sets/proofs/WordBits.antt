-- Lemmas on numbers as the bits of words.
use Rattle.std.proofs.Common.{◌≡◌, ℕ, ◌+◌, ◌*◌, ◌/◌, ◌%◌, ◌^◌, ◌-◌, ◌<◌, ◌≤◌, ◌⊎◌, ◌||◌, ◌==◌, Bool, true, false, not, if◌then◌else◌, List, length, get_or, set, refl, sym, ap, ap₂, ◌∙◌, arith, inl, inr, w64, max}
use Rattle.std.specs.Prelude.{bit_and, bit_or, nat_eq}
use Rattle.std.specs.List.{All}
use Rattle.std.specs.Int.{bit_at, bit_not, trailing_zeros}
use Rattle.std.proofs.lemmas.Bool.{cases_eq, cases_lt}
use Rattle.std.proofs.lemmas.Bool.Decides.{nat_tests}
use Rattle.std.proofs.lemmas.Nat.{or_lt, and_le_l, one_shl, pow_pos}
use Rattle.std.proofs.lemmas.Nat.Bits.{bit_at-lt, bit_at-zero, bit_at_and, bit_at_or, bit_at_not, bit_at_set_same, bit_at_set_other, bit_at_clear_same, bit_at_clear_other, bit_at-trailing_zeros, shr_and_one, and_pow}
use Rattle.std.proofs.lemmas.List.{get_or-set_other, get_or_past}
use Rattle.std.proofs.lemmas.List.Elements.{All-set, All-from_get_or}
use Rattle.std.proofs.lemmas.Grind.{get_or-set_at}
use Rattle.mh_sets.specs.BitWords.{has_token}

-- Lemmas on one bit.

pub zero_or_one : (n : ℕ) → n < 2 → (n ≡ 0) ⊎ (n ≡ 1)
zero_or_one n l = elim (cases_eq n 0) [ inl e ↦ inl e | inr o ↦ inr (omega arith) ]

pub test_of : (n : ℕ) → n ≡ 1 → (n == 1) ≡ true
test_of n e = grind (arith, nat_tests)

pub test_not : (n : ℕ) → n ≡ 0 → (n == 1) ≡ false
test_not n e = grind (arith, nat_tests)

pub from_test : (n : ℕ) → (n == 1) ≡ true → n ≡ 1
from_test n e = grind (arith, nat_tests)

pub from_not : (n : ℕ) → n < 2 → (n == 1) ≡ false → n ≡ 0
from_not n l e = grind (arith, nat_tests)

pub or_test : (m a b : ℕ) → a < 2 → b < 2 → m ≡ max a b → (m == 1) ≡ ((a == 1) || (b == 1))
or_test m a b k l e = grind (arith, nat_tests)

-- Lemmas on the word and the bit of a number.

-- The bit of a number, in its word.
abbrev pub bit : List ℕ → ℕ → ℕ
bit words a = bit_at (get_or words (a / 64) 0) (a % 64)

pub bit_past_end : (words : List ℕ) (b : ℕ) → length words ≤ b / 64 → bit words b ≡ 0
bit_past_end words b g = ap (λ y. bit_at y (b % 64)) (get_or_past words (b / 64) 0 g) ∙ bit_at-zero (b % 64)

pub has_is : (words : List ℕ) (a : ℕ) → has_token words a ≡ (bit words a == 1)
unfolding has_token
has_is words a = refl

pub has_token_by_shift : (words : List ℕ) (a : ℕ) → nat_eq (bit_and (get_or words (a / 64) 0 / 2 ^ (a % 64)) 1) 1 ≡ has_token words a
unfolding has_token
has_token_by_shift words a = ap (λ x. nat_eq x 1) (shr_and_one (get_or words (a / 64) 0) (a % 64))

pub set_test_here : (m w a b : ℕ) → a ≡ b → m ≡ 1 → (m == 1) ≡ ((w == 1) || (a == b))
set_test_here m w a b e k = grind (arith, nat_tests)

pub set_test_there : (m w a b : ℕ) → (a ≡ b → ⊥) → m ≡ w → (m == 1) ≡ ((w == 1) || (a == b))
set_test_there m w a b e k = grind (arith, nat_tests)

pub clear_test_here : (m a b : ℕ) (w : Bool) → a ≡ b → m ≡ 0 → (m == 1) ≡ (if a == b then false else w)
clear_test_here m a b true e k = grind (arith, nat_tests)
clear_test_here m a b false e k = grind (arith, nat_tests)

pub clear_test_there : (m w a b : ℕ) → (a ≡ b → ⊥) → m ≡ w → (m == 1) ≡ (if a == b then false else (w == 1))
clear_test_there m w a b e k = grind (arith, nat_tests)

-- Writing the word that has a number's bit.
module _ (words : List ℕ) (a v : ℕ) (within : a < 64 * length words) where
  abbrev new : List ℕ
  new = set words (a / 64) v

  in_word : a / 64 < length words
  in_word = omega arith

  here : (b : ℕ) → b / 64 ≡ a / 64 → bit new b ≡ bit_at v (b % 64)
  here b e = ap (λ x. bit_at x (b % 64)) (get_or-set_at words (a / 64) (b / 64) v 0 e in_word)

  there : (b : ℕ) → (b / 64 ≡ a / 64 → ⊥) → bit new b ≡ bit words b
  there b o = ap (λ x. bit_at x (b % 64)) (get_or-set_other words (a / 64) (b / 64) v 0 o)

  same_word : (b : ℕ) → b / 64 ≡ a / 64 → bit words b ≡ bit_at (get_or words (a / 64) 0) (b % 64)
  same_word b e = ap (λ k. bit_at (get_or words k 0) (b % 64)) e

  pub set_bits : v ≡ bit_or (get_or words (a / 64) 0) (1 * 2 ^ (a % 64) % 2 ^ 64) → (b : ℕ) → has_token new b ≡ (has_token words b || a == b)
  unfolding has_token
  set_bits e b =
      let small : a % 64 < 64 = omega arith in
      elim (cases_eq (b / 64) (a / 64)) [
        | inl p ↦ elim (cases_eq (b % 64) (a % 64)) [
          | inl q ↦ (let eq : a ≡ b = omega arith in
              let one : bit new b ≡ 1 = here b p ∙ ap (λ i. bit_at v i) q ∙ ap (λ x. bit_at x (a % 64)) e ∙ bit_at_set_same w64 (get_or words (a / 64) 0) (a % 64) small in
              set_test_here (bit new b) (bit words b) a b eq one)
          | inr o ↦ (let ne : a ≡ b → ⊥ = λ eq. o (ap (λ x. x % 64) (sym eq)) in
              let kept : bit new b ≡ bit words b = here b p ∙ ap (λ x. bit_at x (b % 64)) e ∙ bit_at_set_other w64 (get_or words (a / 64) 0) (a % 64) small (b % 64) o ∙ sym (same_word b p) in
              set_test_there (bit new b) (bit words b) a b ne kept)
        ]
        | inr o ↦ (let ne : a ≡ b → ⊥ = λ eq. o (ap (λ x. x / 64) (sym eq)) in set_test_there (bit new b) (bit words b) a b ne (there b o))
      ]

  pub clear_bits : v ≡ bit_and (get_or words (a / 64) 0) (bit_not w64 (1 * 2 ^ (a % 64) % 2 ^ 64)) → (b : ℕ) → has_token new b ≡ (if a == b then false else has_token words b)
  unfolding has_token
  clear_bits e b =
      let small : a % 64 < 64 = omega arith in
      let low : b % 64 < 64 = omega arith in
      elim (cases_eq (b / 64) (a / 64)) [
        | inl p ↦ elim (cases_eq (b % 64) (a % 64)) [
          | inl q ↦ (let eq : a ≡ b = omega arith in
              let none : bit new b ≡ 0 = here b p ∙ ap (λ i. bit_at v i) q ∙ ap (λ x. bit_at x (a % 64)) e ∙ bit_at_clear_same w64 (get_or words (a / 64) 0) (a % 64) small in
              clear_test_here (bit new b) a b (bit words b == 1) eq none)
          | inr o ↦ (let ne : a ≡ b → ⊥ = λ eq. o (ap (λ x. x % 64) (sym eq)) in
              let kept : bit new b ≡ bit words b = here b p ∙ ap (λ x. bit_at x (b % 64)) e ∙ bit_at_clear_other w64 (get_or words (a / 64) 0) (a % 64) small (b % 64) low o ∙ sym (same_word b p) in
              clear_test_there (bit new b) (bit words b) a b ne kept)
        ]
        | inr o ↦ (let ne : a ≡ b → ⊥ = λ eq. o (ap (λ x. x / 64) (sym eq)) in clear_test_there (bit new b) (bit words b) a b ne (there b o))
      ]

  pub set_keeps_bound : All (λ w. w < 2 ^ 64) words → v < 2 ^ 64 → All (λ w. w < 2 ^ 64) new
  set_keeps_bound each l = All-set (λ w. w < 2 ^ 64) words (a / 64) v l each

pub or_fits : (words : List ℕ) (a : ℕ) → a < 64 * length words → All (λ w. w < 2 ^ 64) words → bit_or (get_or words (a / 64) 0) (1 * 2 ^ (a % 64) % 2 ^ 64) < 2 ^ 64
or_fits words a within each =
    let at : a / 64 < length words = omega arith in
    or_lt 64 (get_or words (a / 64) 0) (1 * 2 ^ (a % 64) % 2 ^ 64) (each (a / 64) 0 at) (omega arith)

scaled : (b m : ℕ) → b < 2 → 0 < m → nat_eq (b * m) 0 ≡ not (b == 1)
scaled b m l p = elim (zero_or_one b l) [
  | inl e ↦ (rw e (let z : 0 * m ≡ 0 = omega arith in rw z refl))
  | inr e ↦ rw e (let q : 1 * m ≡ m = omega arith in rw q (grind (arith, nat_tests)))
]

pub fresh_is : (words : List ℕ) (a : ℕ) → nat_eq (bit_and (get_or words (a / 64) 0) (1 * 2 ^ (a % 64) % 2 ^ 64)) 0 ≡ not (has_token words a)
unfolding has_token
fresh_is words a =
    let mask = one_shl (a % 64) 64 (omega arith) in
    ap (λ m. nat_eq (bit_and (get_or words (a / 64) 0) m) 0) mask ∙ ap (λ x. nat_eq x 0) (and_pow (get_or words (a / 64) 0) (a % 64))
    ∙ scaled (bit words a) (2 ^ (a % 64)) (bit_at-lt _ (a % 64)) (pow_pos (a % 64))

-- Lemmas on two lists of words of the same length.

module _ (v w : List ℕ) (len : length v ≡ length w) where
  -- A word-wise union has the bits of both.
  pub join_bits : (x : List ℕ) → length x ≡ length v → ((k : ℕ) → k < length v → get_or x k 0 ≡ bit_or (get_or v k 0) (get_or w k 0)) → (b : ℕ) → has_token x b ≡ (has_token v b || has_token w b)
  unfolding has_token
  join_bits x lx h b = elim (cases_lt (b / 64) (length v)) [
    | inl l ↦ or_test (bit x b) (bit v b) (bit w b) (bit_at-lt _ (b % 64)) (bit_at-lt _ (b % 64))
        (ap (λ y. bit_at y (b % 64)) (h (b / 64) l) ∙ bit_at_or _ _ (b % 64))
    | inr g ↦ or_test (bit x b) (bit v b) (bit w b) (bit_at-lt _ (b % 64)) (bit_at-lt _ (b % 64))
        (bit_past_end x b (omega arith) ∙ ap₂ max (sym (bit_past_end v b g)) (sym (bit_past_end w b (omega arith))))
  ]

  pub join_each : (x : List ℕ) → length x ≡ length v → ((k : ℕ) → k < length v → get_or x k 0 ≡ bit_or (get_or v k 0) (get_or w k 0)) → All (λ y. y < 2 ^ 64) v → All (λ y. y < 2 ^ 64) w → All (λ y. y < 2 ^ 64) x
  join_each x lx h ev ew = All-from_get_or (λ y. y < 2 ^ 64) x 0 (λ i l. let lv : i < length v = omega arith in let lw : i < length w = omega arith in rw (h i lv) (or_lt 64 (get_or v i 0) (get_or w i 0) (ev i 0 lv) (ew i 0 lw)))

  pub no_common_token : ((k : ℕ) → k < length v → bit_and (get_or v k 0) (get_or w k 0) ≡ 0) → (a : ℕ) → has_token v a ≡ true → has_token w a ≡ true → ⊥
  unfolding has_token
  no_common_token h a p q = elim (cases_lt (a / 64) (length v)) [
    | inl l ↦ (let both = bit_at_and (get_or v (a / 64) 0) (get_or w (a / 64) 0) (a % 64) in
        let none = ap (λ y. bit_at y (a % 64)) (h (a / 64) l) ∙ bit_at-zero (a % 64) in
        let one : bit v a ≡ 1 = from_test (bit v a) p in
        let two' : bit w a ≡ 1 = from_test (bit w a) q in
        omega arith)
    | inr g ↦ (let one : bit v a ≡ 1 = from_test (bit v a) p in let none = bit_past_end v a g in omega arith)
  ]

  -- If two words share a bit, the sets share a number.
  pub common_token : (k : ℕ) → k < length v → All (λ y. y < 2 ^ 64) v → (bit_and (get_or v k 0) (get_or w k 0) ≡ 0 → ⊥) → (a : ℕ) × (has_token v a ≡ true) × (has_token w a ≡ true)
  unfolding has_token
  common_token k l each o =
      let x : ℕ = bit_and (get_or v k 0) (get_or w k 0) in
      let low = and_le_l (get_or v k 0) (get_or w k 0) in
      let vk = each k 0 l in
      let t = bit_at-trailing_zeros w64 x (omega arith) (omega arith) in
      let i : ℕ = trailing_zeros w64 x in
      let il : i < 64 = t.0 in
      let place : (64 * k + i) / 64 ≡ k = omega arith in
      let off : (64 * k + i) % 64 ≡ i = omega arith in
      let both = bit_at_and (get_or v k 0) (get_or w k 0) i in
      let ltv = bit_at-lt (get_or v k 0) i in
      let ltw = bit_at-lt (get_or w k 0) i in
      let one = t.1 in
      (64 * k + i, test_of (bit v (64 * k + i)) (rw (place, off) (omega arith)), test_of (bit w (64 * k + i)) (rw (place, off) (omega arith)))

  pub within_from : All (λ y. y < 2 ^ 64) w → ((k : ℕ) → k < length v → bit_and (get_or v k 0) (bit_not w64 (get_or w k 0)) ≡ 0) → (a : ℕ) → has_token v a ≡ true → has_token w a ≡ true
  unfolding has_token
  within_from each h a p = elim (cases_lt (a / 64) (length v)) [
    | inl l ↦ (let lw : a / 64 < length w = omega arith in
        let small : a % 64 < 64 = omega arith in
        let both = bit_at_and (get_or v (a / 64) 0) (bit_not w64 (get_or w (a / 64) 0)) (a % 64) in
        let none = ap (λ y. bit_at y (a % 64)) (h (a / 64) l) ∙ bit_at-zero (a % 64) in
        let turned = bit_at_not w64 (get_or w (a / 64) 0) (a % 64) (each (a / 64) 0 lw) small in
        let one : bit v a ≡ 1 = from_test (bit v a) p in
        let lt = bit_at-lt (get_or w (a / 64) 0) (a % 64) in
        test_of (bit w a) (omega arith))
    | inr g ↦ absurd (let one : bit v a ≡ 1 = from_test (bit v a) p in let none = bit_past_end v a g in omega arith)
  ]

  -- If a word has a bit that the other lacks, some number is in the first set alone.
  pub token_outside : (k : ℕ) → k < length v → All (λ y. y < 2 ^ 64) v → All (λ y. y < 2 ^ 64) w → (bit_and (get_or v k 0) (bit_not w64 (get_or w k 0)) ≡ 0 → ⊥) → ((a : ℕ) → has_token v a ≡ true → has_token w a ≡ true) → ⊥
  unfolding has_token
  token_outside k l each ew o h =
      let x : ℕ = bit_and (get_or v k 0) (bit_not w64 (get_or w k 0)) in
      let low = and_le_l (get_or v k 0) (bit_not w64 (get_or w k 0)) in
      let lw : k < length w = omega arith in
      let vk = each k 0 l in
      let t = bit_at-trailing_zeros w64 x (omega arith) (omega arith) in
      let i : ℕ = trailing_zeros w64 x in
      let il : i < 64 = t.0 in
      let place : (64 * k + i) / 64 ≡ k = omega arith in
      let off : (64 * k + i) % 64 ≡ i = omega arith in
      let both = bit_at_and (get_or v k 0) (bit_not w64 (get_or w k 0)) i in
      let turned = bit_at_not w64 (get_or w k 0) i (ew k 0 lw) il in
      let ltv = bit_at-lt (get_or v k 0) i in
      let ltw = bit_at-lt (get_or w k 0) i in
      let one = t.1 in
      let vone : bit v (64 * k + i) ≡ 1 = rw (place, off) (omega arith) in
      let wone = from_test (bit w (64 * k + i)) (h (64 * k + i) (test_of (bit v (64 * k + i)) vone)) in
      let wone' : bit_at (get_or w k 0) i ≡ 1 = rw (place, off) at wone in
      omega arith

-- Lemmas on the least number of a set.

module _ (v : List ℕ) (each : All (λ y. y < 2 ^ 64) v) where
  pub no_bits : ((k : ℕ) → k < length v → get_or v k 0 ≡ 0) → (b : ℕ) → has_token v b ≡ false
  unfolding has_token
  no_bits h b = elim (cases_lt (b / 64) (length v)) [
    | inl l ↦ test_not (bit v b) (ap (λ y. bit_at y (b % 64)) (h (b / 64) l) ∙ bit_at-zero (b % 64))
    | inr g ↦ test_not (bit v b) (bit_past_end v b g)
  ]

  pub least_bit : (k : ℕ) → k < length v → ((j : ℕ) → j < k → get_or v j 0 ≡ 0) → (get_or v k 0 ≡ 0 → ⊥)
      → let a = 64 * k + trailing_zeros w64 (get_or v k 0) in (a < 64 * length v) × (has_token v a ≡ true) × ((b : ℕ) → b < a → has_token v b ≡ false)
  unfolding has_token
  least_bit k l h o =
      let x : ℕ = get_or v k 0 in
      let vk = each k 0 l in
      let t = bit_at-trailing_zeros w64 x (omega arith) vk in
      let i : ℕ = trailing_zeros w64 x in
      let il : i < 64 = t.0 in
      let place : (64 * k + i) / 64 ≡ k = omega arith in
      let off : (64 * k + i) % 64 ≡ i = omega arith in (
        omega arith,
        test_of (bit v (64 * k + i)) (rw (place, off) t.1),
        λ b lb. elim (cases_lt (b / 64) k) [
          | inl s ↦ test_not (bit v b) (ap (λ y. bit_at y (b % 64)) (h (b / 64) s) ∙ bit_at-zero (b % 64))
          | inr g ↦ (let same : b / 64 ≡ k = omega arith in
              let below : b % 64 < i = omega arith in
              test_not (bit v b) (ap (λ z. bit_at (get_or v z 0) (b % 64)) same ∙ t.2 (b % 64) below))
        ],
      )
