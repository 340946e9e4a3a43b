-- Lemmas on `looks_of`, the list of the lookaheads of a set: the tokens whose bits are set in its machine words, and
-- the end of the stream if its flag is set.
use Rattle.std.proofs.Common.{◌≡◌, ℕ, zero, suc, ◌+◌, ◌*◌, ◌/◌, ◌%◌, ◌^◌, ◌<◌, ◌⊎◌, ◌==◌, Bool, true, if◌then◌else◌, List, [], ◌∷◌, length, get_or, refl, sym, ap, ap₂, subst, ◌∙◌, arith, inl, inr}
use Rattle.std.specs.List.{Contains, list_any}
use Rattle.std.specs.Int.{bit_at}
use Rattle.std.proofs.lemmas.Bool.{cases_lt, or_right, or_left, or_cases}
use Rattle.std.proofs.lemmas.Bool.Decides.{same_from_decides, Decides-eqb}
use Rattle.std.proofs.lemmas.Nat.{mod-pow-add}
use Rattle.std.proofs.lemmas.Nat.Bits.{bit_at-lt}
use Rattle.std.proofs.lemmas.Grind.{same_number_lists}
use Rattle.mh_grammar.specs.declared.types.Look.{Look}
use Rattle.mh_grammar.specs.declared.types.Look.TheVariants.{Token, End}
use Rattle.mh_grammar.specs.Plain.{IsLookBelow}
use Rattle.mh_grammar.specs.Edges.{IsRising, IsLookBefore}
use Rattle.mh_sets.specs.BitWords.{has_token, looks_from, looks_of, AreBitWords, is_token, is_end_look, bit_word_by, bit_words_by, bit_words_of, has_stream_end}
use Rattle.mh_sets.specs.Sets.{IsSet}
use Rattle.mh_grammar.proofs.Lists.{contains_here, contains_there, contains_cases, recursion-from}
use Rattle.mh_sets.proofs.LooksFrom.{Has, looks_sound, looks_has_end, looks_has_token, rising, looks_few, looks_longer_or_same}
use Rattle.mh_sets.proofs.WordBits.{bit_past_end, bit, from_test, test_of, test_not, zero_or_one}

pub token_within : (words : List ℕ) (a : ℕ) → has_token words a ≡ true → a < 64 * length words
unfolding has_token
token_within words a h = elim (cases_lt (a / 64) (length words)) [
  | inl l ↦ omega arith
  | inr g ↦ absurd (let one : bit words a ≡ 1 = from_test (bit words a) h in let none = bit_past_end words a g in omega arith)
]

module _ (words : List ℕ) (end : Bool) where
  pub member_sound : (b : Look) → Contains (looks_of words end) b → Has (has_token words) end b
  unfolding looks_of
  member_sound (Token a) c = (looks_sound (has_token words) end 0 (64 * length words) (Token a) c).2
  member_sound End c = looks_sound (has_token words) end 0 (64 * length words) End c

  pub member_complete : (b : Look) → Has (has_token words) end b → Contains (looks_of words end) b
  unfolding looks_of
  member_complete (Token a) h = looks_has_token (has_token words) end 0 (64 * length words) a (omega arith) (let l = token_within words a h in omega arith) h
  member_complete End h = looks_has_end (has_token words) end 0 (64 * length words) h

  below : (W : ℕ) → length words ≡ W → (b : Look) → Contains (looks_of words end) b → IsLookBelow (64 * W) b
  below W e (Token a) c = let l = token_within words a (member_sound (Token a) c) in omega arith
  below W e End c = tt

  pub is_set : (W : ℕ) → AreBitWords W words → IsSet W (looks_of words end)
  unfolding looks_of
  is_set W h = record {
    rising = rising (has_token words) end 0 (64 * length words);
    below = recursion-from (IsLookBelow (64 * W)) (looks_of words end) (below W h.width);
    few = (let l = looks_few (has_token words) end 0 (64 * length words) in let e = h.width in omega arith);
  }

pub looks_of_rising : (words : List ℕ) (end : Bool) → IsRising IsLookBefore (looks_of words end)
unfolding looks_of
looks_of_rising words end = rising (has_token words) end 0 (64 * length words)

-- If one set contains another, the sets are equal or the first has more lookaheads.
pub looks_grown : (v w : List ℕ) (e d : Bool) → length v ≡ length w → ((a : ℕ) → has_token v a ≡ true → has_token w a ≡ true) → (e ≡ true → d ≡ true)
    → (length (looks_of v e) < length (looks_of w d)) ⊎ (looks_of v e ≡ looks_of w d)
unfolding looks_of
looks_grown v w e d len h k =
    let P : ℕ → Type 0 = λ n. (length (looks_of v e) < length (looks_from (has_token w) d 0 (64 * n))) ⊎ (looks_of v e ≡ looks_from (has_token w) d 0 (64 * n)) in
    subst P len (looks_longer_or_same (has_token v) (has_token w) e d h k 0 (64 * length v))

-- Lemmas on the words of a list of lookaheads.

token_is : (a : ℕ) (x : Look) → is_token a x ≡ true → x ≡ Token a
token_is a (Token b) e = ap Token (sym ((Decides-eqb a b).0 e))
token_is a End e = cc

is_the_token : (a : ℕ) (x : Look) → x ≡ Token a → is_token a x ≡ true
is_the_token a x e = let P : Look → Type 0 = λ y. is_token a y ≡ true in subst P (sym e) ((Decides-eqb a a).1 refl)

end_is : (x : Look) → is_end_look x ≡ true → x ≡ End
end_is (Token b) e = cc
end_is End e = refl

is_the_end : (x : Look) → x ≡ End → is_end_look x ≡ true
is_the_end x e = let P : Look → Type 0 = λ y. is_end_look y ≡ true in subst P (sym e) refl

module _ (test : Look → Bool) (z : Look) (exact : (x : Look) → test x ≡ true → x ≡ z) (passes : (x : Look) → x ≡ z → test x ≡ true) where
  any_sound : (xs : List Look) → list_any test xs ≡ true → Contains xs z
  any_sound [] h = cc
  any_sound (x ∷ xs) h = elim (or_cases (test x) (list_any test xs) h) [
    | inl e ↦ (let P : Look → Type 0 = Contains (x ∷ xs) in subst P (exact x e) (contains_here x xs))
    | inr t ↦ contains_there x xs z (any_sound xs t)
  ]

  any_complete : (xs : List Look) → Contains xs z → list_any test xs ≡ true
  any_complete [] c = absurd (let l = c.1 in omega arith)
  any_complete (x ∷ xs) c = elim (contains_cases x xs z c) [
    | inl e ↦ or_left (test x) (list_any test xs) (passes x e)
    | inr d ↦ or_right (test x) (list_any test xs) (any_complete xs d)
  ]

module _ (words : List ℕ) (end : Bool) where
  any_token : (a : ℕ) → list_any (is_token a) (looks_of words end) ≡ has_token words a
  any_token a = same_from_decides (list_any (is_token a) (looks_of words end)) (has_token words a)
      (any_sound (is_token a) (Token a) (token_is a) (is_the_token a) (looks_of words end), any_complete (is_token a) (Token a) (token_is a) (is_the_token a) (looks_of words end))
      (member_complete words end (Token a), member_sound words end (Token a))

  pub has_stream_end-looks_of : has_stream_end (looks_of words end) ≡ end
  unfolding has_stream_end
  has_stream_end-looks_of = same_from_decides (list_any is_end_look (looks_of words end)) end
      (any_sound is_end_look End end_is is_the_end (looks_of words end), any_complete is_end_look End end_is is_the_end (looks_of words end))
      (member_complete words end End, member_sound words end End)

word_by_same : (p q : ℕ → Bool) (n : ℕ) → ((i : ℕ) → i < n → p i ≡ q i) → bit_word_by p n ≡ bit_word_by q n
word_by_same p q zero h = refl
word_by_same p q (suc n) h = ap₂ (λ (x : ℕ) (t : Bool). x + (if t then 2 ^ n else 0)) (word_by_same p q n (λ i l. h i (omega arith))) (h n (omega arith))

one_bit : (b m : ℕ) → b < 2 → (if b == 1 then m else 0) ≡ b * m
one_bit b m l = elim (zero_or_one b l) [
  | inl e ↦ rw (test_not b e, e) (omega arith)
  | inr e ↦ rw (test_of b e, e) (omega arith)
]

word_by_bits : (w n : ℕ) → bit_word_by (λ i. bit_at w i == 1) n ≡ w % 2 ^ n
word_by_bits w zero = omega arith
word_by_bits w (suc n) =
    let low = word_by_bits w n in
    let split = mod-pow-add w 1 n in
    let top = one_bit (bit_at w n) (2 ^ n) (bit_at-lt w n) in
    let len : 1 + n ≡ suc n = omega arith in
    let whole : w % 2 ^ suc n ≡ bit_at w n * 2 ^ n + w % 2 ^ n = rw len at split in
    omega arith

words_by_len : (has : ℕ → Bool) (from n : ℕ) → length (bit_words_by has from n) ≡ n
words_by_len has from zero = refl
words_by_len has from (suc n) = ap suc (words_by_len has (from + 64) n)

words_by_at : (has : ℕ → Bool) (from n k : ℕ) → k < n → get_or (bit_words_by has from n) k 0 ≡ bit_word_by (λ i. has (from + 64 * k + i)) 64
words_by_at has from zero k l = absurd (omega arith)
words_by_at has from (suc n) zero l = word_by_same (λ i. has (from + i)) (λ i. has (from + 64 * 0 + i)) 64 (λ i _. ap has (omega arith))
words_by_at has from (suc n) (suc k) l = words_by_at has (from + 64) n k (omega arith) ∙ word_by_same (λ i. has (from + 64 + 64 * k + i)) (λ i. has (from + 64 * suc k + i)) 64 (λ i _. ap has (omega arith))

-- The words are determined by their lookaheads.
pub words_is : (W : ℕ) (words : List ℕ) (end : Bool) → AreBitWords W words → bit_words_of W (looks_of words end) ≡ words
unfolding bit_words_of has_token
words_is W words end h =
    let test : ℕ → Bool = λ a. list_any (is_token a) (looks_of words end) in
    let len : length (bit_words_by test 0 W) ≡ length words = words_by_len test 0 W ∙ sym h.width in
    same_number_lists (bit_words_by test 0 W) words len (λ k l.
    let kw : k < W = omega (arith, words_by_len test 0 W) in
    let kl : k < length words = omega arith in
    let small : get_or words k 0 < 2 ^ 64 = h.each k 0 kl in
    words_by_at test 0 W k kw
    ∙ word_by_same (λ i. test (0 + 64 * k + i)) (λ i. bit_at (get_or words k 0) i == 1) 64 (λ i li.
    let place : (0 + 64 * k + i) / 64 ≡ k = omega arith in
    let off : (0 + 64 * k + i) % 64 ≡ i = omega arith in
    any_token words end (0 + 64 * k + i) ∙ ap₂ (λ (x y : ℕ). bit_at (get_or words x 0) y == 1) place off)
    ∙ word_by_bits (get_or words k 0) 64 ∙ omega arith)

pub words_same : (W : ℕ) (v w : List ℕ) (e d : Bool) → AreBitWords W v → AreBitWords W w → looks_of v e ≡ looks_of w d → (v ≡ w) × (e ≡ d)
words_same W v w e d hv hw s = (
  sym (words_is W v e hv) ∙ ap (bit_words_of W) s ∙ words_is W w d hw,
  sym (has_stream_end-looks_of v e) ∙ ap has_stream_end s ∙ has_stream_end-looks_of w d,
)
