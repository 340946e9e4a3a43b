-- Lookaheads as the bits of words: token a is bit a % 64 of word a / 64.
use Rattle.std.specs.Prelude.{◌≡◌, ◌<◌, ◌≤◌, ◌+◌, ◌*◌, ◌/◌, ◌%◌, ◌^◌, ℕ, zero, suc, Bool, true, false, List, [], ◌∷◌, length, slice_index, ◌==◌, if◌then◌else◌}
use Rattle.std.specs.List.{All, list_any}
use Rattle.std.specs.Int.{bit_at}
use Rattle.mh_grammar.specs.declared.types.Look.{Look}
use Rattle.mh_grammar.specs.declared.types.Look.TheVariants.{Token, End}

-- True if the token's bit is set.
unfoldable pub has_token : List ℕ → ℕ → Bool
has_token words a = bit_at (slice_index words (a / 64)) (a % 64) == 1

-- The tokens that pass a test, among the given number of tokens from a first one on, rising; after them the end of the
-- stream, if `end` is true.
abbrev pub looks_from : (ℕ → Bool) → Bool → ℕ → ℕ → List Look
looks_from has end from zero = if end then End ∷ [] else []
looks_from has end from (suc n) = if has from then Token from ∷ looks_from has end (from + 1) n else looks_from has end (from + 1) n

-- The lookaheads of a set, rising.
unfoldable pub looks_of : List ℕ → Bool → List Look
looks_of words end = looks_from (has_token words) end 0 (64 * length words)

-- The words of a set of width W.
pub record AreBitWords (W : ℕ) (words : List ℕ) : Type 0 where
  pub few : W ≤ 8
  pub width : length words ≡ W
  pub each : All (λ w. w < 2 ^ 64) words

-- The words of a rising list of lookaheads.

abbrev pub is_token : ℕ → Look → Bool
is_token a (Token b) = a == b
is_token a End = false

abbrev pub is_end_look : Look → Bool
is_end_look (Token b) = false
is_end_look End = true

-- The word whose bits are those that pass the test.
abbrev pub bit_word_by : (ℕ → Bool) → ℕ → ℕ
bit_word_by has zero = 0
bit_word_by has (suc n) = bit_word_by has n + (if has n then 2 ^ n else 0)

abbrev pub bit_words_by : (ℕ → Bool) → ℕ → ℕ → List ℕ
bit_words_by has from zero = []
bit_words_by has from (suc n) = bit_word_by (λ i. has (from + i)) 64 ∷ bit_words_by has (from + 64) n

-- The W words whose bits are the tokens of the list.
unfoldable pub bit_words_of : ℕ → List Look → List ℕ
bit_words_of W looks = bit_words_by (λ a. list_any (is_token a) looks) 0 W

unfoldable pub has_stream_end : List Look → Bool
has_stream_end looks = list_any is_end_look looks
