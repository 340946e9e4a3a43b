-- Definitions on the numbers of sentences of one cost, which are one group of the book.
use Rattle.std.specs.Prelude.{◌≡◌, ◌<◌, ◌≤◌, ◌+◌, ℕ, List, ◌++◌, length, map, slice_get, Some}
use Rattle.std.specs.List.{Contains}
use Rattle.std.specs.List.Sorted.{IsNonDecreasingBy}
use Rattle.mh_facts.specs.Costs.{cap}
use Rattle.mh_reach_words.specs.declared.word_parts.WordParts.{WordParts}
use Rattle.mh_reach_words.specs.code.Words.{Words, LessAtDifference, letters_of}
use Rattle.mh_reach_words.specs.code.Numbering.{AreBelowGroup, AreKnown, ArePrefixFree, IsNumberOf}
use Rattle.mh_reach_spots.specs.declared.waiting.RankedSpot.{RankedSpot}
use Rattle.mh_reach_spots.specs.declared.waiting.WaitingSpot.{WaitingSpot}

abbrev pub mades : List WaitingSpot → List WordParts
mades all = map (λ o. o.made) all

-- The sentences of a cost are a group above those of the words and of lower costs.
abbrev pub sentence_group : ℕ → ℕ
sentence_group cost = cap + 1 + cost

-- The sentences of the arrivals can be added to the book as one group.
pub record AreSentences (book : Words) (cost : ℕ) (all : List WaitingSpot) : Type 0 where
  pub known : AreKnown book (mades all)
  pub fresh : AreBelowGroup book (sentence_group cost)
  pub prefix_free : ArePrefixFree book (mades all)

-- The sentences are added to the book, and `numbers` has the number of each. Those of the highest cost have no numbers.
pub record SentencesAreNumbered (old new : Words) (cost : ℕ) (all : List WaitingSpot) (numbers : List ℕ) : Type 0 where
  pub len : length numbers ≡ length all
  pub added : Words
  pub grown : new ≡ old ++ added
  pub below : AreBelowGroup old (sentence_group cost) → AreBelowGroup new (sentence_group (cost + 1))
  pub each : cost < cap → (i n : ℕ) (o : WaitingSpot) → slice_get all i ≡ Some o → slice_get numbers i ≡ Some n → IsNumberOf old new o.made n
  pub rising : cost < cap → (m n : ℕ) → length old ≤ m → m < n → n < length new → LessAtDifference (letters_of new m) (letters_of new n)

abbrev pub unranked : List RankedSpot → List WaitingSpot
unranked rs = map (λ r. r.coming) rs

-- The arrival and the number at index n.
pub record IsPaired (all : List WaitingSpot) (numbers : List ℕ) (n : ℕ) (r : RankedSpot) : Type 0 where
  pub coming : slice_get all n ≡ Some r.coming
  pub sentence : slice_get numbers n ≡ Some r.sentence

pub record ArePaired (all : List WaitingSpot) (numbers : List ℕ) (count : ℕ) (pairs : List RankedSpot) : Type 0 where
  pub len : length pairs ≡ count
  pub each : (n : ℕ) (r : RankedSpot) → slice_get pairs n ≡ Some r → IsPaired all numbers n r

-- The list has the same arrivals, sorted by their numbers.
pub record IsRanked (all : List WaitingSpot) (numbers : List ℕ) (rs : List RankedSpot) : Type 0 where
  pub kept : (o : WaitingSpot) → Contains all o → Contains (unranked rs) o
  pub only : (r : RankedSpot) → Contains rs r → (n : ℕ) × IsPaired all numbers n r
  pub is_sorted : IsNonDecreasingBy (λ r. r.sentence) rs
