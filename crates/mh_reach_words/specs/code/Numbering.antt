-- Definitions on the numbering of words.
use Rattle.std.specs.Prelude.{◌≡◌, ◌<◌, ◌≤◌, ◌+◌, ◌⊎◌, ℕ, suc, List, [], ◌∷◌, ◌++◌, length, slice_get, Option, Some, Bool, true, false}
use Rattle.std.specs.List.{Contains}
use Rattle.mh_reach_words.specs.declared.word_parts.WordParts.{WordParts}
use Rattle.indexmap.specs.IndexMap.{get}
use Rattle.mh_reach_words.specs.contracts.word_parts.WordPartsPartialEq.TheImpl.{ghosts}
use Rattle.mh_reach_words.specs.declared.word_parts.WordEntry.{WordEntry}
use Rattle.mh_reach_words.specs.declared.numbering.PartialNumbering.{PartialNumbering}
use Rattle.mh_reach_words.specs.declared.numbering.NumberedWords.{NumberedWords}
use Rattle.mh_reach_words.specs.code.Sorting.{LexNoLater, HaveSameElements, IsSortOf}
use Rattle.mh_reach_words.specs.code.Words.{Words, AreSoundEntries, HasParts, LessAtDifference, IsProperPrefix, letters_of, group_of, spelled, words_of}

-- The parts of each word are in the book.
abbrev pub AreKnown : Words → List WordParts → Type 0
AreKnown words made = (m : WordParts) → Contains made m → HasParts words m

-- No word is a proper prefix of another.
abbrev pub ArePrefixFree : Words → List WordParts → Type 0
ArePrefixFree words made = (m o : WordParts) → Contains made m → Contains made o → IsProperPrefix (spelled words m) (spelled words o) → ⊥

-- The groups of all words are below the given group.
abbrev pub AreBelowGroup : Words → ℕ → Type 0
AreBelowGroup words group = (n : ℕ) → n < length words → group_of words n < group

-- The number n is new, and its word is the one that m spells.
pub record IsNumberOf (old new : Words) (m : WordParts) (n : ℕ) : Type 0 where
  pub fresh : length old ≤ n
  pub known : n < length new
  pub letters : letters_of new n ≡ spelled old m

-- The words are appended to the book as one group, each once, and `numbers` has the number of each.
pub record IsNumberingOf (old new : Words) (group : ℕ) (made : List WordParts) (numbers : List ℕ) : Type 0 where
  pub added : Words
  pub grown : new ≡ old ++ added
  pub groups : (n : ℕ) → length old ≤ n → n < length new → group_of new n ≡ group
  pub only : (n : ℕ) → length old ≤ n → n < length new → (m : WordParts) × Contains made m × (letters_of new n ≡ spelled old m)
  pub len : length numbers ≡ length made
  pub each : (i : ℕ) (m : WordParts) (n : ℕ) → slice_get made i ≡ Some m → slice_get numbers i ≡ Some n → IsNumberOf old new m n

-- The steps of the numbering.

abbrev pub number_in : PartialNumbering → WordParts → Option ℕ
number_in given m = get ghosts.eq given.numbers m

-- The parts m are inserted into a set.
pub record InsertsOnce (old new : List WordParts) (m : WordParts) : Type 0 where
  pub has : Contains new m
  pub kept : (o : WordParts) → Contains old o → Contains new o
  pub only : (o : WordParts) → Contains new o → Contains old o ⊎ (o ≡ m)

-- Two words that are not equal.
abbrev pub AreDifferent : List ℕ → List ℕ → Type 0
AreDifferent u v = (LessAtDifference u v ⊎ IsProperPrefix u v) ⊎ (LessAtDifference v u ⊎ IsProperPrefix v u)

-- The list `ordered` is sorted lexicographically and has the same words.
pub record SortsDistinct (words : Words) (made ordered : List WordParts) : Type 0 where
  pub distinct : List WordParts
  pub same : HaveSameElements made distinct
  pub sorts : IsSortOf (LexNoLater words) distinct ordered

-- Whether two words are equal.
abbrev pub IsEqual : Words → WordParts → WordParts → Bool → Type 0
IsEqual words m o true = spelled words m ≡ spelled words o
IsEqual words m o false = AreDifferent (spelled words m) (spelled words o)

-- Whether the word at an index equals the word before it.
abbrev pub IsRepeated : Words → List WordParts → ℕ → Bool → Type 0
IsRepeated words made place true = (p : ℕ) × (m : WordParts) × (o : WordParts) × (place ≡ suc p) × (slice_get made p ≡ Some m) × (slice_get made place ≡ Some o) × IsEqual words m o true
IsRepeated words made place false = (p : ℕ) (m o : WordParts) → place ≡ suc p → slice_get made p ≡ Some m → slice_get made place ≡ Some o → IsEqual words m o false

-- The word at an index becomes a new entry, unless it equals the word before it.
abbrev pub AddsNew : Words → ℕ → List WordParts → ℕ → List WordEntry → List WordEntry → Type 0
AddsNew words group made place old new = (IsRepeated words made place true × (new ≡ old))
    ⊎ ((m : WordParts) × (slice_get made place ≡ Some m) × IsRepeated words made place false × (new ≡ old ++ record { made = m; group = group } ∷ []))

-- The word of the new entry j is the one that m spells.
pub record HasEntryAt (words : Words) (es : List WordEntry) (m : WordParts) (j : ℕ) : Type 0 where
  pub entry : WordEntry
  pub at : slice_get es j ≡ Some entry
  pub same : spelled words entry.made ≡ spelled words m

-- The invariant of the numbering after `count` words of the sorted list.
pub record IsNumberedUpTo (entries : List WordEntry) (group : ℕ) (ordered : List WordParts) (count : ℕ) (given : PartialNumbering) : Type 0 where
  pub begun : count ≡ 0 → given.entries.items ≡ []
  pub made : (j : ℕ) (e : WordEntry) → slice_get given.entries.items j ≡ Some e → Contains ordered e.made × (e.group ≡ group)
  pub rising : (j k : ℕ) (d e : WordEntry) → j < k → slice_get given.entries.items j ≡ Some d → slice_get given.entries.items k ≡ Some e → LessAtDifference (spelled (words_of entries) d.made) (spelled (words_of entries) e.made)
  pub last : (p : ℕ) (m : WordParts) → count ≡ suc p → slice_get ordered p ≡ Some m → (j : ℕ) × (length given.entries.items ≡ suc j) × HasEntryAt (words_of entries) given.entries.items m j
  pub numbers : (i : ℕ) (m : WordParts) → i < count → slice_get ordered i ≡ Some m → (j : ℕ) × (number_in given m ≡ Some (length (words_of entries) + j)) × HasEntryAt (words_of entries) given.entries.items m j

-- The words are numbered, and the new entries may be appended to the old ones.
pub record IsNumberedGroup (entries : List WordEntry) (group : ℕ) (made : List WordParts) (numbered : NumberedWords) : Type 0 where
  pub sound : AreSoundEntries (entries ++ numbered.entries.items)
  pub numbers : IsNumberingOf (words_of entries) (words_of (entries ++ numbered.entries.items)) group made numbered.numbers.items

-- The list `numbers` has the number of each word, in the order of the words.
pub record AreNumbers (given : PartialNumbering) (made : List WordParts) (numbers : List ℕ) : Type 0 where
  pub len : length numbers ≡ length made
  pub each : (i : ℕ) (m : WordParts) (n : ℕ) → slice_get made i ≡ Some m → slice_get numbers i ≡ Some n → number_in given m ≡ Some n
