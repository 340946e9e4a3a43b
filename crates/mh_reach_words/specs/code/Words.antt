-- Definitions on numbered words, each made of a word with a lower number and a last part.
use Rattle.std.specs.Prelude.{◌≡◌, ◌<◌, ◌≤◌, ◌⊎◌, ℕ, suc, List, [], ◌∷◌, ◌++◌, length, slice_get, Option, Some, None}
use Rattle.mh_reach_words.specs.declared.word_parts.LastPart.{LastPart}
use Rattle.mh_reach_words.specs.declared.word_parts.LastPart.TheVariants as lasts
use Rattle.mh_reach_words.specs.declared.word_parts.WordParts.{WordParts}
use Rattle.mh_reach_words.specs.declared.word_parts.WordEntry.{WordEntry}

-- A word with the group that it belongs to.
pub record GroupedWord : Type 0 where
  pub letters : List ℕ
  pub group : ℕ

-- The words of a book; the number of a word is its index.
abbrev pub Words : Type 0
Words = List GroupedWord

abbrev pub letters_in : Option GroupedWord → List ℕ
letters_in None = []
letters_in (Some w) = w.letters

abbrev pub group_in : Option GroupedWord → ℕ
group_in None = 0
group_in (Some w) = w.group

abbrev pub letters_of : Words → ℕ → List ℕ
letters_of words n = letters_in (slice_get words n)

abbrev pub group_of : Words → ℕ → ℕ
group_of words n = group_in (slice_get words n)

abbrev pub word_of_last : Words → LastPart → List ℕ
word_of_last words (lasts.Token x) = x ∷ []
word_of_last words (lasts.Word n) = letters_of words n

-- The word that the parts spell: the word of the number `front`, followed by the last part.
abbrev pub spelled : Words → WordParts → List ℕ
spelled words m = letters_of words m.front ++ word_of_last words m.last

-- The last part is a token or the number of a word below n.
abbrev pub IsLastBelow : ℕ → LastPart → Type 0
IsLastBelow n (lasts.Token x) = Unit {0}
IsLastBelow n (lasts.Word m) = m < n

-- The parts are words with numbers below n, or tokens.
abbrev pub IsMadeBelow : ℕ → WordParts → Type 0
IsMadeBelow n m = (m.front < n) × IsLastBelow n m.last

-- The parts are in the book.
abbrev pub HasParts : Words → WordParts → Type 0
HasParts words m = IsMadeBelow (length words) m

-- The words u and v differ at some common position, and at the first such position u has the lower token.
abbrev pub LessAtDifference : List ℕ → List ℕ → Type 0
LessAtDifference [] v = ⊥
LessAtDifference (x ∷ u) [] = ⊥
LessAtDifference (x ∷ u) (y ∷ v) = (x < y) ⊎ ((x ≡ y) × LessAtDifference u v)

-- The word u is a proper prefix of v.
abbrev pub IsProperPrefix : List ℕ → List ℕ → Type 0
IsProperPrefix u v = (x : ℕ) × (r : List ℕ) × (v ≡ u ++ x ∷ r)

-- The groups rise with the numbers, and in each group the words rise at their first difference.
abbrev pub InGroups : Words → Type 0
InGroups words = (n m : ℕ) → n < m → m < length words → (group_of words n ≤ group_of words m) × (group_of words n ≡ group_of words m → LessAtDifference (letters_of words n) (letters_of words m))

-- The words of a book: the empty word has the number 0 and the group 0, and the words are in their order.
pub record IsBook (words : Words) : Type 0 where
  pub some : 0 < length words
  pub empty : letters_of words 0 ≡ []
  pub free : group_of words 0 ≡ 0
  pub groups : InGroups words

-- The words of the entries of a book.

abbrev pub word_of : Words → WordEntry → GroupedWord
word_of words e = record { letters = spelled words e.made; group = e.group }

abbrev pub grown : Words → List WordEntry → Words
grown words [] = words
grown words (e ∷ es) = grown (words ++ word_of words e ∷ []) es

abbrev pub empty_word : GroupedWord
empty_word = record { letters = []; group = 0 }

abbrev pub words_of : List WordEntry → Words
words_of entries = grown (empty_word ∷ []) entries

-- The invariant of the entries of a book.
pub record AreSoundEntries (entries : List WordEntry) : Type 0 where
  pub parts : (i : ℕ) (e : WordEntry) → slice_get entries i ≡ Some e → IsMadeBelow (suc i) e.made
  pub groups : InGroups (words_of entries)
