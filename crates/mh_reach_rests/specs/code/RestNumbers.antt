-- Definitions on the numbering of the words of one cost in the search over rests.
use Rattle.std.specs.Prelude.{◌≡◌, ◌<◌, ◌≤◌, ◌+◌, ◌⊎◌, ℕ, List, [], ◌∷◌, ◌++◌, length, max, slice_get, Option, Some}
use Rattle.std.specs.List.{Contains}
use Rattle.mh_tables_core.specs.Table.{TableData, cost_of_token}
use Rattle.mh_facts.specs.declared.store.FactKey.{FactKey}
use Rattle.mh_facts.specs.declared.goto_fact.GotoFact.{GotoFact}
use Rattle.mh_facts.specs.Costs.{cap}
use Rattle.mh_facts.specs.code.Queues.{row_of}
use Rattle.mh_facts.specs.code.WordCosts.{cost_up_to_cap, listed}
use Rattle.mh_reach_words.specs.declared.word_parts.LastPart.TheVariants as lasts
use Rattle.mh_reach_words.specs.declared.word_parts.WordParts.{WordParts}
use Rattle.mh_reach_words.specs.code.Words.{Words, IsBook, HasParts, empty_word, letters_of, spelled}
use Rattle.mh_reach_words.specs.code.Numbering.{AreBelowGroup}
use Rattle.mh_reach_words.specs.code.WordNumbers.{IsNumberOfWord}
use Rattle.mh_reach_rests.specs.declared.settled.SettledWord.{SettledWord}
use Rattle.mh_reach_rests.specs.declared.settled.SettledWords.{SettledWords}
use Rattle.mh_reach_rests.specs.declared.waiting.WaitingWord.{WaitingWord}
use Rattle.mh_reach_rests.specs.declared.numbering.RestBook.{RestBook}
use Rattle.mh_reach_rests.specs.code.SettledWords.{SettledAssignment, IsOriginWord, rest_at, goto_at}

-- The parts are in the book and spell the word w.
pub record SpellsWord (book : Words) (made : WordParts) (w : List ℕ) : Type 0 where
  pub known : HasParts book made
  pub is : spelled book made ≡ w

abbrev pub IsNumberOfRest : SettledWords → FactKey → ℕ → Type 0
IsNumberOfRest settled k m = (e : SettledWord) → rest_at settled.rests k ≡ Some e → m ≡ e.word

abbrev pub IsNumberOfGoto : SettledWords → GotoFact → ℕ → Type 0
IsNumberOfGoto settled g m = (e : SettledWord) → goto_at settled.gotos g ≡ Some e → m ≡ e.word

-- The tokens below n are in the rows of their costs.
pub record AreTokensByCost (t : TableData) (n : ℕ) (rows : List (Rattle.std.specs.Global.Vec ℕ)) : Type 0 where
  pub all : (x : ℕ) → x < n → Contains (row_of rows (cost_of_token t x)) x
  pub known : (cost x : ℕ) → Contains (row_of rows cost) x → (x < n) × (cost_of_token t x ≡ cost)

-- The book has the empty word alone, there is a number for each token, and the tokens are in the rows of their costs.
pub record IsFreshBook (t : TableData) (words : RestBook) : Type 0 where
  pub book : words.book ≡ empty_word ∷ []
  pub len : length words.tokens.items ≡ t.grammar.tokens
  pub by_cost : AreTokensByCost t t.grammar.tokens words.by_cost.buckets.items

-- Each token of a cost below the level has the number of the word that is this token alone.
pub record AreTokensNumbered (t : TableData) (words : RestBook) (level : ℕ) : Type 0 where
  pub len : length words.tokens.items ≡ t.grammar.tokens
  pub by_cost : AreTokensByCost t t.grammar.tokens words.by_cost.buckets.items
  pub each : (x m : ℕ) → x < t.grammar.tokens → slice_get words.tokens.items x ≡ Some m → cost_of_token t x < level → IsNumberOfWord words.book m (cost_of_token t x) (x ∷ [])

-- The parts spell the token, if there is one, and the word of the number `rest`, which costs something or is the empty
-- word.
abbrev pub IsFrontOf : RestBook → Option ℕ → ℕ → WordParts → Type 0
IsFrontOf words token rest made = (t : TableData) (level : ℕ) → IsBook words.book → AreTokensNumbered t words level → rest < length words.book → ((x : ℕ) → token ≡ Some x → (x < t.grammar.tokens) × ((rest ≡ 0) ⊎ (cost_of_token t x < level))) → SpellsWord words.book made (listed token ++ letters_of words.book rest)

-- The parts spell the word of the item.
abbrev pub SpellsWaiting : TableData → SettledWords → RestBook → WaitingWord → WordParts → Type 0
SpellsWaiting t settled words i made = (assignment : SettledAssignment t words.book settled) (level : ℕ) (w : List ℕ) → IsBook words.book → AreTokensNumbered t words level → IsOriginWord t assignment.words i.origin w → cost_up_to_cap t w < cap → cost_up_to_cap t w ≤ level → SpellsWord words.book made w

pub record SpellAll (t : TableData) (settled : SettledWords) (words : RestBook) (items : List WaitingWord) (count : ℕ) (made : List WordParts) : Type 0 where
  pub len : length made ≡ count
  pub each : (n : ℕ) (i : WaitingWord) (m : WordParts) → slice_get items n ≡ Some i → slice_get made n ≡ Some m → SpellsWaiting t settled words i m

-- The parts of the word that is the token x alone.
abbrev pub token_alone : ℕ → WordParts
token_alone x = record { front = 0; last = lasts.Token x }

-- The first `count` numbers are stored for the tokens at their indices; the other tokens keep theirs.
pub record KeepsNumbers (given numbers : List ℕ) (count : ℕ) (old new : List ℕ) : Type 0 where
  pub len : length new ≡ length old
  pub same : (x : ℕ) → ((n : ℕ) → n < count → slice_get given n ≡ Some x → ⊥) → slice_get new x ≡ slice_get old x
  pub each : (n x : ℕ) → n < count → slice_get given n ≡ Some x → (k : ℕ) × (m : ℕ) × (slice_get given k ≡ Some x) × (slice_get numbers k ≡ Some m) × (slice_get new x ≡ Some m)

-- All items have the given cost; the settled words and the tokens of lower costs are numbered, and the book has the
-- empty word and words of lower costs only.
pub record AreRestsToNumber (t : TableData) (settled : SettledWords) (words : RestBook) (cost : ℕ) (items : List WaitingWord) : Type 0 where
  pub assignment : SettledAssignment t words.book settled
  pub tokens : AreTokensNumbered t words cost
  pub below : AreBelowGroup words.book (max 1 cost)
  pub most : cost ≤ cap
  pub each : (i : WaitingWord) → Contains items i → (w : List ℕ) × IsOriginWord t assignment.words i.origin w × (cost ≡ cost_up_to_cap t w)

-- The words of the items and of the tokens of the cost are added to the book, and `numbers` has the number of each
-- item's word.
pub record RestsAreNumbered (t : TableData) (settled : SettledWords) (old new : RestBook) (cost : ℕ) (items : List WaitingWord) (numbers : List ℕ) : Type 0 where
  pub len : length numbers ≡ length items
  pub added : Words
  pub grown : new.book ≡ old.book ++ added
  pub below : AreBelowGroup old.book (max 1 cost) → AreBelowGroup new.book (cost + 1)
  pub tokens : AreTokensNumbered t old cost → AreTokensNumbered t new (cost + 1)
  pub each : (assignment : SettledAssignment t old.book settled) (n m : ℕ) (i : WaitingWord) (w : List ℕ) → AreTokensNumbered t old cost → slice_get items n ≡ Some i → slice_get numbers n ≡ Some m → IsOriginWord t assignment.words i.origin w → cost ≡ cost_up_to_cap t w → cost < cap → IsNumberOfWord new.book m cost w
