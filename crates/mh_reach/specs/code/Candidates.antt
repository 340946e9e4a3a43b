-- Definitions of the best candidate for the sentence of each state, and of the labels of arrivals, by the result of the
-- second search. A spot is a state with a next token; an arrival is the least sentence by which the second search
-- reaches a spot.
use Rattle.std.specs.Prelude.{◌≡◌, ℕ, List, [], ◌∷◌, ◌++◌, length, slice_get, Option, Some, None, ◌<◌, ◌≤◌, ◌⊎◌, ◌+◌, min}
use Rattle.mh_grammar.specs.declared.types.Sentence.{Sentence}
use Rattle.mh_tables_core.specs.Table.{TableData, cost_of_token}
use Rattle.mh_tables_core.specs.Run.{Refuses, run_move_of}
use Rattle.mh_tables_core.specs.Failing.{Fails, Failing, SentenceAtMost, cost_of_word}
use Rattle.mh_facts.specs.Costs.{cap}
use Rattle.mh_facts.specs.declared.classes.TokenClasses.{TokenClasses}
use Rattle.mh_facts.specs.code.BestFirst.{Label}
use Rattle.mh_facts.specs.code.TokenClasses.{IsSized, rep_of}
use Rattle.mh_facts.specs.code.WordCosts.{cost_up_to_cap, listed}
use Rattle.mh_reach_words.specs.declared.word_parts.WordParts.{WordParts}
use Rattle.mh_reach_words.specs.declared.word_parts.LastPart.TheVariants as lasts
use Rattle.mh_reach_words.specs.code.Sorting.{LexNoLater}
use Rattle.mh_reach_words.specs.code.Words.{Words, HasParts}
use Rattle.mh_reach_words.specs.declared.arrivals.StateAndNext.{StateAndNext}
use Rattle.mh_reach_words.specs.code.Arrivals.{spot}
use Rattle.mh_reach_words.specs.code.SentenceComparison.{numbers_of}
use Rattle.mh_reach_spots.specs.declared.spots.SpotArrival.{SpotArrival}
use Rattle.mh_reach_spots.specs.declared.spots.Spots.{Spots}
use Rattle.mh_reach_spots.specs.code.Spots.{IsWordAt, LabelAssignment, SpotList, arrival_at}
use Rattle.mh_reach.specs.Coming.{Comes}
use Rattle.mh_reach.specs.declared.sentences.FailureCandidate.{FailureCandidate}

-- The two sentences are in the order of a catalogue, or both have the highest cost.
abbrev pub InOrderOr : TableData → ℕ → List ℕ → ℕ → List ℕ → Type 0
InOrderOr t start w start' w' = SentenceAtMost t start w start' w' ⊎ ((cap ≤ cost_of_word t w) × (cap ≤ cost_of_word t w'))

-- The best candidate of a state: a sentence that reaches the state and the token that is refused there. Together they
-- are the sentence that comes first of all that fail in the state.
pub record IsBestCandidate (t : TableData) (book : Words) (s : ℕ) (b : FailureCandidate) : Type 0 where
  pub label : Label
  pub numbered : b.cost < cap → IsWordAt book b.sentence (numbers_of label)
  pub fails : Fails t label.start (label.word ++ b.token ∷ []) s
  pub cost_is : b.cost ≡ min (cost_of_word t (label.word ++ b.token ∷ [])) cap
  pub first : (start : ℕ) (w : List ℕ) → Fails t start w s → InOrderOr t label.start (label.word ++ b.token ∷ []) start w

abbrev pub IsBestAt : TableData → Words → ℕ → Option FailureCandidate → Type 0
IsBestAt t book s None = Failing t s → ⊥
IsBestAt t book s (Some b) = IsBestCandidate t book s b

-- No arrival costs more than the highest cost.
abbrev pub CostsAreCapped : SpotList → Type 0
CostsAreCapped spots = (k : StateAndNext) (r : SpotArrival) → arrival_at spots k ≡ Some r → r.cost ≤ cap

-- Each sentence below the highest cost has a number of the book.
abbrev pub AreKnownSentences : Words → SpotList → Type 0
AreKnownSentences book spots = (k : StateAndNext) (r : SpotArrival) → arrival_at spots k ≡ Some r → r.cost < cap → r.sentence < length book

abbrev pub spot_of : TokenClasses → ℕ → ℕ → StateAndNext
spot_of c s z = spot s (rep_of c s z)

-- The parts of the sentence of a candidate.
abbrev pub made_of : FailureCandidate → WordParts
made_of b = record { front = b.sentence; last = lasts.Token b.token }

-- The parts of the candidate's sentence are in the book, if it costs less than the highest cost.
abbrev pub IsKnownCandidate : Words → FailureCandidate → Type 0
IsKnownCandidate book b = b.cost < cap → HasParts book (made_of b)

-- The candidate a costs less than b, or costs the same and its sentence comes no later.
abbrev pub IsNoWorse : Words → FailureCandidate → FailureCandidate → Type 0
IsNoWorse book a b = (a.cost < b.cost) ⊎ ((a.cost ≡ b.cost) × (a.cost < cap → LexNoLater book (made_of a) (made_of b)))

-- The better of two candidates.
abbrev pub IsBetterOf : Words → FailureCandidate → FailureCandidate → FailureCandidate → Type 0
IsBetterOf book a b best = ((best ≡ a) × IsNoWorse book a b) ⊎ ((best ≡ b) × IsNoWorse book b a)

abbrev pub IsBetterOfOptions : Words → Option FailureCandidate → Option FailureCandidate → Option FailureCandidate → Type 0
IsBetterOfOptions book None b best = best ≡ b
IsBetterOfOptions book (Some a) None best = best ≡ Some a
IsBetterOfOptions book (Some a) (Some b) best = (x : FailureCandidate) × (best ≡ Some x) × IsBetterOf book a b x

-- The candidate of a state that refuses the token z after an arrival.
abbrev pub best_for : TableData → ℕ → SpotArrival → FailureCandidate
best_for t z r = record { cost = min (r.cost + cost_of_token t z) cap; sentence = r.sentence; token = z }

-- The candidate of a state for one token, none if the state does not refuse the token or is not reached with it.
abbrev pub IsCandidateOn : TableData → TokenClasses → SpotList → ℕ → ℕ → Option FailureCandidate → Type 0
IsCandidateOn t c spots s z None = (r : SpotArrival) → run_move_of t s (z ∷ []) ≡ Refuses → arrival_at spots (spot_of c s z) ≡ Some r → ⊥
IsCandidateOn t c spots s z (Some b) = (r : SpotArrival) × (run_move_of t s (z ∷ []) ≡ Refuses) × (arrival_at spots (spot_of c s z) ≡ Some r) × (b ≡ best_for t z r)

-- The best candidate of a state for the tokens below n.
abbrev pub IsBestBelow : TableData → TokenClasses → Words → SpotList → ℕ → ℕ → Option FailureCandidate → Type 0
IsBestBelow t c book spots s n None = (z : ℕ) (r : SpotArrival) → z < n → run_move_of t s (z ∷ []) ≡ Refuses → arrival_at spots (spot_of c s z) ≡ Some r → ⊥
IsBestBelow t c book spots s n (Some b) = ((z : ℕ) (r : SpotArrival) → z < n → run_move_of t s (z ∷ []) ≡ Refuses → arrival_at spots (spot_of c s z) ≡ Some r → IsNoWorse book b (best_for t z r))
    × ((z : ℕ) × (z < n) × IsCandidateOn t c spots s z (Some b))

-- The best candidate of each state below n.
pub record AreBest (t : TableData) (c : TokenClasses) (book : Words) (spots : SpotList) (n : ℕ) (best : List (Option FailureCandidate)) : Type 0 where
  pub len : length best ≡ n
  pub each : (s : ℕ) (b : Option FailureCandidate) → slice_get best s ≡ Some b → IsBestBelow t c book spots s t.grammar.tokens b

-- The label is the sentence that comes first of all that come to the state s with the token z next. Its cost by the
-- weights of the search is its cost by the table.
pub record IsComingLabel (t : TableData) (s z : ℕ) (l : Label) : Type 0 where
  pub comes : Comes t l.start l.word s z
  pub weighed : cost_up_to_cap t l.word ≡ min (cost_of_word t l.word) cap
  pub first : (start : ℕ) (w : List ℕ) → Comes t start w s z → InOrderOr t l.start l.word start w

abbrev pub IsComingAt : TableData → ℕ → ℕ → Option Label → Type 0
IsComingAt t s z None = (start : ℕ) (w : List ℕ) → Comes t start w s z → ⊥
IsComingAt t s z (Some l) = IsComingLabel t s z l

-- The result of both searches, with the best candidate of each state. The label of each arrival is the first sentence
-- that comes there.
pub record IsReachResult (t : TableData) (c : TokenClasses) (spots : Spots) (best : List (Option FailureCandidate)) : Type 0 where
  pub sized : IsSized t c
  pub label_assignment : LabelAssignment t spots.book spots.spots
  pub len : length best ≡ length t.states
  pub each : (s : ℕ) (b : Option FailureCandidate) → slice_get best s ≡ Some b → IsBestAt t spots.book s b
  pub comings : (s z : ℕ) → z < t.grammar.tokens → IsComingAt t s z (label_assignment.labels (spot_of c s z))

-- The number of the book is a sentence.
abbrev pub HasSentence : Words → ℕ → Type 0
HasSentence book n = (l : Label) × IsWordAt book n (numbers_of l)

-- The sentence of the number n of the book, followed by the last token, if there is one.
abbrev pub IsSentence : Words → ℕ → Option ℕ → Sentence → Type 0
IsSentence book n last sentence = (l : Label) → IsWordAt book n (numbers_of l) → (sentence.start ≡ l.start) × (sentence.tokens ≡ l.word ++ listed last)
