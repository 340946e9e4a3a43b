-- The invariant of the second search. An arrival waits in the queue until it is settled, that is, stored as the least
-- arrival of its spot. A level is all arrivals of one cost.
use Rattle.std.specs.Prelude.{◌≡◌, ◌<◌, ◌≤◌, ◌+◌, ◌⊎◌, ℕ, List, [], length, Option, Some, None}
use Rattle.std.specs.List.{Contains}
use Rattle.std.specs.Global.{Vec}
use Rattle.mh_tables_core.specs.Table.{TableData}
use Rattle.mh_facts.specs.Costs.{cap}
use Rattle.mh_facts.specs.declared.classes.TokenClasses.{TokenClasses}
use Rattle.mh_facts.specs.code.BestFirst.{Label, HasNoLaterLabel, LabelsClosedByGotos, SoundLabel}
use Rattle.mh_facts.specs.code.Queues.{Waits, WaitsOrIsListed}
use Rattle.mh_facts.specs.code.TokenClasses.{rep_of}
use Rattle.mh_facts.specs.code.WordCosts.{cost_up_to_cap}
use Rattle.mh_reach_words.specs.code.Numbering.{AreBelowGroup}
use Rattle.mh_reach_words.specs.code.Sorting.{IsSorted}
use Rattle.mh_reach_words.specs.code.Words.{Words, HasParts, spelled}
use Rattle.mh_reach_words.specs.declared.arrivals.StateAndNext.{StateAndNext}
use Rattle.mh_reach_words.specs.code.Arrivals.{LabelNoLater, labels_at, spot}
use Rattle.mh_reach_words.specs.code.QueueDraws.{AppendsUnlessDone, DrawsAll, DrawsNone, DrawsOne, DrawsSome}
use Rattle.mh_reach_words.specs.code.SentenceComparison.{numbers_of}
use Rattle.mh_reach_rests.specs.code.ClosedRests.{GotoWords}
use Rattle.mh_reach_spots.specs.declared.goto_rows.NumberedGoto.{NumberedGoto}
use Rattle.mh_reach_spots.specs.declared.spots.SpotArrival.{SpotArrival}
use Rattle.mh_reach_spots.specs.declared.waiting.RankedSpot.{RankedSpot}
use Rattle.mh_reach_spots.specs.declared.waiting.WaitingSpot.{WaitingSpot}
use Rattle.mh_reach_spots.specs.code.GotoRows.{HasGotoWord, HasGotos}
use Rattle.mh_reach_spots.specs.code.SpotNumbers.{sentence_group, unranked}
use Rattle.mh_reach_spots.specs.code.Spots.{IsWordAt, LabelAssignment, SpotList, arrival_at}

abbrev pub SpotQueue : Type 0
SpotQueue = List (Vec WaitingSpot)

-- The label has the cost of an arrival that waits and, below the highest cost, is what its parts spell.
pub record IsLabelOf (t : TableData) (book : Words) (cost : ℕ) (o : WaitingSpot) (l : Label) : Type 0 where
  pub cost_is : cost ≡ cost_up_to_cap t l.word
  pub is : cost < cap → spelled book o.made ≡ numbers_of l

-- An arrival that waits is in range, and it has a sound label.
pub record IsSoundSpot (t : TableData) (c : TokenClasses) (book : Words) (cost : ℕ) (o : WaitingSpot) : Type 0 where
  pub state : o.spot.state < length t.states
  pub token : o.spot.next < t.grammar.tokens
  pub few : cost ≤ cap
  pub known : cost < cap → HasParts book o.made
  pub label : Label
  pub label_is : IsLabelOf t book cost o label
  pub sound : SoundLabel t (rep_of c) o.spot.state o.spot.next label

-- The arrival waits in the queue, or in a separate list of arrivals of the level's cost.
abbrev pub Waiting : SpotQueue → ℕ → List WaitingSpot → ℕ → WaitingSpot → Type 0
Waiting q level beside cost o = WaitsOrIsListed q level beside cost o

-- The label of the spot, or a label of an arrival that waits for the spot, comes no later than l.
abbrev pub IsPendingLabel : TableData → Words → (StateAndNext → Option Label) → (ℕ → WaitingSpot → Type 0) → ℕ → ℕ → Label → Type 0
IsPendingLabel t book labels waits s z l = HasNoLaterLabel (LabelNoLater t) (labels_at labels) s z l
    ⊎ ((cost : ℕ) × (o : WaitingSpot) × (k : Label) × waits cost o × (o.spot ≡ spot s z) × IsLabelOf t book cost o k × LabelNoLater t k l)

-- The invariant at a level: all arrivals of a lower cost are settled. Arrivals of the level's cost may wait in the
-- separate list `beside`.
pub record SpotInvariant (t : TableData) (c : TokenClasses) (gotos : GotoWords) (book : Words) (spots : SpotList) (q : SpotQueue) (level : ℕ) (beside : List WaitingSpot) : Type 0 where
  pub label_assignment : LabelAssignment t book spots
  pub closed : LabelsClosedByGotos t (rep_of c) (HasGotoWord gotos) (labels_at label_assignment.labels) (IsPendingLabel t book label_assignment.labels (Waiting q level beside))
  pub sound : (s z : ℕ) (l : Label) → label_assignment.labels (spot s z) ≡ Some l → SoundLabel t (rep_of c) s z l
  pub items : (cost : ℕ) (o : WaitingSpot) → Waiting q level beside cost o → IsSoundSpot t c book cost o
  pub at_least_level : (cost : ℕ) (o : WaitingSpot) → Waiting q level beside cost o → level ≤ cost
  pub at_most_level : (k : StateAndNext) (r : SpotArrival) → arrival_at spots k ≡ Some r → r.cost ≤ level
  -- Stored labels come no later than the labels of arrivals that wait.
  pub before : (k : StateAndNext) (l m : Label) (cost : ℕ) (o : WaitingSpot) → label_assignment.labels k ≡ Some l → Waiting q level beside cost o → IsLabelOf t book cost o m → LabelNoLater t l m

-- The labels of x come no later than the labels of y, of the given costs.
abbrev pub NoLaterAt : TableData → Words → ℕ → ℕ → WaitingSpot → WaitingSpot → Type 0
NoLaterAt t book cost cost' x y = (k l : Label) → IsLabelOf t book cost x k → IsLabelOf t book cost' y l → LabelNoLater t k l

-- Each arrival of a level has the number of its label.
abbrev pub AreRanked : TableData → Words → ℕ → List RankedSpot → Type 0
AreRanked t book level rs = level < cap → (r : RankedSpot) (l : Label) → Contains rs r → IsLabelOf t book level r.coming l → IsWordAt book r.sentence (numbers_of l)

-- Each arrival of the level in the queue comes no later than all arrivals that wait, and its label has the number n.
-- The separate list is sorted by labels.
pub record SpotsInOrder (t : TableData) (c : TokenClasses) (gotos : GotoWords) (book : Words) (spots : SpotList) (q : SpotQueue) (level n : ℕ) (rs : List RankedSpot) : Type 0 where
  pub invariant : SpotInvariant t c gotos book spots q level (unranked rs)
  pub none_earlier : (x y : WaitingSpot) (cost : ℕ) → Waits q level x → Waiting q level (unranked rs) cost y → NoLaterAt t book level cost x y
  pub one_word : level < cap → (x : WaitingSpot) (l : Label) → Waits q level x → IsLabelOf t book level x l → IsWordAt book n (numbers_of l)
  pub rising : IsSorted (NoLaterAt t book level level) (unranked rs)
  pub ranked : AreRanked t book level rs

-- No arrival of the level waits in the queue, and the separate list is sorted by labels.
pub record SpotsReady (t : TableData) (c : TokenClasses) (gotos : GotoWords) (book : Words) (spots : SpotList) (q : SpotQueue) (level : ℕ) (rs : List RankedSpot) : Type 0 where
  pub invariant : SpotInvariant t c gotos book spots q level (unranked rs)
  pub none : (o : WaitingSpot) → Waits q level o → ⊥
  pub rising : IsSorted (NoLaterAt t book level level) (unranked rs)
  pub ranked : AreRanked t book level rs

-- The invariant with the rows of goto facts, before a level, inside a level, and between two arrivals of one sentence.
pub record BeforeLevel (t : TableData) (c : TokenClasses) (rows : List (Vec NumberedGoto)) (book : Words) (spots : SpotList) (q : SpotQueue) (level : ℕ) : Type 0 where
  pub found : HasGotos t c book rows
  pub invariant : SpotInvariant t c found.gotos book spots q level []
  pub below : AreBelowGroup book (sentence_group level)

pub record InLevel (t : TableData) (c : TokenClasses) (rows : List (Vec NumberedGoto)) (book : Words) (spots : SpotList) (q : SpotQueue) (level : ℕ) (rs : List RankedSpot) : Type 0 where
  pub found : HasGotos t c book rows
  pub ready : SpotsReady t c found.gotos book spots q level rs
  pub below : AreBelowGroup book (sentence_group (level + 1))

pub record InTurn (t : TableData) (c : TokenClasses) (rows : List (Vec NumberedGoto)) (book : Words) (spots : SpotList) (q : SpotQueue) (level n : ℕ) (rs : List RankedSpot) : Type 0 where
  pub found : HasGotos t c book rows
  pub order : SpotsInOrder t c found.gotos book spots q level n rs
  pub below : AreBelowGroup book (sentence_group (level + 1))

-- What is taken from the queue.

abbrev pub IsReachedAlready : SpotList → WaitingSpot → Type 0
IsReachedAlready spots o = (r : SpotArrival) × (arrival_at spots o.spot ≡ Some r)

-- The arrival i is the next one of the cost whose spot is not reached; arrivals at spots that are reached are dropped.
abbrev pub TakesUnreached : SpotList → SpotQueue → SpotQueue → ℕ → WaitingSpot → Type 0
TakesUnreached spots old new cost i = DrawsOne (IsReachedAlready spots) (λ o. arrival_at spots o.spot ≡ None) old new cost i

abbrev pub NoUnreachedLeft : SpotList → SpotQueue → SpotQueue → ℕ → Type 0
NoUnreachedLeft spots old new cost = DrawsNone (IsReachedAlready spots) old new cost

abbrev pub TakesNextSpot : SpotList → SpotQueue → SpotQueue → ℕ → Option WaitingSpot → Type 0
TakesNextSpot spots old new cost None = NoUnreachedLeft spots old new cost
TakesNextSpot spots old new cost (Some i) = TakesUnreached spots old new cost i

-- The arrival is appended to a list, unless its spot is reached.
abbrev pub KeepsUnreached : SpotList → WaitingSpot → List WaitingSpot → List WaitingSpot → Type 0
KeepsUnreached spots o old new = AppendsUnlessDone (IsReachedAlready spots) o old new

-- Some arrivals of the cost are taken; those at spots that are not reached are in the list `all`.
abbrev pub TakesSomeUnreached : SpotList → SpotQueue → SpotQueue → ℕ → List WaitingSpot → Type 0
TakesSomeUnreached spots old new cost all = DrawsSome (IsReachedAlready spots) old new cost all

-- All arrivals of the cost are taken.
abbrev pub TakesAllUnreached : SpotList → SpotQueue → SpotQueue → ℕ → List WaitingSpot → Type 0
TakesAllUnreached spots old new cost all = DrawsAll (IsReachedAlready spots) old new cost all
