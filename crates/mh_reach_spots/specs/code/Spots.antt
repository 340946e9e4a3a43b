-- Definitions on spots, which are states with a next token, and on the least sentences by which they are reached.
use Rattle.std.specs.Prelude.{◌≡◌, ◌<◌, ℕ, List, length, Option, Some, None}
use Rattle.std.specs.Map.{lookup}
use Rattle.mh_tables_core.specs.Table.{TableData}
use Rattle.mh_facts.specs.Costs.{cap}
use Rattle.mh_facts.specs.Search.{ReachesState}
use Rattle.mh_facts.specs.declared.classes.TokenClasses.{TokenClasses}
use Rattle.mh_facts.specs.code.BestFirst.{Label, HasNoLaterLabel, SoundLabel}
use Rattle.mh_facts.specs.code.TokenClasses.{rep_of}
use Rattle.mh_facts.specs.code.WordCosts.{cost_up_to_cap}
use Rattle.mh_reach_words.specs.code.Words.{Words, letters_of}
use Rattle.mh_reach_words.specs.declared.arrivals.StateAndNext.{StateAndNext}
use Rattle.mh_reach_words.specs.code.Arrivals.{LabelNoLater, labels_at, same_spot, spot}
use Rattle.mh_reach_words.specs.code.SentenceComparison.{numbers_of}
use Rattle.mh_reach_spots.specs.declared.spots.SpotArrival.{SpotArrival}
use Rattle.mh_reach_spots.specs.declared.spots.Spots.{Spots}

-- The spots that are reached, in the order in which they were stored.
abbrev pub SpotList : Type 0
SpotList = List (StateAndNext × SpotArrival)

abbrev pub arrival_at : SpotList → StateAndNext → Option SpotArrival
arrival_at spots k = lookup (same_spot k) spots

-- The number n of the book has the word w.
pub record IsWordAt (book : Words) (n : ℕ) (w : List ℕ) : Type 0 where
  pub known : n < length book
  pub is : letters_of book n ≡ w

-- The label of a spot, with the cost of its arrival and, below the highest cost, the number of its sentence.
pub record IsArrivalOfLabel (t : TableData) (book : Words) (labels : StateAndNext → Option Label) (k : StateAndNext) (r : SpotArrival) : Type 0 where
  pub label : Label
  pub is : labels k ≡ Some label
  pub cost_is : r.cost ≡ cost_up_to_cap t label.word
  pub numbered : r.cost < cap → IsWordAt book r.sentence (numbers_of label)

-- Labels for exactly the spots that are reached.
pub record LabelAssignment (t : TableData) (book : Words) (spots : SpotList) : Type 0 where
  pub labels : StateAndNext → Option Label
  pub none : (k : StateAndNext) → arrival_at spots k ≡ None → labels k ≡ None
  pub some : (k : StateAndNext) (r : SpotArrival) → arrival_at spots k ≡ Some r → IsArrivalOfLabel t book labels k r

-- The result of the second search: each label is a sentence that reaches its spot, and for each sentence that reaches a
-- spot there is a label that comes no later.
pub record AreLeastArrivals (t : TableData) (c : TokenClasses) (spots : Spots) : Type 0 where
  pub label_assignment : LabelAssignment t spots.book spots.spots
  pub sound : (s z : ℕ) (l : Label) → label_assignment.labels (spot s z) ≡ Some l → SoundLabel t (rep_of c) s z l
  pub complete : (i s z : ℕ) (v : List ℕ) → i < length t.grammar.starts → z < t.grammar.tokens → ReachesState t i s z v → HasNoLaterLabel (LabelNoLater t) (labels_at label_assignment.labels) s (rep_of c s z) (record { start = i; word = v })
