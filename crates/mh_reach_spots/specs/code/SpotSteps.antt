-- Definitions of the arrivals that follow from a settled arrival at a spot.
use Rattle.std.specs.Prelude.{◌≡◌, ◌<◌, ◌≤◌, ◌+◌, ◌⊎◌, ℕ, List, [], ◌∷◌, length, min}
use Rattle.std.specs.List.{Contains}
use Rattle.std.specs.Global.{Vec}
use Rattle.mh_grammar.specs.declared.types.Symbol.TheVariants.{T}
use Rattle.mh_grammar.specs.declared.edges.Edge.{Edge}
use Rattle.mh_tables_core.specs.Table.{TableData, cost_of_token}
use Rattle.mh_tables_core.specs.Run.{Shifts, run_move_of}
use Rattle.mh_facts.specs.Costs.{cap}
use Rattle.mh_facts.specs.declared.classes.TokenClasses.{TokenClasses}
use Rattle.mh_facts.specs.code.Queues.{Among, Below, IsSameQueueEntry, row_of}
use Rattle.mh_facts.specs.code.TokenClasses.{AreTokenClasses, place_of, rep_of, representatives_at}
use Rattle.mh_reach_words.specs.declared.word_parts.WordParts.{WordParts}
use Rattle.mh_reach_words.specs.declared.word_parts.LastPart.{LastPart}
use Rattle.mh_reach_words.specs.declared.word_parts.LastPart.TheVariants as lasts
use Rattle.mh_reach_words.specs.code.Arrivals.{spot}
use Rattle.mh_reach_spots.specs.declared.goto_rows.NumberedGoto.{NumberedGoto}
use Rattle.mh_reach_spots.specs.declared.waiting.SettledSpot.{SettledSpot}
use Rattle.mh_reach_spots.specs.declared.waiting.WaitingSpot.{WaitingSpot}

-- The classes are those of the table, and the arrival is at one of its states, with a cost up to the highest.
pub record CanStepFrom (t : TableData) (c : TokenClasses) (from : SettledSpot) : Type 0 where
  pub classes : AreTokenClasses t c
  pub state : from.spot.state < length t.states
  pub cost : from.cost ≤ cap

-- The arrival at a state by a sentence, with the next token z.
abbrev pub StepsOn : ℕ → ℕ → WordParts → ℕ → ℕ → WaitingSpot → Type 0
StepsOn cost state made z = IsSameQueueEntry cost (record { spot = spot state z; made = made })

-- The sentence of a settled arrival, followed by one more part.
abbrev pub made_after : SettledSpot → LastPart → WordParts
made_after from last = record { front = from.sentence; last = last }

-- The arrival o follows by a shift of the token x.
pub record StepsAlong (t : TableData) (c : TokenClasses) (from : SettledSpot) (x at : ℕ) (o : WaitingSpot) : Type 0 where
  pub end : ℕ
  pub following : ℕ
  pub token : rep_of c from.spot.state x ≡ from.spot.next
  pub move : run_move_of t from.spot.state (x ∷ []) ≡ Shifts end
  pub listed : Contains (representatives_at c end) following
  pub cost_is : at ≡ min (from.cost + cost_of_token t x) cap
  pub is : o ≡ record { spot = spot end following; made = made_after from (lasts.Token x) }

abbrev pub StepsShift : TableData → TokenClasses → SettledSpot → ℕ → WaitingSpot → Type 0
StepsShift t c from at o = (x : ℕ) × StepsAlong t c from x at o

-- The arrival follows by a shift of the edge's token.
abbrev pub StepsEdge : TableData → TokenClasses → SettledSpot → Edge → ℕ → WaitingSpot → Type 0
StepsEdge t c from edge at o = (x : ℕ) × (edge.symbol ≡ T x) × StepsAlong t c from x at o

-- The arrival follows by the goto fact w.
pub record StepsOverGoto (from : SettledSpot) (w : NumberedGoto) (at : ℕ) (o : WaitingSpot) : Type 0 where
  pub at_state : w.fact.from ≡ from.spot.state
  pub begins : w.fact.first ≡ from.spot.next
  pub cost_is : at ≡ min (from.cost + w.cost) cap
  pub is : o ≡ record { spot = spot w.target w.fact.next; made = made_after from (lasts.Word w.word) }

abbrev pub FollowsSpot : TableData → TokenClasses → List (Vec NumberedGoto) → SettledSpot → ℕ → WaitingSpot → Type 0
FollowsSpot t c rows from at o = StepsShift t c from at o ⊎ Among (StepsOverGoto from) (row_of rows (place_of c from.spot.state from.spot.next)) at o

-- The arrival at the beginning of a run, with one next token. Its sentence is the number of the start.
abbrev pub IsStartArrivalOn : ℕ → ℕ → ℕ → WaitingSpot → Type 0
IsStartArrivalOn start z = IsSameQueueEntry 0 (record { spot = spot start z; made = record { front = 0; last = lasts.Token start } })

abbrev pub IsStartArrival : TableData → TokenClasses → ℕ → WaitingSpot → Type 0
IsStartArrival t c = Below (λ start. Among (IsStartArrivalOn start) (representatives_at c start)) (length t.grammar.starts)
