-- The invariant of the search over rests, between two steps and at a level. A level is all work of one cost.
use Rattle.std.specs.Prelude.{◌≡◌, ◌<◌, ◌≤◌, ◌+◌, ◌-◌, ℕ, List, [], ◌∷◌, length, map, max, slice_get, Option, Some, None}
use Rattle.std.specs.List.{Contains}
use Rattle.std.specs.List.Sorted.{IsNonDecreasingBy}
use Rattle.mh_grammar.specs.declared.types.Symbol.TheVariants.{N}
use Rattle.mh_grammar.specs.Plain.{rhs_of}
use Rattle.mh_tables_core.specs.Table.{TableData, edge_of}
use Rattle.mh_facts.specs.declared.store.FactKey.{FactKey}
use Rattle.mh_facts.specs.declared.goto_fact.GotoFact.{GotoFact}
use Rattle.mh_facts.specs.declared.classes.TokenClasses.{TokenClasses}
use Rattle.mh_facts.specs.Costs.{cap}
use Rattle.mh_facts.specs.code.Queues.{AddsToRow, Among, QueueGains, Waits, WaitsOrIsListed}
use Rattle.mh_facts.specs.code.TokenClasses.{rep_of, place_of}
use Rattle.mh_facts.specs.code.WordCosts.{WordNoLater, cost_up_to_cap}
use Rattle.mh_reach_words.specs.code.Numbering.{AreBelowGroup}
use Rattle.mh_reach_words.specs.code.QueueDraws.{DrawsOne, DrawsNone, AppendsUnlessDone, DrawsAll}
use Rattle.mh_reach_words.specs.code.WordNumbers.{IsNumberOfWord}
use Rattle.mh_reach_rests.specs.declared.settled.SettledWord.{SettledWord}
use Rattle.mh_reach_rests.specs.declared.settled.SettledWords.{SettledWords}
use Rattle.mh_reach_rests.specs.declared.settling.RankedWord.{RankedWord}
use Rattle.mh_reach_rests.specs.declared.settling.RestsFound.{RestsFound}
use Rattle.mh_reach_rests.specs.declared.sought.Sought.{Sought}
use Rattle.mh_reach_rests.specs.declared.sought.Sought.TheVariants as soughts
use Rattle.mh_reach_rests.specs.declared.waiting.WaitingWord.{WaitingWord}
use Rattle.mh_reach_rests.specs.declared.waiting.SettledRest.{SettledRest}
use Rattle.mh_reach_rests.specs.declared.waiting.SettledGoto.{SettledGoto}
use Rattle.mh_reach_rests.specs.declared.waiting.RestData.{RestData}
use Rattle.mh_reach_rests.specs.code.RestSearch.{Settled, IsClosedStore, IsSettledBefore, IsSoundFor, RestInvariant}
use Rattle.mh_reach_rests.specs.code.RestRules.{AreRestRows, ExpandsRest, FollowsBoth, IsGotoInRange, IsRestToJoin, gotos_in, rests_in}
use Rattle.mh_reach_rests.specs.code.RestNumbers.{AreTokensNumbered}
use Rattle.mh_reach_rests.specs.code.SettledWords.{IsOriginWord, SettledAssignment, settled_at}

-- A word is settled for what the item's word is sought for.
abbrev pub IsDone : SettledWords → WaitingWord → Type 0
IsDone settled i = (e : SettledWord) × (settled_at settled i.sought ≡ Some e)

abbrev pub KeepsWaiting : SettledWords → WaitingWord → List WaitingWord → List WaitingWord → Type 0
KeepsWaiting settled i old new = AppendsUnlessDone (IsDone settled) i old new

abbrev pub TakesAllWaiting : SettledWords → List (Rattle.std.specs.Global.Vec WaitingWord) → List (Rattle.std.specs.Global.Vec WaitingWord) → ℕ → List WaitingWord → Type 0
TakesAllWaiting settled old new cost all = DrawsAll (IsDone settled) old new cost all

-- The next word of the cost for which none is settled, if there is one, is taken.
abbrev pub TakesNextWaiting : SettledWords → List (Rattle.std.specs.Global.Vec WaitingWord) → List (Rattle.std.specs.Global.Vec WaitingWord) → ℕ → Option WaitingWord → Type 0
TakesNextWaiting settled old new cost None = DrawsNone (IsDone settled) old new cost
TakesNextWaiting settled old new cost (Some i) = DrawsOne (IsDone settled) (λ o. settled_at settled o.sought ≡ None) old new cost i

abbrev pub as_rest : FactKey → (end cost : ℕ) → SettledRest
as_rest k end cost = record { key = k; end = end; cost = cost }

abbrev pub as_goto : GotoFact → (target cost : ℕ) → SettledGoto
as_goto g target cost = record { fact = g; target = target; cost = cost }

-- What a word is sought for is in range, with its end or target and a cost.
abbrev pub IsInRangeFor : TableData → Sought → (end cost : ℕ) → Type 0
IsInRangeFor t (soughts.Rest k) end cost = IsRestToJoin t (as_rest k end cost)
IsInRangeFor t (soughts.Goto g) end cost = IsGotoInRange t (as_goto g end cost)

-- A goto fact is in its row, and all words that follow from it wait in the queue.
pub record ExpandsGoto (t : TableData) (c : TokenClasses) (old new : RestData) (g : SettledGoto) : Type 0 where
  pub queue : QueueGains (Among (FollowsBoth t c g) (rests_in old (place_of c g.target g.fact.next))) old.queue.buckets.items new.queue.buckets.items
  pub gotos : AddsToRow old.gotos.items new.gotos.items (place_of c g.target g.fact.next) g
  pub rests : new.rests.items ≡ old.rests.items

abbrev pub ExpandsFor : TableData → TokenClasses → List (Rattle.std.specs.Global.Vec ℕ) → RestData → RestData → Sought → (end cost : ℕ) → Type 0
ExpandsFor t c sources old new (soughts.Rest k) end cost = ExpandsRest t c sources old new (as_rest k end cost)
ExpandsFor t c sources old new (soughts.Goto g) end cost = ExpandsGoto t c old new (as_goto g end cost)

-- What the settled item's word was sought for is in its row, and all words that follow from it wait in the queue.
abbrev pub ExpandsItem : TableData → TokenClasses → List (Rattle.std.specs.Global.Vec ℕ) → RestData → RestData → WaitingWord → ℕ → Type 0
ExpandsItem t c sources old new i cost = ExpandsFor t c sources old new i.sought i.end cost

-- The item waits in the queue, or in a separate list of items of the level's cost.
abbrev pub IsWaiting : RestData → ℕ → List WaitingWord → ℕ → WaitingWord → Type 0
IsWaiting work level beside cost i = WaitsOrIsListed work.queue.buckets.items level beside cost i

-- An item for k waits, and its word is u.
abbrev pub WaitsFor : TableData → Settled → (ℕ → WaitingWord → Type 0) → Sought → List ℕ → Type 0
WaitsFor t words waits k u = (cost : ℕ) × (i : WaitingWord) × waits cost i × (i.sought ≡ k) × IsOriginWord t words i.origin u

-- An item that waits is in range and sound, and its cost is the cost of its word.
pub record IsSoundItem (t : TableData) (rep : ℕ → ℕ → ℕ) (words : Settled) (cost : ℕ) (i : WaitingWord) : Type 0 where
  pub range : IsInRangeFor t i.sought i.end cost
  pub word : List ℕ
  pub word_by : IsOriginWord t words i.origin word
  pub cost_is : cost ≡ cost_up_to_cap t word
  pub short : cost ≡ 0 → word ≡ []
  pub sound : IsSoundFor t rep i.sought word

-- The invariant of the search at a level: all words of a lower cost are settled. Items of the level's cost may wait in
-- the separate list `beside`.
pub record RestLevel (t : TableData) (c : TokenClasses) (found : RestsFound) (level : ℕ) (beside : List WaitingWord) : Type 0 where
  pub assignment : SettledAssignment t found.words.book found.settled
  pub rows : AreRestRows t c found.work
  pub search_invariant : RestInvariant t (rep_of c) (WordNoLater t) assignment.words (WaitsFor t assignment.words (IsWaiting found.work level beside))
  pub items : (cost : ℕ) (i : WaitingWord) → IsWaiting found.work level beside cost i → IsSoundItem t (rep_of c) assignment.words cost i
  pub at_least_level : (cost : ℕ) (i : WaitingWord) → IsWaiting found.work level beside cost i → level ≤ cost
  pub at_most_level : (k : Sought) (e : SettledWord) → settled_at found.settled k ≡ Some e → e.cost ≤ level
  -- The rows have the settled rests that follow a nonterminal, and the settled goto facts.
  pub all_rests : (k : FactKey) (e : SettledWord) (n : ℕ) → settled_at found.settled (soughts.Rest k) ≡ Some e → slice_get (rhs_of t.grammar k.production) (k.dot - 1) ≡ Some (N n) → (r : SettledRest) × Contains (rests_in found.work (place_of c k.from k.first)) r × (r.key ≡ k)
  pub rests_only : (n : ℕ) (r : SettledRest) → Contains (rests_in found.work n) r → (e : SettledWord) × (settled_at found.settled (soughts.Rest r.key) ≡ Some e) × (e.cost ≡ r.cost)
  pub all_gotos : (g : GotoFact) (e : SettledWord) (target : ℕ) → settled_at found.settled (soughts.Goto g) ≡ Some e → edge_of t g.from (N g.nonterminal) ≡ Some target → (o : SettledGoto) × Contains (gotos_in found.work (place_of c target g.next)) o × (o.fact ≡ g)
  pub gotos_only : (n : ℕ) (o : SettledGoto) → Contains (gotos_in found.work n) o → (e : SettledWord) × (settled_at found.settled (soughts.Goto o.fact) ≡ Some e) × (e.cost ≡ o.cost)

-- The invariant before a level. The empty word, of cost 0, is in the book from the beginning.
pub record BeforeRestLevel (t : TableData) (c : TokenClasses) (found : RestsFound) (level : ℕ) : Type 0 where
  pub invariant : RestLevel t c found level []
  pub tokens : AreTokensNumbered t found.words level
  pub below : AreBelowGroup found.words.book (max 1 level)

-- The items are sorted by their words.
abbrev pub AreSortedByWord : TableData → Settled → List WaitingWord → Type 0
AreSortedByWord t words [] = Unit {0}
AreSortedByWord t words (i ∷ is) = ((o : WaitingWord) (u v : List ℕ) → Contains is o → IsOriginWord t words i.origin u → IsOriginWord t words o.origin v → WordNoLater t u v) × AreSortedByWord t words is

abbrev pub unranked : List RankedWord → List WaitingWord
unranked rs = map (λ r. r.item) rs

-- The item and the number at index n.
pub record IsPaired (items : List WaitingWord) (numbers : List ℕ) (n : ℕ) (r : RankedWord) : Type 0 where
  pub item : slice_get items n ≡ Some r.item
  pub word : slice_get numbers n ≡ Some r.word

-- The list has the first `count` items, each with its number.
pub record ArePaired (items : List WaitingWord) (numbers : List ℕ) (count : ℕ) (pairs : List RankedWord) : Type 0 where
  pub len : length pairs ≡ count
  pub each : (n : ℕ) (r : RankedWord) → slice_get pairs n ≡ Some r → IsPaired items numbers n r

-- The list has the same items, sorted by their numbers.
pub record IsRanked (items : List WaitingWord) (numbers : List ℕ) (rs : List RankedWord) : Type 0 where
  pub kept : (o : WaitingWord) → Contains items o → Contains (unranked rs) o
  pub only : (r : RankedWord) → Contains rs r → (n : ℕ) × IsPaired items numbers n r
  pub is_sorted : IsNonDecreasingBy (λ r. r.word) rs

-- The invariant inside a level, with the items `rs` still to be settled: none of the level waits in the queue, and each
-- has the number of its word.
pub record InRestLevel (t : TableData) (c : TokenClasses) (found : RestsFound) (level : ℕ) (rs : List RankedWord) : Type 0 where
  pub invariant : RestLevel t c found level (unranked rs)
  pub none : (o : WaitingWord) → Waits found.work.queue.buckets.items level o → ⊥
  pub rising : AreSortedByWord t invariant.assignment.words (unranked rs)
  pub tokens : AreTokensNumbered t found.words (level + 1)
  pub below : AreBelowGroup found.words.book (level + 1)
  pub numbered : level < cap → (r : RankedWord) (u : List ℕ) → Contains rs r → IsOriginWord t invariant.assignment.words r.item.origin u → IsNumberOfWord found.words.book r.word level u

-- The result of the search. Each settled word is a word of what it is sought for, with its cost and, below the highest
-- cost, its number in the book. The settled words are closed under the rules, so by `FindLeastGotos` each complete path
-- that is reduced has a settled word of its goto fact that comes no later: the words of goto facts are the least ones.
-- The rows have exactly the settled goto facts.
pub record IsRestsResult (t : TableData) (c : TokenClasses) (found : RestsFound) : Type 0 where
  pub assignment : SettledAssignment t found.words.book found.settled
  pub sound : (k : Sought) (u : List ℕ) → assignment.words k ≡ Some u → IsSoundFor t (rep_of c) k u
  pub closed : IsClosedStore t (rep_of c) assignment.words (IsSettledBefore (WordNoLater t) assignment.words)
  pub rows : AreRestRows t c found.work
  pub all_gotos : (g : GotoFact) (e : SettledWord) (target : ℕ) → settled_at found.settled (soughts.Goto g) ≡ Some e → edge_of t g.from (N g.nonterminal) ≡ Some target → (o : SettledGoto) × Contains (gotos_in found.work (place_of c target g.next)) o × (o.fact ≡ g)
  pub gotos_only : (n : ℕ) (o : SettledGoto) → Contains (gotos_in found.work n) o → (e : SettledWord) × (settled_at found.settled (soughts.Goto o.fact) ≡ Some e) × (e.cost ≡ o.cost)
  -- The words of the book have groups up to the highest cost, so higher groups are free for words that are added later.
  pub below : AreBelowGroup found.words.book (cap + 1)
