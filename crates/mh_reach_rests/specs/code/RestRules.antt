-- The rules of the search over rests: the words that each rule puts into the queue.
use Rattle.std.specs.Prelude.{◌≡◌, ◌<◌, ◌≤◌, ◌+◌, ◌-◌, ◌⊎◌, ℕ, zero, suc, List, [], ◌∷◌, length, min, slice_get, Some}
use Rattle.std.specs.List.{Contains}
use Rattle.mh_grammar.specs.declared.types.Symbol.{Symbol}
use Rattle.mh_grammar.specs.declared.edges.Edge.{Edge}
use Rattle.mh_grammar.specs.declared.types.Symbol.TheVariants.{T, N}
use Rattle.mh_grammar.specs.Plain.{production_count, rhs_of, lhs_of}
use Rattle.mh_tables_core.specs.Table.{TableData, edge_of, cost_of_token}
use Rattle.mh_tables_core.specs.Run.{Shifts, Reduces, run_move_of}
use Rattle.mh_facts.specs.declared.store.FactKey.{FactKey}
use Rattle.mh_facts.specs.declared.classes.TokenClasses.{TokenClasses}
use Rattle.mh_facts.specs.Costs.{cap}
use Rattle.mh_facts.specs.code.BestFirst.{IsPathEnd}
use Rattle.mh_facts.specs.code.Queues.{Among, Below, QueueGains, Waits, row_of}
use Rattle.mh_facts.specs.code.TokenClasses.{rep_of, place_of, representatives_at}
use Rattle.mh_reach_rests.specs.declared.conclusions.Conclusion.{Conclusion}
use Rattle.mh_reach_rests.specs.declared.sought.Sought.TheVariants as soughts
use Rattle.mh_reach_rests.specs.declared.waiting.Origin.TheVariants as origins
use Rattle.mh_reach_rests.specs.declared.waiting.WaitingWord.{WaitingWord}
use Rattle.mh_reach_rests.specs.declared.waiting.SettledRest.{SettledRest}
use Rattle.mh_reach_rests.specs.declared.waiting.SettledGoto.{SettledGoto}
use Rattle.mh_reach_rests.specs.declared.waiting.RestData.{RestData}
use Rattle.mh_reach_rests.specs.code.RestSearch.{goto}

-- For each state, the states below n from which an edge leads to it.
pub record AreSourcesBelow (t : TableData) (n : ℕ) (rows : List (Rattle.std.specs.Global.Vec ℕ)) : Type 0 where
  pub len : length rows ≡ length t.states
  pub all : (s j : ℕ) (x : Symbol) → s < n → edge_of t s x ≡ Some j → Contains (row_of rows j) s
  pub known : (j s : ℕ) → Contains (row_of rows j) s → s < n

-- For each state, the states from which an edge leads to it.
abbrev pub AreSources : TableData → List (Rattle.std.specs.Global.Vec ℕ) → Type 0
AreSources t rows = AreSourcesBelow t (length t.states) rows

-- The state s is added to the rows of the targets of the edges.
pub record FilesEdges (edges : List Edge) (s : ℕ) (old new : List (Rattle.std.specs.Global.Vec ℕ)) : Type 0 where
  pub len : length new ≡ length old
  pub kept : (j i : ℕ) → Contains (row_of old j) i → Contains (row_of new j) i
  pub all : (e : Edge) → Contains edges e → Contains (row_of new e.target) s
  pub only : (j i : ℕ) → Contains (row_of new j) i → Contains (row_of old j) i ⊎ (i ≡ s)

-- The state e is the end of the path of p that continues in s after d symbols, from whatever state the path comes.
abbrev pub EndsIn : TableData → (s p d e : ℕ) → Type 0
EndsIn t s p d e = (r : ℕ) → IsPathEnd t r p d s → IsPathEnd t r p (length (rhs_of t.grammar p)) e

-- The numbers of a rest or of a whole path are in the range of the table, and `end` is the end of its path.
pub record IsRestInRange (t : TableData) (k : FactKey) (end cost : ℕ) : Type 0 where
  pub from : k.from < length t.states
  pub ordinary : length t.grammar.starts ≤ k.production
  pub production : k.production < production_count t.grammar
  pub within : k.dot ≤ length (rhs_of t.grammar k.production)
  pub first : k.first < t.grammar.tokens
  pub next : k.next < t.grammar.tokens
  pub end_known : end < length t.states
  pub at_end : EndsIn t k.from k.production k.dot end
  pub most : cost ≤ cap

-- A goto fact is in the range of the table, and `target` is the target of its goto.
pub record IsGotoInRange (t : TableData) (g : SettledGoto) : Type 0 where
  pub from : g.fact.from < length t.states
  pub first : g.fact.first < t.grammar.tokens
  pub next : g.fact.next < t.grammar.tokens
  pub edge : edge_of t g.fact.from (N g.fact.nonterminal) ≡ Some g.target
  pub most : g.cost ≤ cap

-- The goto fact of a whole path with a next token, with the word of the path.
abbrev pub IsGotoItem : TableData → Conclusion → (target next : ℕ) → WaitingWord → Type 0
IsGotoItem t k target next o = o ≡ record { sought = soughts.Goto (goto k.key.from (lhs_of t.grammar k.key.production) k.key.first next); end = target; origin = k.origin }

-- A goto fact of a whole path, for one representative of the target on which the path is reduced.
pub record IsGotoOf (t : TableData) (c : TokenClasses) (k : Conclusion) (target next cost : ℕ) (o : WaitingWord) : Type 0 where
  pub move : run_move_of t k.end (next ∷ []) ≡ Reduces k.key.production
  pub representative_is : rep_of c k.end next ≡ k.key.next
  pub cost_is : cost ≡ k.cost
  pub is : IsGotoItem t k target next o

-- The words that a conclusion puts into the queue: that of the rest, or those of the goto facts of a whole path.
abbrev pub IsConcludedAt : TableData → TokenClasses → Conclusion → (dot cost : ℕ) → WaitingWord → Type 0
IsConcludedAt t c k zero cost o = (target : ℕ) × (edge_of t k.key.from (N (lhs_of t.grammar k.key.production)) ≡ Some target) × Among (IsGotoOf t c k target) (representatives_at c target) cost o
IsConcludedAt t c k (suc d) cost o = (cost ≡ k.cost) × (o ≡ record { sought = soughts.Rest k.key; end = k.end; origin = k.origin })

abbrev pub IsConcluded : TableData → TokenClasses → Conclusion → ℕ → WaitingWord → Type 0
IsConcluded t c k cost o = IsConcludedAt t c k k.key.dot cost o

-- The conclusion from a rest after the token x, which is shifted in s.
abbrev pub after_token : TableData → TokenClasses → SettledRest → (s x : ℕ) → Conclusion
after_token t c r s x = record {
  key = record { from = s; production = r.key.production; dot = r.key.dot - 1; first = rep_of c s x; next = r.key.next };
  end = r.end;
  cost = min (r.cost + cost_of_token t x) cap;
  origin = origins.Shifted r.key;
}

-- The conclusion from a goto fact and the rest after it.
abbrev pub after_goto : SettledGoto → SettledRest → Conclusion
after_goto g r = record {
  key = record { from = g.fact.from; production = r.key.production; dot = r.key.dot - 1; first = g.fact.first; next = r.key.next };
  end = r.end;
  cost = min (g.cost + r.cost) cap;
  origin = origins.Joined g.fact r.key;
}

-- The words that follow from a rest by a shift of the token x before it in the state s.
abbrev pub FollowsToken : TableData → TokenClasses → SettledRest → (x s cost : ℕ) → WaitingWord → Type 0
FollowsToken t c r x s cost o = (run_move_of t s (x ∷ []) ≡ Shifts r.key.from) × IsConcluded t c (after_token t c r s x) cost o

-- The rest begins in the target of the goto fact, with the token that the goto fact has next, and follows its
-- nonterminal.
pub record FitsRest (t : TableData) (g : SettledGoto) (r : SettledRest) : Type 0 where
  pub target : g.target ≡ r.key.from
  pub next : g.fact.next ≡ r.key.first
  pub symbol : slice_get (rhs_of t.grammar r.key.production) (r.key.dot - 1) ≡ Some (N g.fact.nonterminal)

-- The words that follow from a goto fact and the rest after it.
abbrev pub FollowsBoth : TableData → TokenClasses → SettledGoto → SettledRest → ℕ → WaitingWord → Type 0
FollowsBoth t c g r cost o = FitsRest t g r × IsConcluded t c (after_goto g r) cost o

abbrev pub rests_in : RestData → ℕ → List SettledRest
rests_in work n = row_of work.rests.items n

abbrev pub gotos_in : RestData → ℕ → List SettledGoto
gotos_in work n = row_of work.gotos.items n

-- A settled rest is in range and has a symbol before it.
pub record IsRestToJoin (t : TableData) (r : SettledRest) : Type 0 where
  pub range : IsRestInRange t r.key r.end r.cost
  pub begun : 0 < r.key.dot

-- There is a row for each class number, and what is in the rows is in range.
pub record AreRestRows (t : TableData) (c : TokenClasses) (work : RestData) : Type 0 where
  pub rests : length work.rests.items ≡ c.places
  pub gotos : length work.gotos.items ≡ c.places
  pub each_rest : (n : ℕ) (r : SettledRest) → Contains (rests_in work n) r → IsRestToJoin t r
  pub each_goto : (n : ℕ) (g : SettledGoto) → Contains (gotos_in work n) g → IsGotoInRange t g

-- The settled rest r is in its row if it follows a nonterminal, and all words that follow from it wait in the queue.
pub record ExpandsRest (t : TableData) (c : TokenClasses) (sources : List (Rattle.std.specs.Global.Vec ℕ)) (old new : RestData) (r : SettledRest) : Type 0 where
  pub gotos : new.gotos.items ≡ old.gotos.items
  pub rests_len : length new.rests.items ≡ length old.rests.items
  pub kept : (cost : ℕ) (o : WaitingWord) → Waits old.queue.buckets.items cost o → Waits new.queue.buckets.items cost o
  pub only : (cost : ℕ) (o : WaitingWord) → Waits new.queue.buckets.items cost o → Waits old.queue.buckets.items cost o
      ⊎ ((x : ℕ) × (slice_get (rhs_of t.grammar r.key.production) (r.key.dot - 1) ≡ Some (T x)) × Among (FollowsToken t c r x) (row_of sources r.key.from) cost o)
      ⊎ Among (λ g. FollowsBoth t c g r) (gotos_in old (place_of c r.key.from r.key.first)) cost o
  pub shifts : (x cost : ℕ) (o : WaitingWord) → slice_get (rhs_of t.grammar r.key.production) (r.key.dot - 1) ≡ Some (T x) → Among (FollowsToken t c r x) (row_of sources r.key.from) cost o → Waits new.queue.buckets.items cost o
  pub joins : (n cost : ℕ) (o : WaitingWord) → slice_get (rhs_of t.grammar r.key.production) (r.key.dot - 1) ≡ Some (N n) → Among (λ g. FollowsBoth t c g r) (gotos_in old (place_of c r.key.from r.key.first)) cost o → Waits new.queue.buckets.items cost o
  pub rest_kept : (m : ℕ) (q : SettledRest) → Contains (rests_in old m) q → Contains (rests_in new m) q
  pub rest_only : (m : ℕ) (q : SettledRest) → Contains (rests_in new m) q → Contains (rests_in old m) q ⊎ ((m ≡ place_of c r.key.from r.key.first) × (q ≡ r))
  pub rest_here : (n : ℕ) → slice_get (rhs_of t.grammar r.key.production) (r.key.dot - 1) ≡ Some (N n) → Contains (rests_in new (place_of c r.key.from r.key.first)) r

-- The words with which the search begins in a state that reduces a production on the token z: those of the empty rest
-- at the end of the production.
pub record IsEndWordOn (t : TableData) (c : TokenClasses) (s z cost : ℕ) (o : WaitingWord) : Type 0 where
  pub production : ℕ
  pub move : run_move_of t s (z ∷ []) ≡ Reduces production
  pub is : IsConcluded t c (record { key = record { from = s; production = production; dot = length (rhs_of t.grammar production); first = rep_of c s z; next = rep_of c s z }; end = s; cost = 0; origin = origins.Ended }) cost o

-- The words with which the search begins in a state. A reduction by default is made on each token, and so on each
-- representative; the words on representatives are then all.
abbrev pub IsEndWord : TableData → TokenClasses → (s cost : ℕ) → WaitingWord → Type 0
IsEndWord t c s cost o = Below (IsEndWordOn t c s) t.grammar.tokens cost o

-- The working data at the beginning of the search.
pub record AreBegun (t : TableData) (c : TokenClasses) (work : RestData) : Type 0 where
  pub queue : QueueGains (Below (IsEndWord t c) (length t.states)) [] work.queue.buckets.items
  pub rests : length work.rests.items ≡ c.places
  pub gotos : length work.gotos.items ≡ c.places
  pub no_rests : (n : ℕ) → rests_in work n ≡ []
  pub no_gotos : (n : ℕ) → gotos_in work n ≡ []
