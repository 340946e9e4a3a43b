-- Definitions on the settled words of the search over rests.
use Rattle.std.specs.Prelude.{◌≡◌, ◌<◌, ℕ, List, [], ◌∷◌, ◌++◌, Bool, nat_eq, ◌&&◌, Option, Some, None}
use Rattle.std.specs.Map.{lookup}
use Rattle.mh_tables_core.specs.Table.{TableData}
use Rattle.mh_facts.specs.declared.store.FactKey.{FactKey}
use Rattle.mh_facts.specs.declared.goto_fact.GotoFact.{GotoFact}
use Rattle.mh_facts.specs.Stored.{same_fact}
use Rattle.mh_facts.specs.Costs.{cap}
use Rattle.mh_facts.specs.code.WordCosts.{before_dot, cost_up_to_cap}
use Rattle.mh_reach_words.specs.code.Words.{Words}
use Rattle.mh_reach_words.specs.code.WordNumbers.{IsNumberOfWord}
use Rattle.mh_reach_rests.specs.declared.settled.SettledWord.{SettledWord}
use Rattle.mh_reach_rests.specs.declared.settled.SettledWords.{SettledWords}
use Rattle.mh_reach_rests.specs.declared.sought.Sought.{Sought}
use Rattle.mh_reach_rests.specs.declared.sought.Sought.TheVariants as soughts
use Rattle.mh_reach_rests.specs.declared.waiting.Origin.{Origin}
use Rattle.mh_reach_rests.specs.declared.waiting.Origin.TheVariants as origins
use Rattle.mh_reach_rests.specs.code.RestSearch.{Settled}

abbrev pub same_goto : GotoFact → GotoFact → Bool
same_goto x y = nat_eq x.from y.from && (nat_eq x.nonterminal y.nonterminal && (nat_eq x.first y.first && nat_eq x.next y.next))

abbrev pub rest_at : List (FactKey × SettledWord) → FactKey → Option SettledWord
rest_at rests k = lookup (same_fact k) rests

abbrev pub goto_at : List (GotoFact × SettledWord) → GotoFact → Option SettledWord
goto_at gotos g = lookup (same_goto g) gotos

abbrev pub settled_at : SettledWords → Sought → Option SettledWord
settled_at settled (soughts.Rest k) = rest_at settled.rests k
settled_at settled (soughts.Goto g) = goto_at settled.gotos g

-- The entry e is appended for k, and nothing else changes.
abbrev pub Settles : SettledWords → SettledWords → Sought → SettledWord → Type 0
Settles old new (soughts.Rest k) e = (new.rests ≡ old.rests ++ (k, e) ∷ []) × (new.gotos ≡ old.gotos)
Settles old new (soughts.Goto g) e = (new.rests ≡ old.rests) × (new.gotos ≡ old.gotos ++ (g, e) ∷ [])

-- The word w is made of the words that the origin names.
abbrev pub IsOriginWord : TableData → Settled → Origin → List ℕ → Type 0
IsOriginWord t words origins.Ended w = w ≡ []
IsOriginWord t words (origins.Shifted rest) w = (v : List ℕ) × (words (soughts.Rest rest) ≡ Some v) × (w ≡ before_dot t rest ++ v)
IsOriginWord t words (origins.Joined goto rest) w = (u : List ℕ) × (v : List ℕ) × (words (soughts.Goto goto) ≡ Some u) × (words (soughts.Rest rest) ≡ Some v) × (w ≡ u ++ v)

-- A settled word: its cost, and below the highest cost its number.
pub record IsSettledWord (t : TableData) (book : Words) (words : Settled) (k : Sought) (e : SettledWord) : Type 0 where
  pub word : List ℕ
  pub is : words k ≡ Some word
  pub cost_is : e.cost ≡ cost_up_to_cap t word
  pub short : e.cost ≡ 0 → word ≡ []
  pub numbered : e.cost < cap → IsNumberOfWord book e.word e.cost word

-- Words for exactly what is settled.
pub record SettledAssignment (t : TableData) (book : Words) (settled : SettledWords) : Type 0 where
  pub words : Settled
  pub none : (k : Sought) → settled_at settled k ≡ None → words k ≡ None
  pub some : (k : Sought) (e : SettledWord) → settled_at settled k ≡ Some e → IsSettledWord t book words k e
