-- Definitions on the goto facts of the first search, filed by their beginnings.
use Rattle.std.specs.Prelude.{◌≡◌, ◌<◌, ◌≤◌, ℕ, List, [], ◌∷◌, length, Option, Some, None}
use Rattle.std.specs.List.{Contains}
use Rattle.std.specs.Global.{Vec}
use Rattle.mh_grammar.specs.declared.types.Symbol.TheVariants.{N}
use Rattle.mh_grammar.specs.Plain.{rhs_of, lhs_of}
use Rattle.mh_tables_core.specs.Table.{TableData, edge_of}
use Rattle.mh_tables_core.specs.Run.{Reduces, run_move_of}
use Rattle.mh_facts.specs.Costs.{cap}
use Rattle.mh_facts.specs.Search.{DerivesFact}
use Rattle.mh_facts.specs.declared.classes.TokenClasses.{TokenClasses}
use Rattle.mh_facts.specs.code.BestFirst.{SoundGoto}
use Rattle.mh_facts.specs.code.Queues.{ListGains, row_of}
use Rattle.mh_facts.specs.code.TokenClasses.{place_of, rep_of}
use Rattle.mh_facts.specs.code.WordCosts.{WordNoLater, cost_up_to_cap}
use Rattle.mh_reach_words.specs.code.Words.{Words}
use Rattle.mh_reach_rests.specs.declared.settled.SettledWord.{SettledWord}
use Rattle.mh_reach_rests.specs.declared.settled.SettledWords.{SettledWords}
use Rattle.mh_reach_rests.specs.declared.waiting.SettledGoto.{SettledGoto}
use Rattle.mh_reach_rests.specs.code.ClosedRests.{GotoNoLater, GotoWords}
use Rattle.mh_reach_rests.specs.code.RestSearch.{goto}
use Rattle.mh_reach_rests.specs.code.SettledWords.{goto_at}
use Rattle.mh_reach_spots.specs.declared.goto_rows.NumberedGoto.{NumberedGoto}
use Rattle.mh_reach_spots.specs.code.Spots.{IsWordAt}

-- The goto fact has the word v.
abbrev pub HasGotoWord : GotoWords → (s n y x : ℕ) → List ℕ → Type 0
HasGotoWord gotos s n y x v = gotos s n y x ≡ Some v

-- Each complete path that is reduced has a word of its goto fact that comes no later.
abbrev pub AreLeastGotos : TableData → (ℕ → ℕ → ℕ) → GotoWords → Type 0
AreLeastGotos t rep gotos = (s q a z e g : ℕ) (v : List ℕ) → s < length t.states → z < t.grammar.tokens → DerivesFact t s q (length (rhs_of t.grammar q)) a z v e → run_move_of t e (z ∷ []) ≡ Reduces q → edge_of t s (N (lhs_of t.grammar q)) ≡ Some g
    → GotoNoLater (WordNoLater t) gotos s (lhs_of t.grammar q) (rep s a) (rep g z) v

-- The goto fact is in range and sound, with the cost of its word and, below the highest cost, the number of its word.
pub record IsNumberedGoto (t : TableData) (rep : ℕ → ℕ → ℕ) (book : Words) (gotos : GotoWords) (w : NumberedGoto) : Type 0 where
  pub few : w.cost ≤ cap
  pub edge : edge_of t w.fact.from (N w.fact.nonterminal) ≡ Some w.target
  pub next : w.fact.next < t.grammar.tokens
  pub word : List ℕ
  pub stored : HasGotoWord gotos w.fact.from w.fact.nonterminal w.fact.first w.fact.next word
  pub cost_is : w.cost ≡ cost_up_to_cap t word
  pub numbered : w.cost < cap → IsWordAt book w.word word
  pub sound : SoundGoto t rep w.fact.from w.fact.nonterminal w.fact.first w.fact.next w.target word

-- There is a row for each class number, and the goto facts that have words are in the rows of their beginnings.
pub record AreGotoRows (t : TableData) (c : TokenClasses) (book : Words) (gotos : GotoWords) (rows : List (Vec NumberedGoto)) : Type 0 where
  pub len : length rows ≡ c.places
  pub each : (n : ℕ) (w : NumberedGoto) → Contains (row_of rows n) w → IsNumberedGoto t (rep_of c) book gotos w
  pub all : (s n y x g : ℕ) (v : List ℕ) → HasGotoWord gotos s n y x v → edge_of t s (N n) ≡ Some g → (w : NumberedGoto) × Contains (row_of rows (place_of c s y)) w × (w.fact ≡ goto s n y x)

-- The rows have least words of goto facts.
pub record HasGotos (t : TableData) (c : TokenClasses) (book : Words) (rows : List (Vec NumberedGoto)) : Type 0 where
  pub gotos : GotoWords
  pub least : AreLeastGotos t (rep_of c) gotos
  pub filed : AreGotoRows t c book gotos rows

-- The filing of goto facts.

abbrev pub number_in : Option SettledWord → ℕ
number_in None = 0
number_in (Some e) = e.word

-- The goto fact with the number of its word.
abbrev pub numbered_goto : SettledWords → SettledGoto → NumberedGoto
numbered_goto settled g = record { fact = g.fact; target = g.target; cost = g.cost; word = number_in (goto_at settled.gotos g.fact) }

-- The row n has the goto fact g, which begins there, as w.
abbrev pub IsFiled : TokenClasses → SettledWords → ℕ → SettledGoto → NumberedGoto → Type 0
IsFiled c settled n g w = (n ≡ place_of c g.fact.from g.fact.first) × (w ≡ numbered_goto settled g)

abbrev pub IsFiledFrom : TokenClasses → SettledWords → ℕ → List SettledGoto → NumberedGoto → Type 0
IsFiledFrom c settled n gotos w = (g : SettledGoto) × Contains gotos g × IsFiled c settled n g w

-- The goto facts are filed in the rows of their beginnings.
pub record FilesGotos (c : TokenClasses) (settled : SettledWords) (gotos : List SettledGoto) (old new : List (Vec NumberedGoto)) : Type 0 where
  pub len : length new ≡ length old
  pub rows : (n : ℕ) → ListGains (IsFiledFrom c settled n gotos) (row_of old n) (row_of new n)

abbrev pub IsFiledOfRow : TokenClasses → SettledWords → ℕ → Vec SettledGoto → NumberedGoto → Type 0
IsFiledOfRow c settled n row w = IsFiledFrom c settled n row.items w

-- The goto facts of all rows are filed in the rows of their beginnings.
pub record FilesRows (c : TokenClasses) (settled : SettledWords) (from : List (Vec SettledGoto)) (old new : List (Vec NumberedGoto)) : Type 0 where
  pub len : length new ≡ length old
  pub rows : (n : ℕ) → ListGains (λ w. (row : Vec SettledGoto) × Contains from row × IsFiledOfRow c settled n row w) (row_of old n) (row_of new n)
