-- Definitions on the code that finds first sentences and writes explanations.
use Rattle.std.specs.Prelude.{◌≡◌, ◌<◌, ◌⊎◌, ℕ, List, ◌++◌, length, ◌∷◌, Bool, true, false}
use Rattle.std.specs.declared.cmp.Ordering.{Ordering}
use Rattle.std.specs.declared.cmp.Ordering.TheVariants.{Less, Equal, Greater}
use Rattle.mh_grammar.specs.declared.types.Grammar.{Grammar}
use Rattle.mh_grammar.specs.declared.types.Look.{Look}
use Rattle.mh_grammar.specs.declared.types.Sentence.{Sentence}
use Rattle.mh_grammar.specs.Plain.{plain_of}
use Rattle.mh_grammar.specs.WordOrder.{LexLe}
use Rattle.mh_grammar.specs.Text.{Text}
use Rattle.mh_items_kernels.specs.KernelTypes.{Automaton}
use Rattle.mh_items_kernels.specs.Automaton.{IsAutomaton}
use Rattle.mh_resolve_cells.specs.declared.kinds.ConflictKind.{ConflictKind}
use Rattle.mh_resolve_cells.specs.declared.kinds.ConflictKind.TheVariants.{Solved, Unsolved, Stream}
use Rattle.mh_tables_core.specs.Table.{TableData}
use Rattle.mh_explain.specs.declared.first_sentence.FoundSentence.{FoundSentence}
use Rattle.mh_explain.specs.declared.first_sentence.FoundSentence.TheVariants.{NoSentence, TooLong, First}
use Rattle.mh_explain.specs.FirstSentences.{IsShownWith}

-- The table belongs to the automaton of the grammar.
pub record IsTabled (g : Grammar) (a : Automaton) (t : TableData) : Type 0 where
  pub automaton : IsAutomaton (plain_of g) a
  pub grammar : t.grammar ≡ plain_of g
  pub states : length t.states ≡ length a.kernels

-- The token z is below n, and a sentence runs into the conflict of the state s on the look when z comes next.
pub record IsShownBelow (t : TableData) (s : ℕ) (look : Look) (n z : ℕ) : Type 0 where
  pub below : z < n
  pub shown : IsShownWith t s look z

-- The numbers of a sentence: its start, followed by its tokens.
abbrev pub numbers_of : Sentence → List ℕ
numbers_of x = x.start ∷ x.tokens

-- The order of two sentences of one cost: by start, then by tokens.
abbrev pub IsSentenceOrder : Sentence → Sentence → Ordering → Type 0
IsSentenceOrder x y Less = LexLe (numbers_of x) (numbers_of y) × (numbers_of x ≡ numbers_of y → ⊥)
IsSentenceOrder x y Equal = numbers_of x ≡ numbers_of y
IsSentenceOrder x y Greater = LexLe (numbers_of y) (numbers_of x)

-- The best sentence so far costs less than the given cost.
abbrev pub IsCostlier : ℕ → FoundSentence → Type 0
IsCostlier cost NoSentence = ⊥
IsCostlier cost TooLong = ⊥
IsCostlier cost (First least y z) = least < cost

-- The sentence x of this cost comes before the best one so far.
abbrev pub IsSooner : ℕ → Sentence → FoundSentence → Type 0
IsSooner cost x NoSentence = Unit {0}
IsSooner cost x TooLong = Unit {0}
IsSooner cost x (First least y z) = (cost < least) ⊎ ((cost ≡ least) × IsSentenceOrder x y Less)

-- The sentence x of this cost does not come before the best one so far.
abbrev pub IsNoSooner : ℕ → Sentence → FoundSentence → Type 0
IsNoSooner cost x NoSentence = ⊥
IsNoSooner cost x TooLong = ⊥
IsNoSooner cost x (First least y z) = (least < cost) ⊎ ((least ≡ cost) × LexLe (numbers_of y) (numbers_of x))

-- The sentence x of this cost, with the token z next, replaces the best one so far if x comes before it.
abbrev pub TakesSooner : ℕ → Sentence → ℕ → FoundSentence → FoundSentence → Type 0
TakesSooner cost x z old new = ((new ≡ First cost x z) × IsSooner cost x old) ⊎ ((new ≡ old) × IsNoSooner cost x old)

-- The best sentence so far, after one more sentence, which is too long.
abbrev pub with_too_long : FoundSentence → FoundSentence
with_too_long NoSentence = TooLong
with_too_long TooLong = TooLong
with_too_long (First cost x z) = First cost x z

-- The new text is the old one with a text of this kind appended.
abbrev pub AppendsText : (Text → Type 0) → Text → Text → Type 0
AppendsText Is old new = (last : Text) × Is last × (new ≡ old ++ last)

-- True if conflicts of the kind are explained: all but those that precedence levels solve.
abbrev pub is_explained : ConflictKind → Bool
is_explained Solved = false
is_explained Unsolved = true
is_explained Stream = true
