-- The least lengths of the nonterminals, and the rows of choices: the productions of each nonterminal with the least
-- lengths of their right sides.
use Rattle.std.specs.Prelude.{◌≡◌, ◌<◌, ◌+◌, ℕ, Bool, List, Some, length, slice_get, slice_index_or, sum_by, nat_le}
use Rattle.std.specs.List.{Contains}
use Rattle.mh_grammar.specs.declared.types.Symbol.{Symbol}
use Rattle.mh_grammar.specs.declared.types.Symbol.TheVariants.{T, N}
use Rattle.mh_grammar.specs.Edges.{IsRising}
use Rattle.mh_grammar.specs.Plain.{PlainGrammar, IsProductionFor, rhs_of}
use Rattle.mh_sample.specs.declared.word.Shortest.{Shortest}
use Rattle.mh_sample.specs.declared.word.Shortest.TheVariants.{None, Longer, Word}
use Rattle.mh_sample.specs.WordLimit.{max_word}
use Rattle.mh_sample.specs.Shortest.{IsShortest}
use Rattle.mh_sample.specs.declared.rows.Choice.{Choice}

-- The length of a shortest word, or `max_word` + 1, which is above every limit, if there is no such word.
abbrev pub length_for : Shortest → ℕ
length_for None = max_word + 1
length_for Longer = max_word + 1
length_for (Word w) = length w

abbrev pub length_in : List ℕ → Symbol → ℕ
length_in lengths (T z) = 1
length_in lengths (N n) = slice_index_or lengths n 0

-- The sum of the least lengths of the symbols.
abbrev pub lengths_in : List ℕ → List Symbol → ℕ
lengths_in lengths = sum_by (length_in lengths)

-- The answers are the shortest words of the nonterminals, and the lengths are the lengths of these answers.
pub record AreLeastLengths (g : PlainGrammar) (shortest : List Shortest) (lengths : List ℕ) : Type 0 where
  pub same : length shortest ≡ length lengths
  pub all : length lengths ≡ g.nonterminals
  pub each : (n : ℕ) (s : Shortest) → slice_get shortest n ≡ Some s → IsShortest g n s
  pub sizes : (n : ℕ) (s : Shortest) → slice_get shortest n ≡ Some s → slice_get lengths n ≡ Some (length_for s)

-- The production number of a choice.
abbrev pub number_of : PlainGrammar → Choice → ℕ
number_of g c = length g.starts + c.place

-- The row of the nonterminal x: its productions among the first `count` ordinary productions, in order.
pub record IsRow (g : PlainGrammar) (lengths : List ℕ) (count x : ℕ) (row : List Choice) : Type 0 where
  pub rising : IsRising (λ (a b : Choice). a.place < b.place) row
  pub below : (c : Choice) → Contains row c → c.place < count
  pub each : (c : Choice) → Contains row c → IsProductionFor g x (number_of g c) × (c.length ≡ lengths_in lengths (rhs_of g (number_of g c)))
  pub all : (k : ℕ) → k < count → IsProductionFor g x (length g.starts + k) → (c : Choice) × Contains row c × (c.place ≡ k)

abbrev pub fits : ℕ → Choice → Bool
fits room c = nat_le c.length room
