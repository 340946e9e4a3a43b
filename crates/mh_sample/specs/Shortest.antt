-- The definition of the shortest word of a nonterminal: among all words that the nonterminal derives, the first by
-- length, and among words of one length the first by the numbers of the tokens. The rule is this project's own.
use Rattle.std.specs.Prelude.{◌≡◌, ◌<◌, ◌≤◌, ◌⊎◌, ℕ, List, length}
use Rattle.mh_grammar.specs.declared.types.Symbol.{Symbol}
use Rattle.mh_grammar.specs.declared.types.Symbol.TheVariants.{N}
use Rattle.mh_grammar.specs.Plain.{PlainGrammar, Derives, IsProductive}
use Rattle.mh_grammar.specs.WordOrder.{LexLe}
use Rattle.mh_sample.specs.declared.word.Shortest.{Shortest}
use Rattle.mh_sample.specs.declared.word.Shortest.TheVariants.{None, Longer, Word}
use Rattle.mh_sample.specs.WordLimit.{max_word}

-- The word u is v, or shorter than v, or as long as v with the lower number at the first index where they differ.
abbrev pub ShortLex : List ℕ → List ℕ → Type 0
ShortLex u v = (length u < length v) ⊎ ((length u ≡ length v) × LexLe u v)

-- The symbol derives the word w, and w comes no later than any word that the symbol derives.
pub record IsLeast (g : PlainGrammar) (X : Symbol) (w : List ℕ) : Type 0 where
  pub derived : Derives g X w
  pub first : (v : List ℕ) → Derives g X v → ShortLex w v

-- The answer for a nonterminal: `None` if the nonterminal derives no word, `Longer` if each of its words has more than
-- `max_word` tokens, and its least word otherwise.
abbrev pub IsShortest : PlainGrammar → ℕ → Shortest → Type 0
IsShortest g n None = (w : List ℕ) → Derives g (N n) w → ⊥
IsShortest g n Longer = IsProductive g n × ((w : List ℕ) → Derives g (N n) w → max_word < length w)
IsShortest g n (Word w) = IsLeast g (N n) w × (length w ≤ max_word)
