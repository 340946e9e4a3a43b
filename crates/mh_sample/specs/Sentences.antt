-- The definition of the texts of `--shortest-sentences` and `--random-sentence`. The forms are this project's own.
use Rattle.std.specs.Prelude.{◌≡◌, ◌+◌, ◌++◌, ℕ, List, [], ◌∷◌, Some, codes, length, slice_get}
use Rattle.mh_grammar.specs.declared.types.Grammar.{Grammar}
use Rattle.mh_grammar.specs.Names.{nonterminal_name}
use Rattle.mh_grammar.specs.Plain.{plain_of}
use Rattle.mh_grammar.specs.Text.{Text}
use Rattle.mh_msgfile.specs.FileTexts.{names_after, sentence_text}
use Rattle.mh_sample.specs.Random.{IsRandom}
use Rattle.mh_sample.specs.Shortest.{IsShortest}
use Rattle.mh_sample.specs.declared.word.Shortest.{Shortest}
use Rattle.mh_sample.specs.declared.word.Shortest.TheVariants.{None, Longer, Word}

-- The text of an answer: the names of the tokens of the shortest word; or, if there is none or it is too long, a note
-- in lower case. Names of tokens begin with capitals, so a note is no word.
abbrev pub word_text : Grammar → Shortest → Text
word_text g None = codes " none"
word_text g Longer = codes " longer than 1000"
word_text g (Word w) = names_after g w

-- The line of a nonterminal.
abbrev pub shortest_line : Grammar → ℕ → Shortest → Text
shortest_line g n s = nonterminal_name g n ++ 58 ∷ (word_text g s ++ 10 ∷ [])

-- The lines of the nonterminals from the number n on.
abbrev pub lines_from : Grammar → ℕ → List Shortest → Text
lines_from g n [] = []
lines_from g n (s ∷ more) = shortest_line g n s ++ lines_from g (n + 1) more

-- The text has a line for each nonterminal, with the shortest word of the nonterminal.
pub record IsShortestText (g : Grammar) (text : Text) : Type 0 where
  pub answers : List Shortest
  pub all : length answers ≡ length g.nonterminals
  pub each : (n : ℕ) (s : Shortest) → slice_get answers n ≡ Some s → IsShortest (plain_of g) n s
  pub is : text ≡ lines_from g 0 answers

-- The text is the canonical line of the random sentence of the seed, of at most n tokens.
abbrev pub IsRandomText : Grammar → ℕ → ℕ → Text → Type 0
IsRandomText g seed n text = (s : List ℕ) × IsRandom (plain_of g) seed n s × (text ≡ sentence_text g 0 s ++ 10 ∷ [])
