-- The words found so far for the nonterminals of a grammar, and the words that they give for right sides.
use Rattle.std.specs.Prelude.{◌≡◌, ◌<◌, ◌≤◌, ◌+◌, ◌*◌, ◌^◌, ◌==◌, ℕ, Bool, true, false, List, [], ◌∷◌, ◌++◌, Option, None, Some, length, nat_lt, if◌then◌else◌, slice_get, slice_index_or, sum_by}
use Rattle.mh_grammar.specs.declared.types.Symbol.{Symbol}
use Rattle.mh_grammar.specs.declared.types.Symbol.TheVariants.{T, N}
use Rattle.mh_grammar.specs.declared.types.Production.{Production}
use Rattle.mh_grammar.specs.Plain.{PlainGrammar, Derives}
use Rattle.mh_sample.specs.declared.word.Shortest.{Shortest}
use Rattle.mh_sample.specs.declared.word.Shortest.TheVariants as answers
use Rattle.mh_sample.specs.declared.word.Shortest.TheVariants.{Longer, Word}
use Rattle.mh_sample.specs.WordLimit.{max_word}
use Rattle.mh_sample.specs.Shortest.{ShortLex}

-- The word of a symbol. The word of a token is the token alone.
abbrev pub word_of : List (Option (List ℕ)) → Symbol → Option (List ℕ)
word_of words (T z) = Some (z ∷ [])
word_of words (N n) = slice_index_or words n None

abbrev pub joined : Option (List ℕ) → Option (List ℕ) → Option (List ℕ)
joined None v = None
joined (Some u) None = None
joined (Some u) (Some v) = Some (u ++ v)

-- The concatenation of the words of the symbols, if each symbol has a word.
abbrev pub chain : List (Option (List ℕ)) → List Symbol → Option (List ℕ)
chain words [] = Some []
chain words (x ∷ xs) = joined (word_of words x) (chain words xs)

-- The word of a symbol is appended to the tokens, if there is a word.
abbrev pub IsPut : Option (List ℕ) → List ℕ → List ℕ → Bool → Type 0
IsPut word old new true = Some new ≡ joined (Some old) word
IsPut word old new false = word ≡ None

-- There is a word, and the word has at most `limit` tokens.
abbrev pub IsWithin : ℕ → Option (List ℕ) → Type 0
IsWithin limit None = ⊥
IsWithin limit (Some w) = length w ≤ limit

-- For two words of one length: the first word has the lower number at the first index where they differ.
abbrev pub lex_less : List ℕ → List ℕ → Bool
lex_less [] v = false
lex_less (x ∷ u) [] = false
lex_less (x ∷ u) (y ∷ v) = if x == y then lex_less u v else nat_lt x y

-- The word u comes before the other word, or there is no other word.
abbrev pub comes_before : List ℕ → Option (List ℕ) → Bool
comes_before u None = true
comes_before u (Some v) = if length u == length v then lex_less u v else nat_lt (length u) (length v)

-- Each nonterminal derives its word, and no word is too long.
pub record AreDerived (g : PlainGrammar) (words : List (Option (List ℕ))) : Type 0 where
  pub derived : (n : ℕ) (w : List ℕ) → slice_index_or words n None ≡ Some w → Derives g (N n) w
  pub short : (n : ℕ) (w : List ℕ) → slice_index_or words n None ≡ Some w → length w ≤ max_word

-- If the word of the right side is not too long, the left side has a word that comes no later.
abbrev pub Closes : List (Option (List ℕ)) → Production → Type 0
Closes words p = (v : List ℕ) → chain words p.rhs ≡ Some v → length v ≤ max_word → (u : List ℕ) × (slice_index_or words p.lhs None ≡ Some u) × ShortLex u v

-- No production gives its left side an earlier word.
pub record AreClosed (ps : List Production) (words : List (Option (List ℕ))) : Type 0 where
  pub closed : (k : ℕ) (p : Production) → slice_get ps k ≡ Some p → Closes words p

-- The value of the word as a number in a base above its tokens. The rank falls when a word is replaced by an earlier
-- word.
abbrev pub digits : ℕ → List ℕ → ℕ
digits base [] = 0
digits base (x ∷ w) = x * base ^ length w + digits base w

unfoldable pub rank : ℕ → Option (List ℕ) → ℕ
rank base None = base ^ (max_word + 1)
rank base (Some w) = base ^ length w + digits base w

abbrev pub rank_sum : ℕ → List (Option (List ℕ)) → ℕ
rank_sum base = sum_by (rank base)

-- The effect of one production or several: the words stay equal if nothing is improved; otherwise the sum of their
-- ranks falls, and they are still derived.
pub record Improves (g : PlainGrammar) (old new : List (Option (List ℕ))) (improved : Bool) : Type 0 where
  pub sound : AreDerived g old → AreDerived g new
  pub same : improved ≡ false → new ≡ old
  pub decreases : improved ≡ true → AreDerived g old → rank_sum (2 ^ 16) new < rank_sum (2 ^ 16) old

-- The answer for a nonterminal, by its word and by whether the nonterminal is productive.
abbrev pub answer_of : Option (List ℕ) → Bool → Shortest
answer_of None productive = if productive then Longer else answers.None
answer_of (Some w) productive = Word w

abbrev pub AreAnswers : List (Option (List ℕ)) → List Bool → List Shortest → Type 0
AreAnswers words productive answers = (n : ℕ) (w : Option (List ℕ)) → slice_get words n ≡ Some w → slice_get answers n ≡ Some (answer_of w (slice_index_or productive n false))
