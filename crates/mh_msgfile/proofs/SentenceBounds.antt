-- Proves that the start and the tokens of a sentence that is read are those of the grammar, and that `put_sentence`
-- meets its contract.
use Rattle.std.proofs.Common.{◌≡◌, ◌<◌, ◌+◌, ℕ, zero, suc, Bool, true, false, List, [], ◌∷◌, length, Option, None, Some, refl, sym, ◌∙◌, ap, ap₂, subst, if◌then◌else◌, arith, take, drop, nat_lt, Ok, Err, append-nil, Bor}
use Rattle.std.proofs.lemmas.List.{length-map}
use Rattle.std.proofs.lemmas.Option.{none-some}
use Rattle.std.proofs.lemmas.List.Elements.{recursion_from_All}
use Rattle.std.specs.List.{list_all, position_from, All, AllByRecursion}
use Rattle.std.specs.Str.{bytes_eq}
use Rattle.mh_lex_bytes.specs.Words.{is_word}
use Rattle.mh_grammar.specs.declared.types.Sentence.{Sentence}
use Rattle.mh_grammar.specs.declared.types.Grammar.{Grammar}
use Rattle.mh_grammar.specs.Plain.{PlainGrammar, plain_of}
use Rattle.mh_grammar.specs.Text.{Text}
use Rattle.mh_msgfile.specs.code.LineSteps.{FindsStart, AreTokens, IsUnknownToken, after_unknown, AppendsSentence}
use Rattle.mh_msgfile.specs.StartNames.{start_symbol_name, start_names, only_one}
use Rattle.mh_msgfile.specs.Sentences.{Vocabulary, vocabulary_of, token_names, TokensResult, Tokens, Unknown, StartResult, StartIs, NoSuchStart, NoStart, IsSentence, IsUnreadable, put_token, number_of, tokens_of, start_or, only_or, start_by, with_start, only_word, colon_place, pieces, sentence_from, sentence_after_colon, sentence_in, NamesUnknown}
use Rattle.mh_msgfile.specs.declared.sentence.SentenceFault.{SentenceFault}
use Rattle.mh_msgfile.specs.declared.sentence.SentenceFault.TheVariants as faults

-- ---- The tokens of a sentence are tokens of the grammar.

abbrev value_or : ℕ → Option ℕ → ℕ
value_or none None = none
value_or none (Some k) = k

position_on : (p : Text → Bool) (i k : ℕ) (x : Text) (xs : List Text) (c : Bool) → p x ≡ c → (position_from p (i + 1) xs ≡ Some k → k < i + 1 + length xs) → position_from p i (x ∷ xs) ≡ Some k → k < i + suc (length xs)
position_on p i k x xs true here next is =
    let same : Some i ≡ Some k = rw here at is in
    let number : i ≡ k = ap (value_or i) same in omega arith
position_on p i k x xs false here next is =
    let later : position_from p (i + 1) xs ≡ Some k = rw here at is in omega (arith, next later)

position_below : (p : Text → Bool) (i k : ℕ) (xs : List Text) → position_from p i xs ≡ Some k → k < i + length xs
position_below p i k [] is = absurd (none-some k is)
position_below p i k (x ∷ xs) is = position_on p i k x xs (p x) refl (position_below p (i + 1) k xs) is

-- All numbers of starts in the vocabulary are below n, and all tokens below m.
pub record IsBounded (n m : ℕ) (v : Vocabulary) : Type 0 where
  pub starts : (name : Text) (k : ℕ) → v.start_named name ≡ Some k → k < n
  pub only : (k : ℕ) → v.only_start ≡ Some k → k < n
  pub tokens : (name : Text) (k : ℕ) → v.token_named name ≡ Some k → k < m

number_below : (names : List Text) (name : Text) (k : ℕ) → number_of names name ≡ Some k → k < length names
number_below names name k is = let lt : k < 0 + length names = position_below (bytes_eq name) 0 k names is in omega (arith, lt)

only_below : (names : List Text) (k : ℕ) → only_one names ≡ Some k → k < length names
only_below [] k is = absurd (none-some k is)
only_below (name ∷ []) k is = let same : 0 ≡ k = ap (value_or 0) is in omega (arith, same)
only_below (name ∷ other ∷ names) k is = absurd (none-some k is)

pub bounded : (g : Grammar) → IsBounded (length (start_names g)) (length (token_names g)) (vocabulary_of g)
bounded g = record { starts = number_below (start_names g); only = only_below (start_names g); tokens = number_below (token_names g) }

abbrev AreBelow : ℕ → TokensResult → Type 0
AreBelow n (Tokens tokens) = All (λ z. z < n) tokens
AreBelow n (Unknown name) = Unit {0}

below_one : (n token : ℕ) (tokens : List ℕ) → token < n → All (λ z. z < n) tokens → All (λ z. z < n) (token ∷ tokens)
below_one n token tokens lt all zero d within = lt
below_one n token tokens lt all (suc k) d within = all k d (omega arith)

-- The start, if it was found, is below n.
abbrev IsStartBelow : ℕ → StartResult → Type 0
IsStartBelow n (StartIs start) = start < n
IsStartBelow n (NoSuchStart name) = Unit {0}
IsStartBelow n NoStart = Unit {0}

-- The start of the sentence is below n, and its tokens are below m.
record IsBelow (n m : ℕ) (s : Sentence) : Type 0 where
  start : s.start < n
  tokens : All (λ z. z < m) s.tokens

with_below : (n m : ℕ) (start : StartResult) (found : TokensResult) (s : Sentence) → with_start start found ≡ IsSentence s → IsStartBelow n start → AreBelow m found → IsBelow n m s
with_below n m (StartIs start) (Tokens tokens) s is lt below =
    let same : record { start = start; tokens = tokens } ≡ s = cc in
    subst (IsBelow n m) same (record { start = lt; tokens = below })
with_below n m (StartIs start) (Unknown name) s is lt below = absurd (cc)
with_below n m (NoSuchStart name) found s is lt below = absurd (cc)
with_below n m NoStart found s is lt below = absurd (cc)

module _ (v : Vocabulary) (n m : ℕ) (known : IsBounded n m v) where
  put_below : (name : Text) (o : Option ℕ) (found : TokensResult) → v.token_named name ≡ o → AreBelow m found → AreBelow m (put_token name o found)
  put_below name None found is below = tt
  put_below name (Some token) (Unknown other) is below = tt
  put_below name (Some token) (Tokens tokens) is below = below_one m token tokens (known.tokens name token is) below

  all_below : (ps : List Text) → AreBelow m (tokens_of v ps)
  all_below [] = λ k d within. absurd (omega arith)
  all_below (name ∷ ps) = put_below name (v.token_named name) (tokens_of v ps) refl (all_below ps)

  named_below : (name : Text) (o : Option ℕ) → v.start_named name ≡ o → IsStartBelow n (start_or name o)
  named_below name None is = tt
  named_below name (Some start) is = known.starts name start is

  left_below : (o : Option ℕ) → v.only_start ≡ o → IsStartBelow n (only_or o)
  left_below None is = tt
  left_below (Some start) is = known.only start is

  start_below : (o : Option Text) → IsStartBelow n (start_by v o)
  start_below None = left_below v.only_start refl
  start_below (Some name) = named_below name (v.start_named name) refl

  if_below : (start : Option Text) (text : Text) (s : Sentence) (c : Bool) → (if c then with_start (start_by v start) (tokens_of v (pieces text)) else IsUnreadable) ≡ IsSentence s → IsBelow n m s
  if_below start text s true is = with_below n m (start_by v start) (tokens_of v (pieces text)) s is (start_below start) (all_below (pieces text))
  if_below start text s false is = absurd (cc)

  from_below : (start : Option Text) (text : Text) (s : Sentence) → sentence_from v start text ≡ IsSentence s → IsBelow n m s
  from_below start text s is = if_below start text s (list_all is_word (pieces text)) is

  behind_below : (start : Option Text) (text : Text) (s : Sentence) → sentence_after_colon v start text ≡ IsSentence s → IsBelow n m s
  behind_below None text s is = absurd (cc)
  behind_below (Some name) text s is = from_below (Some name) text s is

  colon_below : (line : Text) (s : Sentence) (c : Bool) →
      (if c then sentence_after_colon v (only_word (pieces (take (colon_place line) line))) (drop (colon_place line + 1) line) else sentence_from v None line) ≡ IsSentence s → IsBelow n m s
  colon_below line s true is = behind_below (only_word (pieces (take (colon_place line) line))) (drop (colon_place line + 1) line) s is
  colon_below line s false is = from_below None line s is

  in_below : (line : Text) (s : Sentence) → sentence_in v line ≡ IsSentence s → IsBelow n m s
  in_below line s is = colon_below line s (nat_lt (colon_place line) (length line)) is

known_in : (g : Grammar) (line : Text) (s : Sentence) → sentence_in (vocabulary_of g) line ≡ IsSentence s → IsBelow (length (start_names g)) (length (token_names g)) s
known_in g line s is = in_below (vocabulary_of g) (length (start_names g)) (length (token_names g)) (bounded g) line s is

pub sentence_start : (g : Grammar) (line : Text) (s : Sentence) → sentence_in (vocabulary_of g) line ≡ IsSentence s → s.start < length g.starts
sentence_start g line s is = let below = known_in g line s is in omega (arith, below.start, length-map g.starts (start_symbol_name g))

pub start_known : (g : Grammar) (h : PlainGrammar) (line : Text) (s : Sentence) → sentence_in (vocabulary_of g) line ≡ IsSentence s → h ≡ plain_of g → s.start < length h.starts
start_known g h line s is same = subst (λ (x : PlainGrammar). s.start < length x.starts) (sym same) (sentence_start g line s is)

pub sentence_below : (g : Grammar) (h : PlainGrammar) (line : Text) (s : Sentence) (tokens : List ℕ) → sentence_in (vocabulary_of g) line ≡ IsSentence s → h ≡ plain_of g → tokens ≡ s.tokens → All (λ z. z < h.tokens) tokens
sentence_below g h line s tokens is same given =
    let below = known_in g line s is in
    let count : length (token_names g) ≡ h.tokens = length-map g.tokens (λ token. token.name) ∙ sym (ap (λ (x : PlainGrammar). x.tokens) same) in
    subst (λ (ts : List ℕ). All (λ z. z < h.tokens) ts) (sym given) (subst (λ (n : ℕ). All (λ z. z < n) s.tokens) count below.tokens)

pub sentence_tokens : (g : Grammar) (line : Text) (s : Sentence) → sentence_in (vocabulary_of g) line ≡ IsSentence s → AllByRecursion (λ z. z < length g.tokens) s.tokens
sentence_tokens g line s is = recursion_from_All (λ z. z < length g.tokens) s.tokens (sentence_below g (plain_of g) line s s.tokens is refl refl)

-- When no piece of the line is left, the loop has collected the tokens of all pieces.
pub tokens_by : (v : Vocabulary) (line rest : Text) (tokens : List ℕ) (unknown : Option (Bor Text)) → pieces rest ≡ [] → list_all is_word (pieces line) ≡ list_all is_word (pieces rest) →
    tokens_of v (pieces line) ≡ after_unknown unknown tokens (tokens_of v (pieces rest)) → AreTokens v line tokens (Ok unknown)
tokens_by v line rest tokens None none names so_far = (
  names ∙ ap (list_all is_word) none,
  so_far ∙ ap (λ (ps : List Text). after_unknown None tokens (tokens_of v ps)) none ∙ ap Tokens (append-nil tokens),
)
tokens_by v line rest tokens (Some name) none names so_far = (names ∙ ap (list_all is_word) none, so_far ∙ ap (λ (ps : List Text). after_unknown (Some name) tokens (tokens_of v ps)) none)

-- The result for a line of words is determined by its start and its tokens.
from_names : (v : Vocabulary) (start : Option Text) (line : Text) (starts : StartResult) (found : TokensResult) → list_all is_word (pieces line) ≡ true → start_by v start ≡ starts → tokens_of v (pieces line) ≡ found → sentence_from v start line ≡ with_start starts found
from_names v start line starts found names at are = ap (λ (b : Bool). if b then with_start (start_by v start) (tokens_of v (pieces line)) else IsUnreadable) names ∙ ap₂ with_start at are

-- If the start is found and all names are tokens, the line is the sentence with this start and these tokens.
pub sentence_found : (v : Vocabulary) (start : Option Text) (line : Text) (tokens : List ℕ) (unknown : Option (Bor Text)) (number : ℕ) → AreTokens v line tokens (Ok unknown) → unknown ≡ None → FindsStart (start_by v start) (Ok number)
    → AppendsSentence (sentence_from v start line) tokens (Ok number)
sentence_found v start line tokens None number are is finds = from_names v start line (StartIs number) (Tokens tokens) are.0 finds are.1
sentence_found v start line tokens (Some name) number are is finds = let no : Some name ≡ None = is in cc

put_lacks : (v : Vocabulary) (start : Option Text) (line : Text) (tokens : List ℕ) (fault : SentenceFault) → list_all is_word (pieces line) ≡ true → FindsStart (start_by v start) (Err fault) → AppendsSentence (sentence_from v start line) tokens (Err fault)
put_lacks v start line tokens (faults.UnknownStart name) names finds = from_names v start line (NoSuchStart name) (tokens_of v (pieces line)) names finds refl
put_lacks v start line tokens faults.MissingStart names finds = from_names v start line NoStart (tokens_of v (pieces line)) names finds refl
put_lacks v start line tokens faults.Memory names finds = tt
put_lacks v start line tokens faults.Unreadable names finds = absurd finds
put_lacks v start line tokens (faults.UnknownToken name) names finds = absurd finds

-- If the start is not found, the sentence is refused with the fault of the start.
pub start_refused : (v : Vocabulary) (start : Option Text) (line : Text) (tokens : List ℕ) (unknown : Option (Bor Text)) (fault : SentenceFault) → AreTokens v line tokens (Ok unknown) → FindsStart (start_by v start) (Err fault)
    → AppendsSentence (sentence_from v start line) tokens (Err fault)
start_refused v start line tokens None fault are finds = put_lacks v start line tokens fault are.0 finds
start_refused v start line tokens (Some name) fault are finds = put_lacks v start line tokens fault are.0 finds

unknown_told : (v : Vocabulary) (start : Option Text) (line name : Text) (tokens : List ℕ) (number : ℕ) (fault : SentenceFault) → list_all is_word (pieces line) ≡ true → tokens_of v (pieces line) ≡ Unknown name → start_by v start ≡ StartIs number
    → IsUnknownToken name fault → AppendsSentence (sentence_from v start line) tokens (Err fault)
unknown_told v start line name tokens number (faults.UnknownToken other) names are finds is = from_names v start line (StartIs number) (Unknown name) names finds are ∙ ap NamesUnknown is
unknown_told v start line name tokens number faults.Memory names are finds is = tt
unknown_told v start line name tokens number faults.Unreadable names are finds is = absurd is
unknown_told v start line name tokens number (faults.UnknownStart other) names are finds is = absurd is
unknown_told v start line name tokens number faults.MissingStart names are finds is = absurd is

-- The case in which the start is found and a name is no token.
pub token_refused : (v : Vocabulary) (start : Option Text) (line : Text) (tokens : List ℕ) (unknown : Option (Bor Text)) (name : Bor Text) (number : ℕ) (fault : SentenceFault) → AreTokens v line tokens (Ok unknown) → unknown ≡ Some name
    → FindsStart (start_by v start) (Ok number) → IsUnknownToken name.now fault → AppendsSentence (sentence_from v start line) tokens (Err fault)
token_refused v start line tokens None name number fault are is finds unknown_is = let no : None ≡ Some name = is in cc
token_refused v start line tokens (Some first) name number fault are is finds unknown_is =
    let same : Some first ≡ Some name = is in
    let here : first ≡ name = cc in
    unknown_told v start line name.now tokens number fault are.0 (are.1 ∙ ap (λ (n : Bor Text). Unknown n.now) here) finds unknown_is
