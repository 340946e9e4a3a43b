-- The definition of sentence lines: the name of a start and a colon, which may be omitted if the grammar has only one
-- start, and names of tokens. The format is this project's own, after `--interpret` of the Menhir manual.
use Rattle.std.specs.Prelude.{◌≡◌, ℕ, ◌+◌, ◌<◌, length, Vec, ◌==◌, Bool, true, false, List, [], ◌∷◌, ◌++◌, map, filter, take, drop, Option, None, Some, if◌then◌else◌, nat_lt, Result, Ok, Err, ⊤}
use Rattle.std.specs.List.{list_all, position_from}
use Rattle.std.specs.Str.{bytes_eq}
use Rattle.std.specs.Borrow.{Bor}
use Rattle.std.specs.Map.{lookup}
use Rattle.mh_grammar.specs.declared.types.Grammar.{Grammar}
use Rattle.mh_grammar.specs.declared.types.Sentence.{Sentence}
use Rattle.mh_lex_bytes.specs.Words.{is_word}
use Rattle.std.specs.declared.alloc.Global.{Global}
use Rattle.mh_msgfile.specs.Lines.{is_blank}
use Rattle.mh_msgfile.specs.StartNames.{start_names, only_one}
use Rattle.mh_msgfile.specs.declared.lexicon.Lexicon.{Lexicon}
use Rattle.mh_msgfile.specs.declared.sentence.SentenceFault.{SentenceFault}
use Rattle.mh_msgfile.specs.declared.sentence.SentenceFault.TheVariants as faults
use Rattle.mh_grammar.specs.Text.{Text}

-- ---- Pieces and names.

-- The lists with x put at the front of the first one.
abbrev pub put_first : {A : Type 0} → A → List (List A) → List (List A)
put_first x [] = (x ∷ []) ∷ []
put_first x (xs ∷ others) = (x ∷ xs) ∷ others

-- The lists between separators, also the empty ones.
abbrev pub fields : {A : Type 0} → (A → Bool) → List A → List (List A)
fields separates [] = [] ∷ []
fields separates (x ∷ xs) = if separates x then [] ∷ fields separates xs else put_first x (fields separates xs)

abbrev pub has_items : {A : Type 0} → List A → Bool
has_items [] = false
has_items (x ∷ xs) = true

-- The lists between separators that are not empty: the maximal runs of items that are no separators.
abbrev pub runs : {A : Type 0} → (A → Bool) → List A → List (List A)
runs separates xs = filter has_items (fields separates xs)

-- The texts between blanks.
abbrev pub pieces : Text → List Text
pieces line = runs is_blank line

-- The meaning of names in lines: the number of the start or of the token with a name, and the number of the only start.
pub record Vocabulary : Type 0 where
  pub start_named : Text → Option ℕ
  pub only_start : Option ℕ
  pub token_named : Text → Option ℕ

abbrev pub token_names : Grammar → List Text
token_names g = map (λ token. token.name) g.tokens

-- The index of the first of these names that is equal to a name.
abbrev pub number_of : List Text → Text → Option ℕ
number_of names name = position_from (bytes_eq name) 0 names

abbrev pub vocabulary_of : Grammar → Vocabulary
vocabulary_of g = record { start_named = number_of (start_names g); only_start = only_one (start_names g); token_named = number_of (token_names g) }

-- ---- The tokens of a line.

-- The tokens with these names, or the first name that no token has.
pub data TokensResult : Type 0 where
  Tokens : List ℕ → TokensResult
  Unknown : Text → TokensResult

abbrev pub put_token : Text → Option ℕ → TokensResult → TokensResult
put_token name None found = Unknown name
put_token name (Some token) (Tokens tokens) = Tokens (token ∷ tokens)
put_token name (Some token) (Unknown other) = Unknown other

abbrev pub tokens_of : Vocabulary → List Text → TokensResult
tokens_of v [] = Tokens []
tokens_of v (name ∷ names) = put_token name (v.token_named name) (tokens_of v names)

-- ---- The start of a line.

-- The start that a line names, or the only start, or the reason why there is none.
pub data StartResult : Type 0 where
  StartIs : ℕ → StartResult
  NoSuchStart : Text → StartResult
  NoStart : StartResult

abbrev pub start_or : Text → Option ℕ → StartResult
start_or name None = NoSuchStart name
start_or name (Some start) = StartIs start

abbrev pub only_or : Option ℕ → StartResult
only_or None = NoStart
only_or (Some start) = StartIs start

abbrev pub start_by : Vocabulary → Option Text → StartResult
start_by v None = only_or v.only_start
start_by v (Some name) = start_or name (v.start_named name)

-- The number of bytes before the first colon.
abbrev pub colon_place : Text → ℕ
colon_place [] = 0
colon_place (b ∷ bytes) = if b == 58 then 0 else colon_place bytes + 1

-- The only piece of a text, if there is exactly one and it is a word.
abbrev pub only_word : List Text → Option Text
only_word (name ∷ []) = if is_word name then Some name else None
only_word _ = None

-- ---- Whole lines.

-- The result of reading a line: a sentence, or the first fault of the line.
pub data LineResult : Type 0 where
  IsSentence : Sentence → LineResult
  IsUnreadable : LineResult
  NamesNoStart : Text → LineResult
  LacksStart : LineResult
  NamesUnknown : Text → LineResult

abbrev pub with_start : StartResult → TokensResult → LineResult
with_start (StartIs start) (Tokens tokens) = IsSentence (record { start = start; tokens = tokens })
with_start (StartIs start) (Unknown name) = NamesUnknown name
with_start (NoSuchStart name) found = NamesNoStart name
with_start NoStart found = LacksStart

-- The result for a line with this start name, or none, and this text of token names.
abbrev pub sentence_from : Vocabulary → Option Text → Text → LineResult
sentence_from v start text = if list_all is_word (pieces text) then with_start (start_by v start) (tokens_of v (pieces text)) else IsUnreadable

abbrev pub sentence_after_colon : Vocabulary → Option Text → Text → LineResult
sentence_after_colon v None text = IsUnreadable
sentence_after_colon v (Some name) text = sentence_from v (Some name) text

-- The result of reading a line. If the line has a colon, the text before the first colon names the start.
abbrev pub sentence_in : Vocabulary → Text → LineResult
sentence_in v line =
    if nat_lt (colon_place line) (length line)
    then sentence_after_colon v (only_word (pieces (take (colon_place line) line))) (drop (colon_place line + 1) line)
    else sentence_from v None line

-- ---- Results of the code.

-- The number that the entries of a map give to a name.
abbrev pub number_in : List (Vec ℕ Global × ℕ) → Text → Option ℕ
number_in entries name = lookup (λ key. bytes_eq name key.items) entries

-- The vocabulary of a lexicon.
abbrev pub vocabulary_in : Lexicon → Vocabulary
vocabulary_in lexicon = record { start_named = number_in lexicon.starts.entries; only_start = lexicon.only_start; token_named = number_in lexicon.tokens.entries }

-- The first run of a list with the rest of the list after it, or nothing if there is no run.
abbrev pub FirstPiece : {A : Type 0} → (A → Bool) → List A → Option (Bor (List A) × Bor (List A)) → Type 0
FirstPiece separates xs None = runs separates xs ≡ []
FirstPiece separates xs (Some (piece, rest)) = (runs separates xs ≡ piece.now ∷ runs separates rest.now) × (length rest.now < length xs)

-- The code's result agrees with the result by definition.
abbrev pub ReadsSentence : LineResult → Result Sentence SentenceFault → Type 0
ReadsSentence found (Ok sentence) = found ≡ IsSentence sentence
ReadsSentence found (Err faults.Unreadable) = found ≡ IsUnreadable
ReadsSentence found (Err (faults.UnknownStart name)) = found ≡ NamesNoStart name
ReadsSentence found (Err faults.MissingStart) = found ≡ LacksStart
ReadsSentence found (Err (faults.UnknownToken name)) = found ≡ NamesUnknown name
ReadsSentence found (Err faults.Memory) = ⊤
