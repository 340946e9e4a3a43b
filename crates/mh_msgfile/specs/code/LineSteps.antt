-- The contracts of the steps that read a sentence line.
use Rattle.std.specs.Prelude.{◌≡◌, ℕ, ◌+◌, Vec, Bool, true, false, List, [], ◌∷◌, ◌++◌, Option, None, Some, if◌then◌else◌, Result, Ok, Err, ⊤}
use Rattle.std.specs.List.{list_all}
use Rattle.std.specs.Str.{bytes_eq}
use Rattle.std.specs.Borrow.{Bor}
use Rattle.std.specs.declared.alloc.Global.{Global}
use Rattle.mh_grammar.specs.Text.{Text}
use Rattle.mh_lex_bytes.specs.Words.{is_word}
use Rattle.mh_msgfile.specs.declared.sentence.StartName.{StartName}
use Rattle.mh_msgfile.specs.declared.sentence.StartName.TheVariants.{Named, LeftOut}
use Rattle.mh_msgfile.specs.declared.sentence.SentenceFault.{SentenceFault}
use Rattle.mh_msgfile.specs.declared.sentence.SentenceFault.TheVariants as faults
use Rattle.mh_msgfile.specs.Sentences.{number_in, number_of, pieces, only_word, Vocabulary, TokensResult, Tokens, Unknown, tokens_of, StartResult, StartIs, NoSuchStart, NoStart, LineResult, IsSentence, ReadsSentence}

-- The map has exactly the numbers of these names.
abbrev pub AreNumbers : List Text → List (Vec ℕ Global × ℕ) → Type 0
AreNumbers names entries = (name : Text) → number_in entries name ≡ number_of names name

-- The first of two optional numbers that is present.
abbrev pub or_else : Option ℕ → Option ℕ → Option ℕ
or_else None later = later
or_else (Some first) later = Some first

-- The name has this number if it had none; all other numbers are unchanged.
abbrev pub InsertsName : Text → ℕ → List (Vec ℕ Global × ℕ) → List (Vec ℕ Global × ℕ) → Type 0
InsertsName name number old new = (other : Text) → number_in new other ≡ or_else (number_in old other) (if bytes_eq other name then Some number else None)

-- The result is the only word of a text, if the text has exactly one piece.
abbrev pub IsOnlyWord : Text → Option (Bor Text) → Type 0
IsOnlyWord bytes None = only_word (pieces bytes) ≡ None
IsOnlyWord bytes (Some name) = only_word (pieces bytes) ≡ Some name.now

-- The result is the start that was found, or the reason why there is none.
abbrev pub FindsStart : StartResult → Result ℕ SentenceFault → Type 0
FindsStart found (Ok start) = found ≡ StartIs start
FindsStart found (Err (faults.UnknownStart name)) = found ≡ NoSuchStart name
FindsStart found (Err faults.MissingStart) = found ≡ NoStart
FindsStart found (Err faults.Memory) = ⊤
FindsStart found (Err _) = ⊥

-- The name of the start, if the line has one.
abbrev pub name_of : StartName → Option Text
name_of LeftOut = None
name_of (Named name) = Some name.now

-- If all pieces of the text are words: `tokens` are their tokens and the result is `None`, or the result is the first
-- piece that is not the name of a token. Otherwise the fault says that some piece is no word.
abbrev pub AreTokens : Vocabulary → Text → List ℕ → Result (Option (Bor Text)) SentenceFault → Type 0
AreTokens v text tokens (Ok None) = (list_all is_word (pieces text) ≡ true) × (tokens_of v (pieces text) ≡ Tokens tokens)
AreTokens v text tokens (Ok (Some name)) = (list_all is_word (pieces text) ≡ true) × (tokens_of v (pieces text) ≡ Unknown name.now)
AreTokens v text tokens (Err faults.Unreadable) = list_all is_word (pieces text) ≡ false
AreTokens v text tokens (Err faults.Memory) = ⊤
AreTokens v text tokens (Err _) = ⊥

-- The fault says that no token has this name, or that memory ran out.
abbrev pub IsUnknownToken : Text → SentenceFault → Type 0
IsUnknownToken name (faults.UnknownToken other) = name ≡ other
IsUnknownToken name faults.Memory = ⊤
IsUnknownToken name _ = ⊥

-- The tokens `before` followed by the result for the rest of the names.
abbrev pub after_tokens : List ℕ → TokensResult → TokensResult
after_tokens before (Tokens tokens) = Tokens (before ++ tokens)
after_tokens before (Unknown name) = Unknown name

-- The result for all names: the first name that no token has, if it was found; otherwise the tokens `before` followed
-- by the result for the rest of the names.
abbrev pub after_unknown : Option (Bor Text) → List ℕ → TokensResult → TokensResult
after_unknown None before found = after_tokens before found
after_unknown (Some name) before found = Unknown name.now

-- The start that was returned and the tokens that were appended are those of the line's sentence; or the fault is the
-- line's.
abbrev pub AppendsSentence : LineResult → List ℕ → Result ℕ SentenceFault → Type 0
AppendsSentence found tokens (Ok start) = found ≡ IsSentence (record { start = start; tokens = tokens })
AppendsSentence found tokens (Err fault) = ReadsSentence found (Err fault)
