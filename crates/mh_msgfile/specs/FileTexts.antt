-- The definitions of the texts of sentences and messages files (Menhir manual, messages files); details are this
-- project's own.
use Rattle.std.specs.Prelude.{◌≡◌, ◌<◌, ℕ, true, List, [], ◌∷◌, ◌++◌, length, map, flat_map}
use Rattle.std.specs.List.{Contains}
use Rattle.mh_lex_bytes.specs.Words.{is_word}
use Rattle.mh_grammar.specs.declared.types.Grammar.{Grammar}
use Rattle.mh_grammar.specs.Names.{start_name, token_name}
use Rattle.mh_grammar.specs.Text.{Text}
use Rattle.mh_msgfile.specs.declared.messages.MsgSentence.{MsgSentence}
use Rattle.mh_msgfile.specs.declared.messages.Entry.{Entry}
use Rattle.mh_msgfile.specs.declared.messages.MsgFile.{MsgFile}

-- The names of the tokens, each after one space.
abbrev pub names_after : Grammar → List ℕ → Text
names_after g tokens = flat_map (λ z. 32 ∷ token_name g z) tokens

-- The canonical line of a sentence: the name of the start, a colon, and the names of the tokens.
abbrev pub sentence_text : Grammar → ℕ → List ℕ → Text
sentence_text g start tokens = start_name g start ++ 58 ∷ names_after g tokens

-- The canonical line of a sentence, followed by an LF.
abbrev pub sentence_line : Grammar → MsgSentence → Text
sentence_line g x = sentence_text g x.start x.tokens ++ 10 ∷ []

abbrev pub sentence_lines : Grammar → List MsgSentence → Text
sentence_lines g xs = flat_map (sentence_line g) xs

-- The text of an entry: its sentences, an empty line, its message, and an empty line.
abbrev pub entry_text : Grammar → Entry → Text
entry_text g entry = sentence_lines g entry.sentences ++ (10 ∷ []) ++ entry.message ++ 10 ∷ []

abbrev pub file_text : Grammar → MsgFile → Text
file_text g file = flat_map (entry_text g) file.entries

-- The sentences of a file without messages.
abbrev pub echo_text : Grammar → MsgFile → Text
echo_text g file = flat_map (λ entry. sentence_lines g entry.sentences) file.entries

-- ---- Names that can be read again.

-- The names of tokens and starts are words; two tokens have different names, and so have two starts.
pub record HasReadableNames (g : Grammar) : Type 0 where
  pub token_words : (z : ℕ) → z < length g.tokens → is_word (token_name g z) ≡ true
  pub start_words : (i : ℕ) → i < length g.starts → is_word (start_name g i) ≡ true
  pub tokens_differ : (y z : ℕ) → y < length g.tokens → z < length g.tokens → token_name g y ≡ token_name g z → y ≡ z
  pub starts_differ : (i j : ℕ) → i < length g.starts → j < length g.starts → start_name g i ≡ start_name g j → i ≡ j

-- ---- Files of the same content.

-- The start and the tokens of a sentence.
abbrev pub content_of : MsgSentence → ℕ × List ℕ
content_of x = (x.start, x.tokens)

-- The sentences of an entry without their line numbers, and its message.
abbrev pub entry_content : Entry → List (ℕ × List ℕ) × Text
entry_content entry = (map content_of entry.sentences, entry.message)

-- Two files have the same starts, tokens and messages, entry by entry.
abbrev pub HaveSameContent : MsgFile → MsgFile → Type 0
HaveSameContent a b = map entry_content a.entries ≡ map entry_content b.entries

-- No line of a message ends in a CR.
abbrev pub HasNoCr : MsgFile → Type 0
HasNoCr file = (entry : Entry) → Contains file.entries entry → (front rest : Text) → entry.message ≡ front ++ 13 ∷ 10 ∷ rest → ⊥
