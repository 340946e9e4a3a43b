-- Proves that the sentences of a file are sentences of the grammar and have at most as many tokens as the file has
-- bytes.
use Rattle.std.proofs.Common.{◌≡◌, ◌<◌, ◌≤◌, ◌+◌, ◌-◌, ◌^◌, ℕ, zero, suc, Bool, true, false, cond, List, [], ◌∷◌, length, take, drop, filter, Option, None, Some, refl, sym, subst, if◌then◌else◌, arith, nat_lt, length-drop, length-append, slice_index, ◌&&◌, ◌==◌}
use Rattle.std.specs.Prelude.{slice_index_or, Result, Ok, Err, IfOk}
use Rattle.std.specs.List.{list_all, AllByRecursion}
use Rattle.std.proofs.lemmas.List.{length-take-le}
use Rattle.mh_lex_bytes.specs.Words.{is_word}
use Rattle.mh_grammar.proofs.Lists.{recursion-append}
use Rattle.mh_grammar.specs.declared.types.Sentence.{Sentence}
use Rattle.mh_grammar.specs.declared.types.Grammar.{Grammar}
use Rattle.mh_grammar.specs.Plain.{plain_of}
use Rattle.mh_grammar.specs.Text.{Text}
use Rattle.mh_msgfile.specs.Lines.{is_blank, AreLines, NoLine, LastLine, EndedLine, line_at}
use Rattle.mh_msgfile.specs.Sentences.{Vocabulary, vocabulary_of, put_first, fields, has_items, runs, pieces, TokensResult, Tokens, Unknown, StartResult, StartIs, NoSuchStart, NoStart, LineResult, IsSentence, IsUnreadable, NamesNoStart, LacksStart, NamesUnknown, put_token, tokens_of, start_by, with_start, only_word, colon_place, sentence_from, sentence_after_colon, sentence_in}
use Rattle.mh_msgfile.specs.Messages.{sentence_at, sentences_of, entries_in, blocks, MsgSpells, ReadsMessages, IsSentenceOf, AreSentencesOf}
use Rattle.mh_msgfile.specs.declared.messages.MsgSentence.{MsgSentence}
use Rattle.mh_msgfile.specs.declared.messages.Entry.{Entry}
use Rattle.mh_msgfile.specs.declared.messages.MsgFile.{MsgFile}
use Rattle.mh_msgfile.specs.declared.messages.MsgFault.{MsgFault}
use Rattle.mh_msgfile.proofs.SentenceBounds.{sentence_start, sentence_below}

-- ---- A text has at most as many pieces as bytes.

put_count : {A : Type 0} (x : A) (l : List (List A)) → length (filter has_items (put_first x l)) ≤ length (filter has_items l) + 1
put_count x [] = omega arith
put_count x ([] ∷ l) = omega arith
put_count x ((y ∷ ys) ∷ l) = omega arith

module _ {A : Type 0} (separates : A → Bool) where
  few_runs_on : (x : A) (xs : List A) (c : Bool) → separates x ≡ c → length (runs separates xs) ≤ length xs → length (runs separates (x ∷ xs)) ≤ length (x ∷ xs)
  few_runs_on x xs true is le = rw is (omega arith)
  few_runs_on x xs false is le = rw is (omega (arith, put_count x (fields separates xs)))

  few_runs : (xs : List A) → length (runs separates xs) ≤ length xs
  few_runs [] = omega arith
  few_runs (x ∷ xs) = few_runs_on x xs (separates x) refl (few_runs xs)

-- ---- A line has at most as many tokens as pieces.

abbrev HasFewTokens : ℕ → TokensResult → Type 0
HasFewTokens n (Tokens tokens) = length tokens ≤ n
HasFewTokens n (Unknown name) = Unit {0}

put_few : (n : ℕ) (name : Text) (o : Option ℕ) (found : TokensResult) → HasFewTokens n found → HasFewTokens (suc n) (put_token name o found)
put_few n name None found few = tt
put_few n name (Some token) (Unknown other) few = tt
put_few n name (Some token) (Tokens tokens) few = omega arith

module _ (v : Vocabulary) where
  tokens_few : (ps : List Text) → HasFewTokens (length ps) (tokens_of v ps)
  tokens_few [] = omega arith
  tokens_few (name ∷ ps) = put_few (length ps) name (v.token_named name) (tokens_of v ps) (tokens_few ps)

  with_few : (n : ℕ) (start : StartResult) (found : TokensResult) (s : Sentence) → with_start start found ≡ IsSentence s → HasFewTokens n found → length s.tokens ≤ n
  with_few n (StartIs start) (Tokens tokens) s is few = let same : tokens ≡ s.tokens = cc in subst (λ (l : List ℕ). length l ≤ n) same few
  with_few n (StartIs start) (Unknown name) s is few = absurd (cc)
  with_few n (NoSuchStart name) found s is few = absurd (cc)
  with_few n NoStart found s is few = absurd (cc)

  if_few : (start : Option Text) (text : Text) (s : Sentence) (c : Bool) → (if c then with_start (start_by v start) (tokens_of v (pieces text)) else IsUnreadable) ≡ IsSentence s → length s.tokens ≤ length (pieces text)
  if_few start text s true is = with_few (length (pieces text)) (start_by v start) (tokens_of v (pieces text)) s is (tokens_few (pieces text))
  if_few start text s false is = absurd (cc)

  from_few : (start : Option Text) (text : Text) (s : Sentence) → sentence_from v start text ≡ IsSentence s → length s.tokens ≤ length text
  from_few start text s is = omega (arith, if_few start text s (list_all is_word (pieces text)) is, few_runs is_blank text)

  behind_few : (start : Option Text) (text : Text) (s : Sentence) → sentence_after_colon v start text ≡ IsSentence s → length s.tokens ≤ length text
  behind_few None text s is = absurd (cc)
  behind_few (Some name) text s is = from_few (Some name) text s is

  colon_few : (line : Text) (s : Sentence) (c : Bool) →
      (if c then sentence_after_colon v (only_word (pieces (take (colon_place line) line))) (drop (colon_place line + 1) line) else sentence_from v None line) ≡ IsSentence s → length s.tokens ≤ length line
  colon_few line s true is =
      let few = behind_few (only_word (pieces (take (colon_place line) line))) (drop (colon_place line + 1) line) s is in omega (arith, few, length-drop (colon_place line + 1) line)
  colon_few line s false is = from_few None line s is

  sentence_few : (line : Text) (s : Sentence) → sentence_in v line ≡ IsSentence s → length s.tokens ≤ length line
  sentence_few line s is = colon_few line s (nat_lt (colon_place line) (length line)) is

-- ---- No line is longer than the file.

cut_shorter : (c : Bool) (n : ℕ) (line : Text) → n ≤ length line → length (cond c (take n line) line) ≤ length line
cut_shorter true n line le = omega (arith, length-take-le n line le)
cut_shorter false n line le = omega arith

pub are_short : (bytes : Text) (lines : List Text) → AreLines bytes lines → (k : ℕ) → length (slice_index_or lines k []) ≤ length bytes
are_short bytes lines NoLine k = omega arith
are_short bytes lines (LastLine line none some) zero = omega arith
are_short bytes lines (LastLine line none some) (suc k) = omega arith
are_short bytes lines (EndedLine line rest others none are) zero = omega (arith, cut_shorter (nat_lt 0 (length line) && slice_index line (length line - 1) == 13) (length line - 1) line (omega arith), length-append line (10 ∷ rest))
are_short bytes lines (EndedLine line rest others none are) (suc k) = omega (arith, are_short rest others are k, length-append line (10 ∷ rest))

-- ---- The sentences of a file.

module _ (g : Grammar) (bytes : Text) (lines : List Text) (are : AreLines bytes lines) (short : length bytes < 2 ^ 32) where
  abbrev Fits : MsgSentence → Type 0
  Fits x = IsSentenceOf (length g.starts) (length g.tokens) x

  one_fits : (number : ℕ) (found : LineResult) → sentence_in (vocabulary_of g) (line_at lines number) ≡ found → AllByRecursion Fits (sentence_at number found)
  one_fits number (IsSentence s) is = (
    record {
      start = sentence_start g (line_at lines number) s is;
      known = sentence_below g (plain_of g) (line_at lines number) s s.tokens is refl refl;
      few = omega (arith, sentence_few (vocabulary_of g) (line_at lines number) s is, are_short bytes lines are (number - 1));
    },
    tt,
  )
  one_fits number IsUnreadable is = tt
  one_fits number (NamesNoStart name) is = tt
  one_fits number LacksStart is = tt
  one_fits number (NamesUnknown name) is = tt

  block_fits : (block : List ℕ) → AllByRecursion Fits (sentences_of (vocabulary_of g) lines block)
  block_fits [] = tt
  block_fits (number ∷ block) =
      recursion-append Fits (sentence_at number (sentence_in (vocabulary_of g) (line_at lines number))) (sentences_of (vocabulary_of g) lines block) (one_fits number (sentence_in (vocabulary_of g) (line_at lines number)) refl) (block_fits block)

  entries_fit : (bs : List (List ℕ)) → AllByRecursion (λ (e : Entry). AllByRecursion Fits e.sentences) (entries_in (vocabulary_of g) lines bs)
  entries_fit [] = tt
  entries_fit (block ∷ []) = tt
  entries_fit (block ∷ message ∷ rest) = (block_fits block, entries_fit rest)

pub file_fits : (g : Grammar) (bytes : Text) (file : MsgFile) → length bytes < 2 ^ 32 → MsgSpells g bytes file → AreSentencesOf (length g.starts) (length g.tokens) file
file_fits g bytes file short spells =
    subst (λ (es : List Entry). AllByRecursion (λ (e : Entry). AllByRecursion (IsSentenceOf (length g.starts) (length g.tokens)) e.sentences) es) (sym spells.entries) (entries_fit g bytes file.lines spells.lines short (blocks file.lines))

pub reads_fit : (g : Grammar) (bytes : Text) (r : Result MsgFile MsgFault) → length bytes < 2 ^ 32 → ReadsMessages g bytes r → IfOk r (AreSentencesOf (length g.starts) (length g.tokens))
reads_fit g bytes (Ok file) short reads = file_fits g bytes file short reads
reads_fit g bytes (Err fault) short reads = tt
