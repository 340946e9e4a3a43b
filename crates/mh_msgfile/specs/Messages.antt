-- The definition of messages files: blocks of sentence lines, each followed by a block that is its message (Menhir
-- manual, messages files); details are this project's own.
use Rattle.std.specs.Prelude.{◌≡◌, ℕ, zero, suc, ◌+◌, ◌^◌, ◌<◌, List, [], ◌∷◌, ◌++◌, All, filter, flat_map, length, Result, Ok, Err, ⊤}
use Rattle.std.specs.List.{AllByRecursion}
use Rattle.mh_grammar.specs.declared.types.Grammar.{Grammar}
use Rattle.mh_grammar.specs.Text.{Text}
use Rattle.mh_msgfile.specs.Lines.{AreLines, line_at, is_kept, is_blank_line}
use Rattle.mh_msgfile.specs.Sentences.{Vocabulary, vocabulary_of, LineResult, IsSentence, IsUnreadable, NamesNoStart, LacksStart, NamesUnknown, sentence_in, runs}
use Rattle.mh_msgfile.specs.declared.messages.MsgSentence.{MsgSentence}
use Rattle.mh_msgfile.specs.declared.messages.Entry.{Entry}
use Rattle.mh_msgfile.specs.declared.messages.MsgFile.{MsgFile}
use Rattle.mh_msgfile.specs.declared.messages.MsgFault.{MsgFault}
use Rattle.mh_msgfile.specs.declared.messages.MsgFault.TheVariants as faults

-- ---- Lines.

-- The list of `count` numbers from `number` on.
abbrev pub numbers_from : ℕ → ℕ → List ℕ
numbers_from number zero = []
numbers_from number (suc count) = number ∷ numbers_from (number + 1) count

abbrev pub kept_lines : List Text → List ℕ
kept_lines lines = filter (is_kept lines) (numbers_from 1 (length lines))

-- ---- Blocks, as lists of line numbers.

-- The blocks of a file: maximal runs of lines that are not blank, after the lines that begin with `#` are removed.
abbrev pub blocks : List Text → List (List ℕ)
blocks lines = runs (is_blank_line lines) (kept_lines lines)

-- The message of a block: its lines, each followed by an LF.
abbrev pub message_of : List Text → List ℕ → Text
message_of lines block = flat_map (λ number. line_at lines number ++ 10 ∷ []) block

-- ---- Sentences and faults.

-- A fault of a file, with the number of its line.
pub data MessagesFault : Type 0 where
  BadShape : ℕ → MessagesFault
  NamesNoStartAt : ℕ → Text → MessagesFault
  LacksStartAt : ℕ → MessagesFault
  NamesUnknownAt : ℕ → Text → MessagesFault

abbrev pub fault_at : ℕ → LineResult → List MessagesFault
fault_at number (IsSentence s) = []
fault_at number IsUnreadable = BadShape number ∷ []
fault_at number (NamesNoStart name) = NamesNoStartAt number name ∷ []
fault_at number LacksStart = LacksStartAt number ∷ []
fault_at number (NamesUnknown name) = NamesUnknownAt number name ∷ []

abbrev pub sentence_at : ℕ → LineResult → List MsgSentence
sentence_at number (IsSentence s) = record { line = number; start = s.start; tokens = s.tokens } ∷ []
sentence_at number _ = []

-- The faults of the lines of a block of sentences.
abbrev pub faults_of : Vocabulary → List Text → List ℕ → List MessagesFault
faults_of v lines block = flat_map (λ number. fault_at number (sentence_in v (line_at lines number))) block

abbrev pub sentences_of : Vocabulary → List Text → List ℕ → List MsgSentence
sentences_of v lines block = flat_map (λ number. sentence_at number (sentence_in v (line_at lines number))) block

abbrev pub first_number : List ℕ → ℕ
first_number [] = 0
first_number (number ∷ block) = number

-- The faults of these blocks in the order of their lines; if a last block of sentences has no message, its fault is the
-- last.
abbrev pub faults_in : Vocabulary → List Text → List (List ℕ) → List MessagesFault
faults_in v lines [] = []
faults_in v lines (block ∷ []) = faults_of v lines block ++ BadShape (first_number block) ∷ []
faults_in v lines (block ∷ message ∷ rest) = faults_of v lines block ++ faults_in v lines rest

-- The entries of these blocks: the blocks at odd positions hold sentences, and the block after each is their message.
abbrev pub entries_in : Vocabulary → List Text → List (List ℕ) → List Entry
entries_in v lines [] = []
entries_in v lines (block ∷ []) = []
entries_in v lines (block ∷ message ∷ rest) = record { sentences = sentences_of v lines block; message = message_of lines message } ∷ entries_in v lines rest

-- ---- Files.

-- The bytes spell this messages file.
pub record MsgSpells (g : Grammar) (bytes : Text) (file : MsgFile) : Type 0 where
  pub lines : AreLines bytes file.lines
  pub no_faults : faults_in (vocabulary_of g) file.lines (blocks file.lines) ≡ []
  pub entries : file.entries ≡ entries_in (vocabulary_of g) file.lines (blocks file.lines)

-- This is the first fault of the bytes.
pub record HasFault (g : Grammar) (bytes : Text) (fault : MessagesFault) : Type 0 where
  pub lines : List Text
  pub are_lines : AreLines bytes lines
  pub later : List MessagesFault
  pub first : faults_in (vocabulary_of g) lines (blocks lines) ≡ fault ∷ later

-- ---- Results of the code.

-- The fault that a call reports has this property, unless memory ran out.
abbrev pub ReportsFault : MsgFault → (MessagesFault → Type 0) → Type 0
ReportsFault (faults.Shape line) Is = Is (BadShape line)
ReportsFault (faults.UnknownStart line name) Is = Is (NamesNoStartAt line name)
ReportsFault (faults.MissingStart line) Is = Is (LacksStartAt line)
ReportsFault (faults.UnknownToken line name) Is = Is (NamesUnknownAt line name)
ReportsFault faults.Memory Is = ⊤

abbrev pub ReadsMessages : Grammar → Text → Result MsgFile MsgFault → Type 0
ReadsMessages g bytes (Ok file) = MsgSpells g bytes file
ReadsMessages g bytes (Err fault) = ReportsFault fault (HasFault g bytes)

-- ---- Sentences within the bounds of a grammar.

-- The start and tokens of the sentence are below these counts, and the sentence has fewer than 2^32 tokens.
pub record IsSentenceOf (starts tokens : ℕ) (x : MsgSentence) : Type 0 where
  pub start : x.start < starts
  pub known : All (λ z. z < tokens) x.tokens
  pub few : length x.tokens < 2 ^ 32

abbrev pub AreSentencesOf : ℕ → ℕ → MsgFile → Type 0
AreSentencesOf starts tokens file = AllByRecursion (λ entry. AllByRecursion (IsSentenceOf starts tokens) entry.sentences) file.entries
