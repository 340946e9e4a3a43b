-- The contracts of the steps that read a messages file.
use Rattle.std.specs.Prelude.{◌≡◌, ℕ, List, [], ◌∷◌, ◌++◌, Result, Ok, Err}
use Rattle.mh_grammar.specs.Text.{Text}
use Rattle.mh_msgfile.specs.Sentences.{Vocabulary, LineResult}
use Rattle.mh_msgfile.specs.Messages.{MessagesFault, BadShape, ReportsFault, fault_at, faults_of, sentences_of, first_number, faults_in, entries_in, message_of}
use Rattle.mh_msgfile.specs.declared.messages.MsgSentence.{MsgSentence}
use Rattle.mh_msgfile.specs.declared.messages.Entry.{Entry}
use Rattle.mh_msgfile.specs.declared.messages.MsgFault.{MsgFault}

-- This fault is the first of the list.
abbrev pub BeginsWithFault : List MessagesFault → MessagesFault → Type 0
BeginsWithFault found fault = (later : List MessagesFault) × (found ≡ fault ∷ later)

-- The result is the sentences of a block, or its first fault.
abbrev pub ReadsBlock : Vocabulary → List Text → List ℕ → Result (List MsgSentence) MsgFault → Type 0
ReadsBlock v lines block (Ok sentences) = (faults_of v lines block ≡ []) × (sentences ≡ sentences_of v lines block)
ReadsBlock v lines block (Err fault) = ReportsFault fault (BeginsWithFault (faults_of v lines block))

-- The result is the entries of these blocks, or their first fault.
abbrev pub ReadsEntries : Vocabulary → List Text → List (List ℕ) → Result (List Entry) MsgFault → Type 0
ReadsEntries v lines bs (Ok entries) = (faults_in v lines bs ≡ []) × (entries ≡ entries_in v lines bs)
ReadsEntries v lines bs (Err fault) = ReportsFault fault (BeginsWithFault (faults_in v lines bs))

-- A success with this value, or the same fault.
abbrev pub with_value : {A : Type 0} → Result (Unit {0}) MsgFault → A → Result A MsgFault
with_value (Ok _) put = Ok put
with_value (Err fault) put = Err fault

-- The result is the entry of a block and its message, or the first fault of the block.
abbrev pub ReadsEntry : Vocabulary → List Text → List ℕ → List ℕ → Result Entry MsgFault → Type 0
ReadsEntry v lines block message (Ok entry) = (faults_of v lines block ≡ []) × (entry ≡ record { sentences = sentences_of v lines block; message = message_of lines message })
ReadsEntry v lines block message (Err fault) = ReportsFault fault (BeginsWithFault (faults_of v lines block))

-- The fault is the first fault of a last block that has no message.
abbrev pub IsFaultOfLastBlock : Vocabulary → List Text → List ℕ → MsgFault → Type 0
IsFaultOfLastBlock v lines block fault = ReportsFault fault (BeginsWithFault (faults_of v lines block ++ BadShape (first_number block) ∷ []))

-- The fault is the one of a line that is no sentence.
abbrev pub IsFaultOfLine : ℕ → LineResult → MsgFault → Type 0
IsFaultOfLine number found fault = ReportsFault fault (λ f. fault_at number found ≡ f ∷ [])
