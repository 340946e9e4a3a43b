-- The headline claims on a call of the whole program. They say what follows about the table of the grammar from a list
-- of errors, from an accepted messages file, and from the answer to a refused line (after Pottier 2016, "Reachability
-- and error diagnosis in LR(1) parsers"). The claims speak of the status and of out alone, and not of the text that a
-- fault has on err.
use Rattle.std.specs.Prelude.{◌≡◌, ◌⊎◌, ◌↔◌, ℕ, Bool, true, false, List, ◌++◌, flat_map, Option, Some, Ok, codes}
use Rattle.std.specs.List.{AllZip, AllByRecursion, Contains}
use Rattle.std.specs.Io.KnownBytes.{Appends}
use Rattle.mh_grammar.specs.Text.{Text}
use Rattle.mh_grammar.specs.Edges.{IsRising}
use Rattle.mh_grammar.specs.declared.types.Grammar.{Grammar}
use Rattle.mh_grammar.specs.declared.types.Sentence.{Sentence}
use Rattle.mh_outside.specs.Shelf.{Files, Bytes}
use Rattle.mh_opts.specs.Orders.{order_of}
use Rattle.mh_opts.specs.declared.order.Order.{Order}
use Rattle.mh_opts.specs.declared.jobs.Job.TheVariants.{ListErrors, CompileErrors, Interpret}
use Rattle.mh_items_kernels.specs.KernelTypes.{Automaton}
use Rattle.mh_tables_core.specs.Table.{TableData}
use Rattle.mh_tables_core.specs.Run.{VerdictOf, Rejected}
use Rattle.mh_tables_core.specs.Failing.{IsInput, CatalogueRow, IsRowBefore, FailsFirst}
use Rattle.mh_msgfile.specs.Messages.{MsgSpells}
use Rattle.mh_msgfile.specs.Sentences.{IsSentence, sentence_in, vocabulary_of}
use Rattle.mh_msgfile.specs.declared.messages.MsgFile.{MsgFile}
use Rattle.mh_check.specs.Checks.{Sound, IsMessage, sentences_of}
use Rattle.mh_report.specs.CatalogueTexts.{AreEntries}
use Rattle.mh_top_drive.specs.FileContents.{IsFound}
use Rattle.mh_top_drive.specs.InputLines.{lines_of_input}
use Rattle.mh_top_claims.specs.Claims.{HasNoDeviceFault}
use Rattle.mh_top_claims.specs.GivesTable.{GivesTable, IsAccepted}
use Rattle.mh_top_claims.specs.Run.{World}

-- ---- The list of errors.

-- Some sentence is refused in state s, at any place of the sentence.
abbrev pub IsRefusedIn : TableData → ℕ → Type 0
IsRefusedIn t s = (start : ℕ) × (w : List ℕ) × (at : ℕ) × IsInput t start w × VerdictOf t start w (Rejected at s)

-- The text is one entry for each state in which some sentence is refused, and for no other state. The states rise. Each
-- entry has the first sentence that is refused in its state at its last token, in the order of sentences, which
-- compares costs first.
pub record ListsErrorStates (expected : Bool) (g : Grammar) (a : Automaton) (t : TableData) (text : Text) : Type 0 where
  pub rows : List CatalogueRow
  pub entries : AreEntries expected g a t rows text
  pub rising : IsRising IsRowBefore rows
  pub each : AllByRecursion (λ row. FailsFirst t row.start row.sentence row.state) rows
  pub states : (s : ℕ) → IsRefusedIn t s ↔ ((row : CatalogueRow) × Contains rows row × (row.state ≡ s))

-- Claim: if the words ask for the list of errors and the status is 0, out has exactly the entries of the states in
-- which some sentence is refused by the table of the grammar.
abbrev pub ListsErrorsOfTable : List Text → World → World → ℕ → Type 0
ListsErrorsOfTable words before now status = (order : Order) → order_of words ≡ Ok order → order.job ≡ ListErrors → status ≡ 0 →
    (g : Grammar) × (a : Automaton) × (t : TableData) × GivesTable words before.files order g a t × ((text : Text) × ListsErrorStates order.comment_expected g a t text × Appends before.out now.out text)

-- ---- Messages files.

-- The named file spells this messages file. Each sentence of it is refused at its last token, and no two are refused in
-- one state.
pub record IsSoundFile (files : Option Files) (g : Grammar) (t : TableData) (name : Text) (file : MsgFile) : Type 0 where
  pub bytes : Text
  pub found : IsFound files name (Bytes bytes)
  pub spells : MsgSpells g bytes file
  pub sound : Sound t (sentences_of file)

-- Claim: if the words ask to compile a messages file, the status is 0 only if the file is sound for the table of the
-- grammar. If the grammar is accepted, the file is sound, and no device had a fault, the status is 0, unless memory
-- runs out (status 6).
abbrev pub TakesSoundFiles : List Text → World → World → ℕ → Type 0
TakesSoundFiles words before now status = (order : Order) (name : Text) → order_of words ≡ Ok order → order.job ≡ CompileErrors name →
    (status ≡ 0 → (g : Grammar) × (a : Automaton) × (t : TableData) × GivesTable words before.files order g a t × ((file : MsgFile) × IsSoundFile before.files g t name file))
    × (HasNoDeviceFault before now → (files : Files) → before.files ≡ Some files → (g : Grammar) (a : Automaton) (t : TableData) (file : MsgFile) → IsAccepted words (Some files) order g a t → IsSoundFile (Some files) g t name file → (status ≡ 0) ⊎ (status ≡ 6))

-- ---- Messages for refused lines.

-- If the line is a sentence that is refused in a state for which the file has a message, the answer is `REJECT` and
-- this message; or trees are shown and a tree or a stack is too deep.
abbrev pub HasMessage : Order → Grammar → TableData → MsgFile → Text → Text → Type 0
HasMessage order g t file line answer = (s : Sentence) (at state : ℕ) (message : Text) → sentence_in (vocabulary_of g) line ≡ IsSentence s → VerdictOf t s.start s.tokens (Rejected at state) → IsMessage t file state message →
    (answer ≡ codes "REJECT\n" ++ message) ⊎ ((order.show_cst ≡ true) × (answer ≡ codes "TOODEEP\n"))

-- Claim: if the words ask for verdicts with a messages file and the status is 0, this file is sound for the table of
-- the grammar, and out has an answer to each line of the input: to a refused line the message of its state, if the file
-- names the state. (The words cannot ask for expected tokens too.)
abbrev pub GivesMessages : List Text → World → World → ℕ → Type 0
GivesMessages words before now status = (order : Order) (name input : Text) → order_of words ≡ Ok order → order.job ≡ Interpret → order.messages ≡ Some name → order.show_expected ≡ false → before.left ≡ Some input → status ≡ 0 →
    (g : Grammar) × (a : Automaton) × (t : TableData) × (file : MsgFile) × GivesTable words before.files order g a t × IsSoundFile before.files g t name file
    × ((answers : List Text) × AllZip (HasMessage order g t file) (lines_of_input input) answers × Appends before.out now.out (flat_map (λ answer. answer) answers))
