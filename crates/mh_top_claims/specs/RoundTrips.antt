-- The claims on texts that the program writes for a grammar: each is read again as what was written. They are true of
-- every grammar that words and files give (messages files: Menhir manual; sound and complete files: Pottier 2016; the
-- round trips are this project's own).
use Rattle.std.specs.Prelude.{◌≡◌, ◌<◌, ◌++◌, ℕ, Bool, List, length}
use Rattle.std.specs.List.{AllByRecursion, Contains}
use Rattle.mh_grammar.specs.Text.{Text}
use Rattle.mh_grammar.specs.declared.types.Grammar.{Grammar}
use Rattle.mh_tables_core.specs.Failing.{Failing}
use Rattle.mh_tables_core.specs.Table.{TableData}
use Rattle.mh_tabfile_form.specs.Form.{IsFileOf}
use Rattle.mh_tabfile_form.specs.TableContent.{raw_of}
use Rattle.mh_msgfile.specs.FileTexts.{HasNoCr, HaveSameContent, file_text, sentence_text}
use Rattle.mh_msgfile.specs.FreeSpacing.{IsLineOf}
use Rattle.mh_msgfile.specs.LooseFiles.{LooseSpells}
use Rattle.mh_msgfile.specs.Messages.{MsgSpells}
use Rattle.mh_msgfile.specs.Sentences.{IsSentence, sentence_in, vocabulary_of}
use Rattle.mh_msgfile.specs.declared.loose.LooseFile.{LooseFile}
use Rattle.mh_msgfile.specs.declared.messages.MsgFile.{MsgFile}
use Rattle.mh_msgfile.specs.declared.messages.MsgSentence.{MsgSentence}
use Rattle.mh_check.specs.Checks.{FailsIn, Sound, sentences_of}
use Rattle.mh_report.specs.CatalogueTexts.{IsCatalogueText}
use Rattle.mh_update.specs.NoLineEnds.{HasNoCrAtEnds}
use Rattle.mh_update.specs.Updates.{IsUpdated}
use Rattle.mh_rebase.specs.RebasedText.{IsRebased, kept_entries_text}
use Rattle.mh_rebase.specs.ReadAgain.{HasNoCr as HasNoCrInEntries}
use Rattle.mh_top_load.specs.GrammarNames.{HasFileNames}
use Rattle.mh_top_plans.specs.Plan.{table_file_text}
use Rattle.mh_top_drive.specs.Shapes.{Prepared}

-- The text spells a messages file in which each sentence fails at its last token, no two fail in one state, and each
-- state in which some sentence fails has a sentence.
pub record IsCompleteMessagesFile (g : Grammar) (t : TableData) (text : Text) : Type 0 where
  pub file : MsgFile
  pub spells : MsgSpells g text file
  pub sound : Sound t (sentences_of file)
  pub complete : (s : ℕ) → Failing t s → (x : MsgSentence) × Contains (sentences_of file) x × FailsIn t x s

-- Each text that the program writes for this grammar and its table is read again, with the expected tokens in comment
-- lines or without.
pub record HasRoundTrips (p : Prepared) : Type 0 where
  pub names : HasFileNames p.grammar
  -- The canonical line of a sentence, and each line of its names with other blanks, is read as this sentence.
  pub sentence : (start : ℕ) (tokens : List ℕ) → start < length p.grammar.starts → AllByRecursion (λ z. z < length p.grammar.tokens) tokens → sentence_in (vocabulary_of p.grammar) (sentence_text p.grammar start tokens) ≡ IsSentence (record { start = start; tokens = tokens })
  pub spaced : (start : ℕ) (tokens : List ℕ) (line : Text) → start < length p.grammar.starts → AllByRecursion (λ z. z < length p.grammar.tokens) tokens → IsLineOf p.grammar start tokens line → sentence_in (vocabulary_of p.grammar) line ≡ IsSentence (record { start = start; tokens = tokens })
  -- A messages file that is printed has the same content, if no line of a message ends in a CR.
  pub printed : (bytes : Text) (file : MsgFile) → MsgSpells p.grammar bytes file → HasNoCr file → (again : MsgFile) × MsgSpells p.grammar (file_text p.grammar file) again × HaveSameContent file again
  -- The list of errors is a messages file that is sound and complete.
  pub list : (expected : Bool) (text : Text) → IsCatalogueText expected p.grammar p.tabled.automaton p.tabled.halting text → IsCompleteMessagesFile p.grammar p.tabled.halting text
  -- A messages file that was brought up to date has the same content, and a second update changes no byte, if no line
  -- of the file ends in a CR.
  pub updated : (expected : Bool) (bytes text : Text) (file : MsgFile) → MsgSpells p.grammar bytes file → HasNoCrAtEnds file → IsUpdated expected p.grammar p.tabled.automaton p.tabled.halting file text
      → (again : MsgFile) × MsgSpells p.grammar text again × HaveSameContent file again × IsUpdated expected p.grammar p.tabled.automaton p.tabled.halting again text
  -- A messages file that was rebased is rebased once more without a change of its entries, and nothing is dropped, if
  -- no line of a message ends in a CR.
  pub rebased : (expected : Bool) (bytes : Text) (file : LooseFile) (text : Text) → LooseSpells bytes file → HasNoCrInEntries file → (is : IsRebased expected p.grammar p.tabled.automaton p.tabled.halting file text)
      → (loose : LooseFile) × LooseSpells text loose × ((next : Text) → IsRebased expected p.grammar p.tabled.automaton p.tabled.halting loose next → next ≡ kept_entries_text p.grammar is.entries ++ is.new)
  -- The table file that is written has the content that was written.
  pub table : IsFileOf (table_file_text p) (raw_of p.grammar p.tabled.automaton p.tabled.mode p.tabled.halting.states)
