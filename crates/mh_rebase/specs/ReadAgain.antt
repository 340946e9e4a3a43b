-- The definition of a rebased messages file that is read again: it is sound, since each sentence fails and no two fail
-- in one state; it is complete, since it has a sentence for each state in which some sentence fails (Pottier 2016); and
-- the kept sentences have their old messages.
use Rattle.std.specs.Prelude.{◌≡◌, ℕ, Bool, ◌∷◌, ◌++◌}
use Rattle.std.specs.List.{Contains}
use Rattle.mh_grammar.specs.declared.types.Grammar.{Grammar}
use Rattle.mh_grammar.specs.declared.types.Sentence.{Sentence}
use Rattle.mh_grammar.specs.Text.{Text}
use Rattle.mh_items_kernels.specs.KernelTypes.{Automaton}
use Rattle.mh_tables_core.specs.Table.{TableData}
use Rattle.mh_tables_core.specs.Failing.{Failing}
use Rattle.mh_msgfile.specs.Messages.{MsgSpells}
use Rattle.mh_msgfile.specs.FileTexts.{content_of}
use Rattle.mh_msgfile.specs.declared.loose.LooseEntry.{LooseEntry}
use Rattle.mh_msgfile.specs.declared.loose.LooseFile.{LooseFile}
use Rattle.mh_msgfile.specs.declared.messages.MsgSentence.{MsgSentence}
use Rattle.mh_msgfile.specs.declared.messages.Entry.{Entry}
use Rattle.mh_msgfile.specs.declared.messages.MsgFile.{MsgFile}
use Rattle.mh_check.specs.Checks.{FailsIn, Sound, sentences_of}
use Rattle.mh_rebase.specs.Decisions.{Keep, DecidedLine}
use Rattle.mh_rebase.specs.RebasedText.{DecidedEntry, IsRebased}

-- No line of a message ends in a CR, which would be read as part of the end of the line.
abbrev pub HasNoCr : LooseFile → Type 0
HasNoCr file = (entry : LooseEntry) → Contains file.entries entry → (front rest : Text) → entry.message ≡ front ++ 13 ∷ 10 ∷ rest → ⊥

-- Some entry of the file has this sentence and this message.
pub record HasMessage (file : MsgFile) (x : Sentence) (message : Text) : Type 0 where
  pub entry : Entry
  pub of_file : Contains file.entries entry
  pub sentence : MsgSentence
  pub of_entry : Contains entry.sentences sentence
  pub same : content_of sentence ≡ (x.start, x.tokens)
  pub message_is : entry.message ≡ message

-- The text is the rebased file. It spells a messages file that is sound and complete, and in which each kept sentence
-- has its old message.
pub record IsReadAgain (expected : Bool) (g : Grammar) (a : Automaton) (t : TableData) (file : LooseFile) (text : Text) : Type 0 where
  pub rebased : IsRebased expected g a t file text
  pub again : MsgFile
  pub spells : MsgSpells g text again
  pub sound : Sound t (sentences_of again)
  pub complete : (s : ℕ) → Failing t s → (x : MsgSentence) × Contains (sentences_of again) x × FailsIn t x s
  pub keeps : (e : DecidedEntry) (j : DecidedLine) (x : Sentence) (s : ℕ) (comments : Text) → Contains rebased.entries e → Contains e.sentences j → j.decision ≡ Keep x s comments → HasMessage again x e.message
