-- The messages files with which nothing is wrong: each state in which some sentence fails has exactly one sentence, and
-- each message is written.
use Rattle.std.specs.Prelude.{◌≡◌, ℕ, false}
use Rattle.std.specs.List.{Contains}
use Rattle.mh_grammar.specs.declared.types.Grammar.{Grammar}
use Rattle.mh_grammar.specs.Text.{Text}
use Rattle.mh_tables_core.specs.Table.{TableData}
use Rattle.mh_tables_core.specs.Failing.{Failing}
use Rattle.mh_msgfile.specs.Messages.{MsgSpells}
use Rattle.mh_msgfile.specs.declared.messages.Entry.{Entry}
use Rattle.mh_msgfile.specs.declared.messages.MsgFile.{MsgFile}
use Rattle.mh_msgfile.specs.declared.messages.MsgSentence.{MsgSentence}
use Rattle.mh_check.specs.Checks.{FailsIn, Sound, sentences_of}
use Rattle.mh_rebase.specs.ErrorLines.{is_unwritten}

-- The bytes spell a messages file that `compile` takes, with a sentence for each state in which some sentence fails. No
-- message has the line that `--list-errors` writes in place of a message.
pub record IsFaultless (g : Grammar) (t : TableData) (bytes : Text) : Type 0 where
  pub file : MsgFile
  pub spells : MsgSpells g bytes file
  pub sound : Sound t (sentences_of file)
  pub complete : (s : ℕ) → Failing t s → (x : MsgSentence) × Contains (sentences_of file) x × FailsIn t x s
  pub written : (e : Entry) → Contains file.entries e → is_unwritten e.message ≡ false
