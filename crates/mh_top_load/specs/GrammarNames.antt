-- The names of a grammar that is read from files, so that each text that names its symbols can be read again (words:
-- OCaml manual, lexical conventions; the names of instances are a rule of this project).
use Rattle.std.specs.Prelude.{◌≡◌, ◌≢◌, ℕ, ◌==◌, ◌||◌, Bool, true, []}
use Rattle.std.specs.List.{All, list_all}
use Rattle.mh_grammar.specs.declared.types.Grammar.{Grammar}
use Rattle.mh_grammar.specs.declared.types.NontermInfo.{NontermInfo}
use Rattle.mh_grammar.specs.Text.{Text}
use Rattle.mh_lex_bytes.specs.Bytes.{is_word_byte}
use Rattle.mh_msgfile.specs.FileTexts.{HasReadableNames}

-- A byte of the name of an instance: a byte of a word, `@` before the number of a file, or `(`, `,` or `)` around
-- arguments.
abbrev pub is_instance_byte : ℕ → Bool
is_instance_byte b = is_word_byte b || (b == 64 || (b == 40 || (b == 44 || b == 41)))

-- The name is not empty and has no other bytes; so it has no blank, no end of a line and no colon.
abbrev pub IsInstanceName : Text → Type 0
IsInstanceName name = (name ≢ []) × (list_all is_instance_byte name ≡ true)

-- The names of tokens are words and differ from each other, and so do the names of start symbols. The nonterminals have
-- the names of instances.
pub record HasFileNames (g : Grammar) : Type 0 where
  pub readable : HasReadableNames g
  pub nonterminals : All (λ (n : NontermInfo). IsInstanceName n.name) g.nonterminals
