-- The lexicon with which the code reads the sentences of a sample.
use Rattle.std.specs.Prelude.{◌≡◌}
use Rattle.mh_grammar.specs.declared.types.Grammar.{Grammar}
use Rattle.mh_grammar.specs.Plain.{plain_of}
use Rattle.mh_tables_core.specs.Table.{TableData}
use Rattle.mh_msgfile.specs.Sentences.{vocabulary_of, vocabulary_in}
use Rattle.mh_msgfile.specs.declared.lexicon.Lexicon.{Lexicon}

-- The lexicon has the names of the grammar of this table.
abbrev pub HasNamesOf : Lexicon → TableData → Type 0
HasNamesOf lexicon t = (g : Grammar) × (vocabulary_in lexicon ≡ vocabulary_of g) × (t.grammar ≡ plain_of g)
