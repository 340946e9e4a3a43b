-- The definition of the line that counts how a table parses the sentences of a sample. The line is this project's own.
use Rattle.std.specs.Prelude.{◌≡◌, ℕ, Bool, true, false, List, [], ◌∷◌, ◌++◌, length, count_by, codes, decimal}
use Rattle.std.specs.List.{AllZip}
use Rattle.mh_grammar.specs.declared.types.Grammar.{Grammar}
use Rattle.mh_grammar.specs.declared.types.Sentence.{Sentence}
use Rattle.mh_tables_core.specs.Table.{TableData}
use Rattle.mh_tables_core.specs.Run.{VerdictOf, Ending, Accepted, Overshot, Rejected}
use Rattle.mh_msgfile.specs.Sentences.{Vocabulary, vocabulary_of, LineResult, IsSentence, sentence_in}
use Rattle.mh_sample.specs.SampleSize.{sample_size}
use Rattle.mh_grammar.specs.Text.{Text}
use Rattle.mh_sample.specs.Texts.{each_from, operators_of, sentence_text}

-- The sentences that are run.

-- The sentence of a line, as a list of at most one.
abbrev pub sentences_of : LineResult → List Sentence
sentences_of (IsSentence s) = s ∷ []
sentences_of _ = []

-- The sentence of a sample with this number, as a list of at most one.
abbrev pub sentences_at : Vocabulary → ℕ → ℕ → List Sentence
sentences_at v operators sentence = sentences_of (sentence_in v (sentence_text operators sentence))

-- The sentences of all lines of a sample, in order. A line that is not a sentence of the grammar is left out.
unfoldable pub sample_sentences : Grammar → ℕ → List Sentence
sample_sentences g number = each_from (sentences_at (vocabulary_of g) (operators_of number)) 0 sample_size

-- The endings of the runs on these sentences, one by one.
abbrev pub HaveEndings : TableData → List Sentence → List Ending → Type 0
HaveEndings t sentences endings = AllZip (λ s how. VerdictOf t s.start s.tokens how) sentences endings

-- The line.

-- The run accepts.
abbrev pub is_accepted : Ending → Bool
is_accepted (Accepted read) = true
is_accepted (Overshot state) = false
is_accepted (Rejected at state) = false

-- The run needs a token after the last one.
abbrev pub is_overshot : Ending → Bool
is_overshot (Accepted read) = false
is_overshot (Overshot state) = true
is_overshot (Rejected at state) = false

-- The run refuses a token.
abbrev pub is_rejected : Ending → Bool
is_rejected (Accepted read) = false
is_rejected (Overshot state) = false
is_rejected (Rejected at state) = true

-- The number of the sample and the sizes of its grammar.
unfoldable pub grammar_sizes : ℕ → ℕ → ℕ → Text
grammar_sizes number tokens productions = codes "sample " ++ decimal number ++ codes ": tokens " ++ decimal tokens ++ codes ", productions " ++ decimal productions

-- The sizes of the table and of the catalogue.
unfoldable pub table_sizes : ℕ → ℕ → Text
table_sizes states listed = codes ", states " ++ decimal states ++ codes ", listed " ++ decimal listed

-- How many sentences end in each of the three ways.
unfoldable pub endings_text : List Ending → Text
endings_text endings =
    codes ", accept " ++ decimal (count_by is_accepted endings) ++ codes ", overshoot " ++ decimal (count_by is_overshot endings) ++ codes ", reject " ++ decimal (count_by is_rejected endings)

abbrev pub counts_line : ℕ → ℕ → ℕ → ℕ → ℕ → List Ending → Text
counts_line number tokens productions states listed endings = grammar_sizes number tokens productions ++ table_sizes states listed ++ endings_text endings ++ 10 ∷ []

-- The text is the line of counts for this grammar, this table, a catalogue with `listed` rows, and the endings of all
-- sentences.
abbrev pub IsSampleLine : Grammar → TableData → ℕ → ℕ → Text → Type 0
IsSampleLine g t number listed text =
    (endings : List Ending) × HaveEndings t (sample_sentences g number) endings
    × (text ≡ counts_line number (length g.tokens) (length g.productions) (length t.states) listed endings)
