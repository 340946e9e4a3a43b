-- Proves that the line of counts of a sample exists and is unique.
use Rattle.std.proofs.Common.{◌≡◌, ℕ, List, [], ◌∷◌, zero, suc, ◌+◌, ◌<◌, length, refl, sym, ◌∙◌, ap}
use Rattle.std.specs.List.{AllByRecursion}
use Rattle.std.proofs.lemmas.List.Elements.{recursion_from_All}
use Rattle.mh_grammar.proofs.Lists.{recursion-append, zip_unique}
use Rattle.mh_grammar.specs.declared.types.Grammar.{Grammar}
use Rattle.mh_grammar.specs.declared.types.Sentence.{Sentence}
use Rattle.mh_tables_core.specs.Table.{TableData}
use Rattle.mh_tables_core.specs.Run.{VerdictOf, Ending, initial}
use Rattle.mh_tables_core.specs.Halting.{HaltingFacts}
use Rattle.mh_tables_core.proofs.RunEnds.{ending_unique, has_verdict}
use Rattle.mh_grammar.specs.Plain.{plain_of}
use Rattle.mh_msgfile.specs.Sentences.{vocabulary_of, LineResult, IsSentence, IsUnreadable, NamesNoStart, LacksStart, NamesUnknown, sentence_in}
use Rattle.mh_msgfile.proofs.SentenceBounds.{sentence_below, start_known}
use Rattle.mh_grammar.specs.Text.{Text}
use Rattle.mh_sample.specs.Texts.{each_from, operators_of, sentence_text}
use Rattle.mh_sample.specs.Counts.{HaveEndings, sample_sentences, sentences_of, sentences_at, counts_line, IsSampleLine}

module _ (t : TableData) where
  same_endings : (ss : List Sentence) (xs ys : List Ending) → HaveEndings t ss xs → HaveEndings t ss ys → xs ≡ ys
  same_endings ss xs ys = zip_unique (λ (s : Sentence) (x : Ending). VerdictOf t s.start s.tokens x) (λ s x y. ending_unique t (initial s.start s.tokens) x y) ss xs ys

  pub line_once : (g : Grammar) (number listed : ℕ) (x y : Text) → IsSampleLine g t number listed x → IsSampleLine g t number listed y → x ≡ y
  line_once g number listed x y p q =
      p.2 ∙ ap (λ (es : List Ending). counts_line number (length g.tokens) (length g.productions) (length t.states) listed es) (same_endings (sample_sentences g number) p.0 q.0 p.1 q.1) ∙ sym q.2

  -- The line exists.

  -- The start symbol and the tokens of the sentence are those of the table.
  record Known (s : Sentence) : Type 0 where
    start : s.start < length t.grammar.starts
    tokens : AllByRecursion (λ z. z < t.grammar.tokens) s.tokens

  each_known : (f : ℕ → List Sentence) → ((n : ℕ) → AllByRecursion Known (f n)) → (n k : ℕ) → AllByRecursion Known (each_from f n k)
  unfolding each_from
  each_known f known n zero = tt
  each_known f known n (suc k) = recursion-append Known (f n) (each_from f (n + 1) k) (known n) (each_known f known (n + 1) k)

  module _ (h : HaltingFacts t) (g : Grammar) (same : t.grammar ≡ plain_of g) where
    found_known : (line : Text) (f : LineResult) → sentence_in (vocabulary_of g) line ≡ f → AllByRecursion Known (sentences_of f)
    found_known line (IsSentence s) is =
        (record { start = start_known g t.grammar line s is same; tokens = recursion_from_All (λ z. z < t.grammar.tokens) s.tokens (sentence_below g t.grammar line s s.tokens is same refl) }, tt)
    found_known line IsUnreadable is = tt
    found_known line (NamesNoStart name) is = tt
    found_known line LacksStart is = tt
    found_known line (NamesUnknown name) is = tt

    all_known : (number : ℕ) → AllByRecursion Known (sample_sentences g number)
    unfolding sample_sentences
    all_known number =
        each_known (sentences_at (vocabulary_of g) (operators_of number))
        (λ n. found_known (sentence_text (operators_of number) n) (sentence_in (vocabulary_of g) (sentence_text (operators_of number) n)) refl) 0 3000

    some_endings : (ss : List Sentence) → AllByRecursion Known ss → (es : List Ending) × HaveEndings t ss es
    some_endings [] all = ([], tt)
    some_endings (s ∷ ss) all =
        let here = has_verdict t h s.start s.tokens all.0.start all.0.tokens in
        let more = some_endings ss all.1 in (here.0 ∷ more.0, (here.1, more.1))

    pub some_line : (number listed : ℕ) → (text : Text) × IsSampleLine g t number listed text
    some_line number listed =
        let es = some_endings (sample_sentences g number) (all_known number) in
        (counts_line number (length g.tokens) (length g.productions) (length t.states) listed es.0, (es.0, es.1, refl))
