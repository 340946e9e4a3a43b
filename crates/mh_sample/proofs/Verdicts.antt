-- Lemmas on the verdicts of sentences that are run one after another.
use Rattle.std.proofs.Common.{◌≡◌, ℕ, ◌+◌, List, [], ◌∷◌, ◌++◌, map, sym, ◌∙◌, ap, subst, arith}
use Rattle.std.proofs.lemmas.Slice.Zip.{all_zipped_more}
use Rattle.std.proofs.lemmas.List.{map-append}
use Rattle.mh_grammar.specs.declared.types.Sentence.{Sentence}
use Rattle.mh_tables_core.specs.Table.{TableData}
use Rattle.mh_tables_core.specs.Run.{VerdictOf, Ending}
use Rattle.mh_run.specs.Verdicts.{ending_for}
use Rattle.mh_run.specs.declared.outcome.Verdict.{Verdict}
use Rattle.mh_grammar.specs.declared.types.Grammar.{Grammar}
use Rattle.mh_msgfile.specs.Sentences.{Vocabulary, vocabulary_of}
use Rattle.mh_sample.specs.Texts.{each_from, operators_of}
use Rattle.mh_sample.specs.Counts.{HaveEndings, sentences_at, sample_sentences}
use Rattle.mh_sample.proofs.TextsInParts.{each_more}

module _ (t : TableData) where
  -- If one more verdict is that of the next sentence, the verdicts are those of one sentence more.
  pub endings_more : (done : List Sentence) (s : Sentence) (ts : List ℕ) (old new : List Verdict) (v : Verdict) → ts ≡ s.tokens → new ≡ old ++ v ∷ [] → VerdictOf t s.start ts (ending_for v)
      → HaveEndings t done (map ending_for old) → HaveEndings t (done ++ s ∷ []) (map ending_for new)
  endings_more done s ts old new v tokens is verdict so_far =
      let same : map ending_for old ++ ending_for v ∷ [] ≡ map ending_for new = sym (ap (map ending_for) is ∙ map-append ending_for old (v ∷ [])) in
      let here : VerdictOf t s.start s.tokens (ending_for v) = subst (λ (l : List ℕ). VerdictOf t s.start l (ending_for v)) tokens verdict in
      subst (HaveEndings t (done ++ s ∷ [])) same (all_zipped_more (λ (x : Sentence) (how : Ending). VerdictOf t x.start x.tokens how) done (map ending_for old) s (ending_for v) so_far here)

  -- The empty list of verdicts is that of no sentences.
  pub endings_none : (f : ℕ → List Sentence) (vs : List Verdict) → vs ≡ [] → HaveEndings t (each_from f 0 0) (map ending_for vs)
  unfolding each_from
  endings_none f vs is = subst (λ (l : List Verdict). HaveEndings t [] (map ending_for l)) (sym is) tt

  -- If `old` has the verdicts on the sentences of all numbers below k, then `new`, which adds the verdicts on the
  -- sentences f k, has the verdicts on the sentences of all numbers below k + 1.
  pub endings_push : (f : ℕ → List Sentence) (k : ℕ) (old new : List Verdict) → ((done : List Sentence) → HaveEndings t done (map ending_for old) → HaveEndings t (done ++ f k) (map ending_for new))
      → HaveEndings t (each_from f 0 k) (map ending_for old) → HaveEndings t (each_from f 0 (k + 1)) (map ending_for new)
  endings_push f k old new adds so_far =
      let place : 0 + k ≡ k = omega arith in
      let same : each_from f 0 k ++ f k ≡ each_from f 0 (k + 1) = sym (each_more f 0 k ∙ ap (λ (n : ℕ). each_from f 0 k ++ f n) place) in
      subst (λ (l : List Sentence). HaveEndings t l (map ending_for new)) same (adds (each_from f 0 k) so_far)

  -- If the verdicts are those of the sentences of the first 3,000 numbers, they are those of all sentences of the
  -- sample.
  pub endings_all : (g : Grammar) (number k count : ℕ) (v : Vocabulary) (vs : List Ending) → v ≡ vocabulary_of g → k ≡ operators_of number → count ≡ 3000 → HaveEndings t (each_from (sentences_at v k) 0 count) vs
      → HaveEndings t (sample_sentences g number) vs
  unfolding sample_sentences
  endings_all g number k count v vs words operators sentences all =
      subst (λ (n : ℕ). HaveEndings t (each_from (sentences_at (vocabulary_of g) n) 0 3000) vs) operators
      (subst (λ (u : Vocabulary). HaveEndings t (each_from (sentences_at u k) 0 3000) vs) words (subst (λ (n : ℕ). HaveEndings t (each_from (sentences_at v k) 0 n) vs) sentences all))
