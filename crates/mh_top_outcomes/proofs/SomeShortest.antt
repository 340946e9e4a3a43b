-- Proves, as a double negation, that each symbol that derives a word derives a shortest word, and that a grammar has a
-- text of shortest words.
use Rattle.std.proofs.Common.{◌≡◌, ◌∙◌, ℕ, ◌+◌, inl, inr, List, length, refl, sym, subst, arith}
use Rattle.std.specs.Prelude.{slice_index_or}
use Rattle.std.proofs.lemmas.Bool.{cases_lt}
use Rattle.std.proofs.lemmas.Option.{slice_get_within, get_or_from_slice_get}
use Rattle.mh_grammar.specs.declared.types.Grammar.{Grammar}
use Rattle.mh_grammar.specs.declared.types.Symbol.{Symbol}
use Rattle.mh_grammar.specs.declared.types.Symbol.TheVariants.{N}
use Rattle.mh_grammar.specs.Plain.{PlainGrammar, plain_of, Derives, IsProductive}
use Rattle.mh_grammar.specs.Text.{Text}
use Rattle.mh_grammar.specs.NotLacking.{NotLacking}
use Rattle.mh_grammar.proofs.NotLacking.{given, chain, decided, tabled}
use Rattle.mh_sample.specs.Sentences.{IsShortestText, lines_from}
use Rattle.mh_sample.specs.WordLimit.{max_word}
use Rattle.mh_sample.specs.Shortest.{IsLeast, IsShortest, ShortLex}
use Rattle.mh_sample.specs.declared.word.Shortest.{Shortest}
use Rattle.mh_sample.specs.declared.word.Shortest.TheVariants.{None, Longer, Word}
use Rattle.mh_sample.proofs.ShortLex.{shortlex_length}
use Rattle.mh_top_outcomes.proofs.LeastExample.{Least, least_number, LeastWord, least_word}

module _ (g : PlainGrammar) where
  module _ (X : Symbol) where
    abbrev HasLength : ℕ → Type 0
    HasLength n = (w : List ℕ) × Derives g X w × (length w ≡ n)

    abbrev IsWordOf : ℕ → List ℕ → Type 0
    IsWordOf n w = Derives g X w × (length w ≡ n)

    comes_first : (n : Least HasLength) (u : LeastWord (IsWordOf n.number)) → (v : List ℕ) → Derives g X v → ShortLex u.word v
    comes_first n u v d = elim (cases_lt n.number (length v)) [
      | inl lt ↦ inl (let e = u.holds.1 in omega (arith, e, lt))
      | inr le ↦ (
          let most = n.first (length v) (v, d, refl) in
          let same : length v ≡ n.number = omega (arith, le, most) in
          inr (u.holds.1 ∙ sym same, u.first v (d, same)))
    ]

    of_length : (n : Least HasLength) → (w : List ℕ) → Derives g X w → length w ≡ n.number → NotLacking ((u : List ℕ) × IsLeast g X u)
    of_length n w d e = chain (least_word n.number (IsWordOf n.number) (λ v h. let same = h.1 in omega (arith, same)) w (d, e)) (λ u. given (u.word, record { derived = u.holds.0; first = comes_first n u }))

    pub some_least : (w : List ℕ) → Derives g X w → NotLacking ((u : List ℕ) × IsLeast g X u)
    some_least w d = chain (least_number HasLength (length w) (w, d, refl)) (λ n. of_length n n.holds.0 n.holds.1 n.holds.2)

  sized : (n : ℕ) (u : List ℕ) → IsLeast g (N n) u → (s : Shortest) × IsShortest g n s
  sized n u least = elim (cases_lt max_word (length u)) [
    | inl long ↦ (Longer, ((u, least.derived), λ w d. let le = shortlex_length u w (least.first w d) in omega (arith, long, le)))
    | inr le ↦ (Word u, (least, le))
  ]

  some_answer : (n : ℕ) → NotLacking ((s : Shortest) × IsShortest g n s)
  some_answer n = chain (decided (IsProductive g n)) (λ d. elim d [
    | inl p ↦ chain (some_least (N n) p.0 p.1) (λ u. given (sized n u.0 u.1))
    | inr none ↦ given (None, λ w d. none (w, d))
  ])

pub some_shortest_text : (g : Grammar) → NotLacking ((text : Text) × IsShortestText g text)
some_shortest_text g = chain (tabled None (IsShortest (plain_of g)) 0 (length g.nonterminals) (λ i l. some_answer (plain_of g) (0 + i))) (λ t. given (
  lines_from g 0 t.0,
  record {
    answers = t.0;
    all = t.1;
    each = λ n s at.
        let within = slice_get_within t.0 n s at in
        let len = t.1 in
        let here : IsShortest (plain_of g) n (slice_index_or t.0 n None) = subst (λ (k : ℕ). IsShortest (plain_of g) k (slice_index_or t.0 n None)) (let e : 0 + n ≡ n = omega arith in e) (t.2 n (omega (arith, within, len))) in
        subst (IsShortest (plain_of g) n) (get_or_from_slice_get t.0 n s None at) here;
    is = refl;
  },
))
