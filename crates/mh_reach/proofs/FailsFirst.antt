-- Proves that the sentence that `sentence_of` returns comes first of all sentences that fail in the state.
use Rattle.std.proofs.Common.{◌≡◌, ℕ, zero, suc, ◌<◌, ◌≤◌, inl, inr, List, [], ◌∷◌, ◌++◌, length, Some, ap, sym, arith, slice_index_or}
use Rattle.std.specs.Prelude.{slice_get}
use Rattle.std.proofs.lemmas.Grind.{common_steps}
use Rattle.mh_tables_core.specs.Table.{TableData}
use Rattle.mh_tables_core.specs.Failing.{Fails, FailsFirst, FailsWithinMaxCost, SentenceAtMost, cost_of_word, max_sentence_cost}
use Rattle.mh_facts.specs.Costs.{cap}
use Rattle.mh_reach_words.specs.code.Words.{Words}
use Rattle.mh_reach_words.specs.code.SentenceComparison.{numbers_of}
use Rattle.mh_reach_spots.specs.code.Spots.{IsWordAt}
use Rattle.mh_reach.specs.declared.sentences.FailureCandidate.{FailureCandidate}
use Rattle.mh_reach.specs.code.Candidates.{InOrderOr, IsBestCandidate}

pub index_at : {X : Type 0} (xs : List X) (n : ℕ) (x : X) → n < length xs → x ≡ slice_index_or xs n x → slice_get xs n ≡ Some x
index_at [] n x lt e = absurd (omega arith)
index_at (y ∷ xs) zero x lt e = ap Some (sym e)
index_at (y ∷ xs) (suc n) x lt e = index_at xs n x (omega arith) e

-- Costs are counted only up to a cap. If some failing sentence costs less than the cap, the best sentence does too, and
-- comes before all other failing sentences.
failing_low : (t : TableData) (i : ℕ) (w : List ℕ) (s : ℕ) → ((i' : ℕ) (v : List ℕ) → Fails t i' v s → InOrderOr t i w i' v) → FailsWithinMaxCost t s → cost_of_word t w < cap
failing_low t i w s first cheap = below (first cheap.0 cheap.1 cheap.2)
  where
    low : cost_of_word t cheap.1 ≤ max_sentence_cost
    low = cheap.3

    below : InOrderOr t i w cheap.0 cheap.1 → cost_of_word t w < cap
    below (inl (inl lt)) = let m = low in omega (arith, m, lt)
    below (inl (inr (e, rest))) = let m = low in omega (arith, m, e)
    below (inr (a, b)) = let m = low in omega (arith, m, b)

first_of : (t : TableData) (i : ℕ) (w : List ℕ) (s : ℕ) → ((i' : ℕ) (v : List ℕ) → Fails t i' v s → InOrderOr t i w i' v) → FailsWithinMaxCost t s → (i' : ℕ) (v : List ℕ) → Fails t i' v s → SentenceAtMost t i w i' v
first_of t i w s first cheap i' v fails = elim (first i' v fails) [
  | inl order ↦ order
  | inr dear ↦ absurd (let low = failing_low t i w s first cheap in let ge = dear.0 in omega (arith, low, ge))
]

module _ (t : TableData) (book : Words) (s : ℕ) (b : FailureCandidate) (h : IsBestCandidate t book s b) (cheap : FailsWithinMaxCost t s) where
  -- The sentence that reaches the state has a number.
  pub best_numbered : IsWordAt book b.sentence (numbers_of h.label)
  best_numbered =
      let low = failing_low t h.label.start (h.label.word ++ b.token ∷ []) s h.first cheap in
      let is = h.cost_is in
      let cheaper : b.cost < cap = grind (arith, common_steps, is, low) in
      h.numbered cheaper

  pub best_first : (start : ℕ) (w : List ℕ) → start ≡ h.label.start → w ≡ h.label.word ++ b.token ∷ [] → FailsFirst t start w s
  best_first start w from is = rw (from, is) (record {
    fails = h.fails;
    first = first_of t h.label.start (h.label.word ++ b.token ∷ []) s h.first cheap;
  })
