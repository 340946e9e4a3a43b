-- Lemmas on the loop over the tokens that finds the first sentence that comes to a state.
use Rattle.std.proofs.Common.{◌≡◌, ◌∙◌, ◌<◌, ◌≤◌, ◌+◌, ◌⊎◌, ℕ, inl, inr, List, [], ◌∷◌, Some, None, ap, sym, subst, arith, ◌++◌}
use Rattle.std.specs.Prelude.{min}
use Rattle.std.proofs.lemmas.Grind.{common_steps}
use Rattle.mh_grammar.specs.declared.types.Look.{Look}
use Rattle.mh_grammar.specs.declared.types.Sentence.{Sentence}
use Rattle.mh_grammar.specs.WordOrder.{LexLe}
use Rattle.mh_grammar.proofs.Lists.{below_next, contains_last, recursion_contains}
use Rattle.mh_grammar.proofs.WordOrder.{lex_trans}
use Rattle.mh_tables_core.specs.Table.{TableData}
use Rattle.mh_tables_core.specs.Failing.{SentenceAtMost, cost_of_word, max_sentence_cost}
use Rattle.mh_tables_core.proofs.OneCatalogue.{order_one}
use Rattle.mh_reach.specs.Coming.{Comes, FirstComing, ComesWithinMaxCost}
use Rattle.mh_facts.specs.Costs.{cap}
use Rattle.mh_reach.specs.Reaching.{LeastCostTo}
use Rattle.mh_explain.specs.declared.first_sentence.FoundSentence.{FoundSentence}
use Rattle.mh_explain.specs.declared.first_sentence.FoundSentence.TheVariants.{NoSentence, TooLong, First}
use Rattle.mh_explain.specs.FirstSentences.{ComesWith, IsFoundOn, IsFoundWith, IsShownWith}
use Rattle.mh_explain.specs.code.Searched.{IsCostlier, IsNoSooner, IsShownBelow, IsSooner, TakesSooner, numbers_of, with_too_long}

-- The order of sentences is transitive.
order_trans : (t : TableData) (i : ℕ) (u : List ℕ) (j : ℕ) (v : List ℕ) (k : ℕ) (w : List ℕ) → SentenceAtMost t i u j v → SentenceAtMost t j v k w → SentenceAtMost t i u k w
order_trans t i u j v k w (inl a) (inl b) = inl (omega (arith, a, b))
order_trans t i u j v k w (inl a) (inr b) = let e = b.0 in inl (omega (arith, a, e))
order_trans t i u j v k w (inr a) (inl b) = let e = a.0 in inl (omega (arith, b, e))
order_trans t i u j v k w (inr (e, inl a)) (inr (g, inl b)) = inr (e ∙ g, inl (omega (arith, a, b)))
order_trans t i u j v k w (inr (e, inl a)) (inr (g, inr b)) = let same = b.0 in inr (e ∙ g, inl (omega (arith, a, same)))
order_trans t i u j v k w (inr (e, inr a)) (inr (g, inl b)) = let same = a.0 in inr (e ∙ g, inl (omega (arith, b, same)))
order_trans t i u j v k w (inr (e, inr a)) (inr (g, inr b)) = inr (e ∙ g, inr (a.0 ∙ b.0, lex_trans u v w a.1 b.1))

-- If the same sentences come to the state with a next token in P as with a next token in Q, the search for P and the
-- search for Q have the same result.
module _ (t : TableData) (s : ℕ) (P Q : ℕ → Type 0) (to : (i : ℕ) (w : List ℕ) (z : ℕ) → ComesWith t s P i w z → ComesWith t s Q i w z) (back : (i : ℕ) (w : List ℕ) (z : ℕ) → ComesWith t s Q i w z → ComesWith t s P i w z) where
  pub same_found : (f : FoundSentence) → IsFoundWith t s P f → IsFoundWith t s Q f
  same_found NoSentence h = λ i w z c. h i w z (back i w z c)
  same_found TooLong h = record { some = (h.some.0, h.some.1, h.some.2, to h.some.0 h.some.1 h.some.2 h.some.3); all_too_long = λ i w z c. h.all_too_long i w z (back i w z c) }
  same_found (First c x z) h = (
    record {
      comes = to x.start x.tokens z h.0.comes;
      first = λ i w y c. h.0.first i w y (back i w y c);
      lowest = λ y c. h.0.lowest y (back x.start x.tokens y c);
    },
    h.1,
    h.2,
  )

pub found_none : (t : TableData) (s : ℕ) (look : Look) → IsFoundWith t s (IsShownBelow t s look 0) NoSentence
found_none t s look i w z c = let l = c.shown.below in omega (arith, l)

-- All tokens of the table were tried.
pub found_all : (t : TableData) (s : ℕ) (look : Look) (n : ℕ) (f : FoundSentence) → n ≡ t.grammar.tokens → IsFoundWith t s (IsShownBelow t s look n) f → IsFoundOn t s look f
found_all t s look n f e h = same_found t s (IsShownBelow t s look n) (IsShownWith t s look)
    (λ i w z c. record { comes = c.comes; shown = c.shown.shown })
    (λ i w z c. record { comes = c.comes; shown = record { below = (let l = recursion_contains (λ y. y < t.grammar.tokens) (w ++ z ∷ []) c.comes.sentence.tokens z (contains_last w z) in omega (arith, l, e)); shown = c.shown } })
    f h

module _ (t : TableData) (s : ℕ) (look : Look) (n : ℕ) where
  abbrev Below : ℕ → Type 0
  Below = IsShownBelow t s look n

  abbrev Next : ℕ → Type 0
  Next = IsShownBelow t s look (n + 1)

  still : (i : ℕ) (w : List ℕ) (z : ℕ) → ComesWith t s Below i w z → ComesWith t s Next i w z
  still i w z c = record { comes = c.comes; shown = record { below = (let l = c.shown.below in omega (arith, l)); shown = c.shown.shown } }

  -- A sentence that comes with a next token below n + 1 comes with a next token below n, or with the next token n.
  split : (i : ℕ) (w : List ℕ) (z : ℕ) → ComesWith t s Next i w z → ComesWith t s Below i w z ⊎ ((z ≡ n) × IsShownWith t s look n × Comes t i w s n)
  split i w z c = elim (below_next z n c.shown.below) [
    | inl l ↦ inl (record { comes = c.comes; shown = record { below = l; shown = c.shown.shown } })
    | inr e ↦ inr (e, subst (IsShownWith t s look) e c.shown.shown, subst (λ (y : ℕ). Comes t i w s y) e c.comes)
  ]

  -- If no sentence comes with the next token n, the result of the search stays.
  none_with : ((i : ℕ) (w : List ℕ) → IsShownWith t s look n → Comes t i w s n → ⊥) → (f : FoundSentence) → IsFoundWith t s Below f → IsFoundWith t s Next f
  none_with none = same_found t s Below Next still (λ i w z c. elim (split i w z c) [ inl l ↦ l | inr r ↦ absurd (none i w r.1 r.2) ])

  pub none_shown : (IsShownWith t s look n → ⊥) → (f : FoundSentence) → IsFoundWith t s Below f → IsFoundWith t s Next f
  none_shown not = none_with (λ i w shown c. not shown)

  pub none_comes : LeastCostTo t s n None → (f : FoundSentence) → IsFoundWith t s Below f → IsFoundWith t s Next f
  none_comes none = none_with (λ i w shown c. none i w c)

  -- If no sentence with the next token n comes before the best sentence so far, the best sentence stays.
  first_stays : (c : ℕ) (x : Sentence) (z : ℕ) → ((i : ℕ) (w : List ℕ) → Comes t i w s n → SentenceAtMost t x.start x.tokens i w) → IsFoundWith t s Below (First c x z) → IsFoundWith t s Next (First c x z)
  first_stays c x z later h = (
    record {
      comes = still x.start x.tokens z h.0.comes;
      first = λ i w y d. elim (split i w y d) [ inl l ↦ h.0.first i w y l | inr r ↦ later i w r.2 ];
      lowest = λ y d. elim (split x.start x.tokens y d) [ inl l ↦ h.0.lowest y l | inr r ↦ (let e = r.0 in let l = h.0.comes.shown.below in omega (arith, e, l)) ];
    },
    h.1,
    h.2,
  )

  capped : (c k : ℕ) → c ≤ min k cap → c ≤ k
  capped c k le = grind (arith, common_steps, le)

  -- Each sentence with the token n costs at least the least cost.
  costs_least : (c : ℕ) → LeastCostTo t s n (Some c) → (i : ℕ) (w : List ℕ) → Comes t i w s n → c ≤ cost_of_word t w
  costs_least c least i w comes = capped c (cost_of_word t w) (least.0 i w comes)

  pub too_long : (shown : IsShownWith t s look n) (c : ℕ) → LeastCostTo t s n (Some c) → max_sentence_cost < c → (f : FoundSentence) → IsFoundWith t s Below f → IsFoundWith t s Next (with_too_long f)
  too_long shown c least dear NoSentence h =
      let o = least.1 in record {
        some = (o.0, o.1, n, record { comes = o.2; shown = record { below = omega arith; shown = shown } });
        all_too_long = λ i w z d. elim (split i w z d) [ inl l ↦ absurd (h i w z l) | inr r ↦ (let le = costs_least c least i w r.2 in omega (arith, le, dear)) ];
      }
  too_long shown c least dear TooLong h = record {
    some = (h.some.0, h.some.1, h.some.2, still h.some.0 h.some.1 h.some.2 h.some.3);
    all_too_long = λ i w z d. elim (split i w z d) [ inl l ↦ h.all_too_long i w z l | inr r ↦ (let le = costs_least c least i w r.2 in omega (arith, le, dear)) ];
  }
  too_long shown c least dear (First d x z) h =
      first_stays d x z (λ i w comes. inl (let le = costs_least c least i w comes in let e = h.1 in let low = h.2 in omega (arith, le, dear, e, low))) h

  pub costlier : (c : ℕ) → LeastCostTo t s n (Some c) → (f : FoundSentence) → IsCostlier c f → IsFoundWith t s Below f → IsFoundWith t s Next f
  costlier c least NoSentence more h = absurd more
  costlier c least TooLong more h = absurd more
  costlier c least (First d x z) more h = first_stays d x z (λ i w comes. inl (let le = costs_least c least i w comes in let e = h.1 in omega (arith, le, more, e))) h

  -- The sentence x is the first that comes with the token n.
  module _ (shown : IsShownWith t s look n) (c : ℕ) (least : LeastCostTo t s n (Some c)) (cheap : c ≤ max_sentence_cost) (x : Sentence) (first : FirstComing t x.start x.tokens s n) where
    no_dearer : (j : ℕ) (v : List ℕ) → SentenceAtMost t x.start x.tokens j v → cost_of_word t x.tokens ≤ cost_of_word t v
    no_dearer j v (inl l) = omega (arith, l)
    no_dearer j v (inr r) = let e = r.0 in omega (arith, e)

    exact : (k : ℕ) → c ≡ min k cap → k ≡ c
    exact k e = grind (arith, common_steps, e, cheap)

    -- The cost of the sentence is the least cost.
    cost_is : c ≡ cost_of_word t x.tokens
    cost_is =
        let o = least.1 in
        let same : cost_of_word t o.1 ≡ c = exact (cost_of_word t o.1) o.3 in
        let low = no_dearer o.0 o.1 (first.first o.0 o.1 o.2) in
        let high = costs_least c least x.start x.tokens first.comes in
        omega (arith, same, low, high)

    here : ComesWith t s Next x.start x.tokens n
    here = record { comes = first.comes; shown = record { below = omega arith; shown = shown } }

    -- If the sentence comes strictly before all sentences with a next token below n, the sentence is the first of those
    -- with a next token below n + 1.
    becomes : ((i : ℕ) (w : List ℕ) (z : ℕ) → ComesWith t s Below i w z → SentenceAtMost t x.start x.tokens i w) → ((z : ℕ) → ComesWith t s Below x.start x.tokens z → ⊥) → IsFoundWith t s Next (First c x n)
    becomes before new = (
      record {
        comes = here;
        first = λ i w z d. elim (split i w z d) [ inl l ↦ before i w z l | inr r ↦ first.first i w r.2 ];
        lowest = λ z d. elim (split x.start x.tokens z d) [ inl l ↦ absurd (new z l) | inr r ↦ (let e = r.0 in omega (arith, e)) ];
      },
      cost_is,
      cheap,
    )

    -- Two sentences of the same cost are in the order of their starts, and then of their tokens.
    by_numbers : (y : Sentence) → cost_of_word t x.tokens ≡ cost_of_word t y.tokens → LexLe (numbers_of x) (numbers_of y) → SentenceAtMost t x.start x.tokens y.start y.tokens
    by_numbers y e le = inr (e, le)

    sooner : (f : FoundSentence) → IsSooner c x f → IsFoundWith t s Below f → IsFoundWith t s Next (First c x n)
    sooner NoSentence is h = becomes (λ i w z l. absurd (h i w z l)) (λ z l. h x.start x.tokens z l)
    sooner TooLong is h =
        becomes (λ i w z l. inl (let dear = h.all_too_long i w z l in let e = cost_is in omega (arith, dear, e, cheap))) (λ z l. (let dear = h.all_too_long x.start x.tokens z l in let e = cost_is in omega (arith, dear, e, cheap)))
    sooner (First d y z) (inl less) h =
        let lower : cost_of_word t x.tokens < cost_of_word t y.tokens = (let e = cost_is in let g = h.1 in omega (arith, less, e, g)) in
        becomes
        (λ i w v l. order_trans t x.start x.tokens y.start y.tokens i w (inl lower) (h.0.first i w v l))
        (λ v l. (let le = order_one t x.start x.tokens y.start y.tokens (inl lower) (h.0.first x.start x.tokens v l) in let same = ap (cost_of_word t) le.1 in omega (arith, same, lower)))
    sooner (First d y z) (inr (same, (lower, differ))) h =
        let costs : cost_of_word t x.tokens ≡ cost_of_word t y.tokens = sym cost_is ∙ same ∙ h.1 in
        let at = by_numbers y costs lower in
        becomes
        (λ i w v l. order_trans t x.start x.tokens y.start y.tokens i w at (h.0.first i w v l))
        (λ v l. (let one = order_one t x.start x.tokens y.start y.tokens at (h.0.first x.start x.tokens v l) in differ (λ i. one.0 i ∷ one.1 i)))

    no_sooner : (f : FoundSentence) → IsNoSooner c x f → IsFoundWith t s Below f → IsFoundWith t s Next f
    no_sooner NoSentence is h = absurd is
    no_sooner TooLong is h = absurd is
    no_sooner (First d y z) (inl less) h = costlier c least (First d y z) less h
    no_sooner (First d y z) (inr (same, le)) h =
        let costs : cost_of_word t y.tokens ≡ cost_of_word t x.tokens = sym h.1 ∙ same ∙ cost_is in
        first_stays d y z (λ i w comes. order_trans t y.start y.tokens x.start x.tokens i w (inr (costs, le)) (first.first i w comes)) h

    pub taken : (old new : FoundSentence) → TakesSooner c x n old new → IsFoundWith t s Below old → IsFoundWith t s Next new
    taken old new (inl (is, before)) h = subst (IsFoundWith t s Next) (sym is) (sooner old before h)
    taken old new (inr (is, after)) h = subst (IsFoundWith t s Next) (sym is) (no_sooner old after h)

  -- Some sentence within the greatest cost comes with the token n.
  pub within : (c : ℕ) → LeastCostTo t s n (Some c) → c ≤ max_sentence_cost → ComesWithinMaxCost t s n
  within c least cheap =
      let o = least.1 in (o.0, o.1, o.2, (let e = o.3 in low (cost_of_word t o.1) e))
    where
      low : (k : ℕ) → c ≡ min k cap → k ≤ max_sentence_cost
      low k e = grind (arith, common_steps, e, cheap)
