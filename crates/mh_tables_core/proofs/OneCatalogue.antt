-- Proves that the order of sentences is total, and that a table has at most one catalogue.
use Rattle.std.proofs.Common.{◌≡◌, ℕ, ◌<◌, ◌⊎◌, inl, inr, List, [], ◌∷◌, refl, sym, subst, arith}
use Rattle.std.specs.List.{AllByRecursion, Contains}
use Rattle.std.proofs.lemmas.Bool.{cases_lt}
use Rattle.mh_grammar.specs.Edges.{IsRising}
use Rattle.mh_grammar.proofs.Lists.{recursion_contains, rising_same}
use Rattle.mh_tables_core.specs.Table.{TableData}
use Rattle.mh_grammar.specs.WordOrder.{LexLe}
use Rattle.mh_tables_core.specs.Failing.{SentenceAtMost, CatalogueRow, IsRowBefore, Failing, FailsFirst, Catalogue, cost_of_word}

-- Lemmas on the lexicographic order of lists of tokens.

pub LexLe-antisym : (u v : List ℕ) → LexLe u v → LexLe v u → u ≡ v
LexLe-antisym [] [] a b = refl
LexLe-antisym [] (y ∷ v) a b = absurd b
LexLe-antisym (x ∷ u) [] a b = absurd a
LexLe-antisym (x ∷ u) (y ∷ v) (inl a) (inl b) = absurd (omega arith)
LexLe-antisym (x ∷ u) (y ∷ v) (inl a) (inr b) = absurd (let e = b.0 in omega arith)
LexLe-antisym (x ∷ u) (y ∷ v) (inr a) (inl b) = absurd (let e = a.0 in omega arith)
LexLe-antisym (x ∷ u) (y ∷ v) (inr a) (inr b) = let tail = LexLe-antisym u v a.1 b.1 in rw (a.0, tail) refl

-- Of two numbers, one is less than the other, or they are equal.
three_ways : (a b : ℕ) → (a < b) ⊎ ((a ≡ b) ⊎ (b < a))
three_ways a b = elim (cases_lt a b) [
  | inl less ↦ inl less
  | inr ge ↦ (elim (cases_lt b a) [ inl more ↦ inr (inr more) | inr le ↦ inr (inl (omega arith)) ])
]

lex_total : (u v : List ℕ) → LexLe u v ⊎ LexLe v u
lex_total [] v = inl tt
lex_total (x ∷ u) [] = inr tt
lex_total (x ∷ u) (y ∷ v) = elim (three_ways x y) [
  | inl less ↦ inl (inl less)
  | inr other ↦ (elim other [
    | inl same ↦ (elim (lex_total u v) [ inl le ↦ inl (inr (same, le)) | inr ge ↦ inr (inr (sym same, ge)) ])
    | inr more ↦ inr (inl more)
  ])
]

-- Lemmas on the order of sentences.

module _ (t : TableData) (start : ℕ) (w : List ℕ) (start' : ℕ) (w' : List ℕ) where
  -- Two sentences that are each before or equal to the other are equal.
  pub order_one : SentenceAtMost t start w start' w' → SentenceAtMost t start' w' start w → (start ≡ start') × (w ≡ w')
  order_one (inl a) (inl b) = absurd (omega (arith, a, b))
  order_one (inl a) (inr b) = absurd (let e = b.0 in omega (arith, a))
  order_one (inr a) (inl b) = absurd (let e = a.0 in omega (arith, b))
  order_one (inr (e, inl a)) (inr (g, inl b)) = absurd (omega (arith, a, b))
  order_one (inr (e, inl a)) (inr (g, inr b)) = absurd (let s = b.0 in omega (arith, a))
  order_one (inr (e, inr a)) (inr (g, inl b)) = absurd (let s = a.0 in omega (arith, b))
  order_one (inr (e, inr a)) (inr (g, inr b)) = (a.0, LexLe-antisym w w' a.1 b.1)

  pub order_total : SentenceAtMost t start w start' w' ⊎ SentenceAtMost t start' w' start w
  order_total = elim (three_ways (cost_of_word t w) (cost_of_word t w')) [
    | inl less ↦ inl (inl less)
    | inr other ↦ (elim other [
      | inl same ↦ (elim (three_ways start start') [
        | inl sooner ↦ inl (inr (same, inl sooner))
        | inr later ↦ (elim later [
          | inl one ↦ (elim (lex_total w w') [ inl le ↦ inl (inr (same, inr (one, le))) | inr ge ↦ inr (inr (sym same, inr (sym one, ge))) ])
          | inr after ↦ inr (inr (sym same, inl after))
        ])
      ])
      | inr more ↦ inr (inl more)
    ])
  ]

-- Lemmas on rows of a catalogue.

-- Two rising lists of rows are equal if they have the same states and the row of a state is unique.
rows_once : (Is : CatalogueRow → Type 0) → ((a b : CatalogueRow) → Is a → Is b → a.state ≡ b.state → a ≡ b) → (InState : ℕ → Type 0) → ((a : CatalogueRow) → Is a → InState a.state) → (xs ys : List CatalogueRow) → IsRising IsRowBefore xs → IsRising IsRowBefore ys → AllByRecursion Is xs → AllByRecursion Is ys
    → ((s : ℕ) → InState s → (row : CatalogueRow) × Contains xs row × (row.state ≡ s)) → ((s : ℕ) → InState s → (row : CatalogueRow) × Contains ys row × (row.state ≡ s)) → xs ≡ ys
rows_once Is one InState fails xs ys rise rise' each each' all all' = rising_same IsRowBefore (λ x y a b. omega (arith, a, b)) xs ys rise rise' (λ x. (to ys each' all' xs each x, to xs each all ys each' x))
  where
    to : (ys : List CatalogueRow) → AllByRecursion Is ys → ((s : ℕ) → InState s → (row : CatalogueRow) × Contains ys row × (row.state ≡ s)) → (xs : List CatalogueRow) → AllByRecursion Is xs → (x : CatalogueRow) → Contains xs x → Contains ys x
    to ys each' all' xs each x there =
        let h = recursion_contains Is xs each x there in
        let other = all' x.state (fails x h) in
        let same : other.0 ≡ x = one other.0 x (recursion_contains Is ys each' other.0 other.1) h other.2 in
        subst (λ (row : CatalogueRow). Contains ys row) same other.1

abbrev row_with : ℕ → ℕ → List ℕ → CatalogueRow
row_with state start sentence = record { state = state; start = start; sentence = sentence }

module _ (t : TableData) where
  pub first_once : (start : ℕ) (w : List ℕ) (start' : ℕ) (w' : List ℕ) (s : ℕ) → FailsFirst t start w s → FailsFirst t start' w' s → (start ≡ start') × (w ≡ w')
  first_once start w start' w' s a b = order_one t start w start' w' (a.first start' w' b.fails) (b.first start w a.fails)

  row_once : (a b : CatalogueRow) → FailsFirst t a.start a.sentence a.state → FailsFirst t b.start b.sentence b.state → a.state ≡ b.state → a ≡ b
  row_once a b first other state =
      let same = first_once a.start a.sentence b.start b.sentence a.state first (subst (λ (s : ℕ). FailsFirst t b.start b.sentence s) (sym state) other) in
      let start = same.0 in
      let sentence = same.1 in
      let with : row_with a.state a.start a.sentence ≡ row_with b.state b.start b.sentence = cc in
      with

  pub catalogue_once : (xs ys : List CatalogueRow) → Catalogue t xs → Catalogue t ys → xs ≡ ys
  catalogue_once xs ys a b = rows_once (λ row. FailsFirst t row.start row.sentence row.state) row_once (Failing t) (λ row first. (row.start, row.sentence, first.fails)) xs ys a.rising b.rising a.each b.each a.complete b.complete
