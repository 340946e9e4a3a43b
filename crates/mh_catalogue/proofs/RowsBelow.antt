-- Proves that the rows that are added state by state are the catalogue.
use Rattle.std.proofs.Common.{◌≡◌, ℕ, ◌+◌, ◌<◌, ◌≤◌, inl, inr, List, [], ◌∷◌, ◌++◌, length, Some, None, refl, ap, sym, ◌∙◌, subst, arith}
use Rattle.std.specs.Prelude.{min, Ok, Err, Vec}
use Rattle.std.specs.declared.alloc.Global.{Global}
use Rattle.std.proofs.lemmas.Grind.{common_steps}
use Rattle.std.specs.List.{AllByRecursion}
use Rattle.std.proofs.lemmas.List.Elements.{All-get_or, Contains-push, Contains-append_left}
use Rattle.mh_grammar.proofs.Lists.{recursion_contains, recursion-push, recursion-weaker, rising-push, below_next}
use Rattle.mh_grammar.specs.Costs.{IsCost}
use Rattle.mh_tables_core.specs.Table.{TableData, cost_of_token}
use Rattle.mh_tables_core.specs.Failing.{CatalogueRow, IsRowBefore, FailsFirst, FailsWithinMaxCost, Failing, TooLongAt, Catalogue, SentenceAtMost, cost_of_word, max_sentence_cost}
use Rattle.mh_tables_core.specs.Facts.{Facts}
use Rattle.mh_facts.specs.Costs.{cap}
use Rattle.mh_facts.proofs.Complete.{failing_is_refused}
use Rattle.mh_facts.proofs.Sound.{reaches_known}
use Rattle.mh_reach.specs.Reaching.{LeastCost}
use Rattle.mh_catalogue.specs.declared.rows.CatalogueFault.{CatalogueFault}
use Rattle.mh_catalogue.specs.declared.rows.CatalogueFault.TheVariants.{TooLong}
use Rattle.mh_catalogue.specs.declared.rows.Row.{Row}
use Rattle.mh_catalogue.specs.Rows.{row_of, rows_of, IsCatalogueResult}
use Rattle.mh_catalogue.specs.code.RowsBelow.{RowsBelow}

pub rows_push : (rows : List Row) (r : Row) → rows_of (rows ++ r ∷ []) ≡ rows_of rows ++ row_of r ∷ []
rows_push [] r = refl
rows_push (x ∷ rows) r = ap (λ (l : List CatalogueRow). row_of x ∷ l) (rows_push rows r)

pub RowsBelow-start : (t : TableData) → RowsBelow t 0 []
RowsBelow-start t = record { rising = tt; each = tt; below = tt; are_short = tt; complete = λ s lt h. absurd (let l : ⊥ = omega (arith, lt) in l); failing_are_cheap = λ s lt h. absurd (let l : ⊥ = omega (arith, lt) in l) }

-- Costs.

token_costs : (t : TableData) (f : Facts t) (z : ℕ) → z < t.grammar.tokens → 1 ≤ cost_of_token t z
unfolding cost_of_token
token_costs t f z lt = let long = f.ranges.each_cost in (All-get_or (λ (n : ℕ). IsCost n) t.costs z 0 (omega arith) f.ranges.costs).0

-- A word costs at least as much as it has tokens.
word_costs : (t : TableData) (f : Facts t) (w : List ℕ) → AllByRecursion (λ z. z < t.grammar.tokens) w → length w ≤ cost_of_word t w
word_costs t f [] known = omega arith
word_costs t f (z ∷ w) known = let one = token_costs t f z known.0 in let rest = word_costs t f w known.1 in omega arith

-- A sentence that comes earlier costs no more.
order_cheaper : (t : TableData) (start : ℕ) (w : List ℕ) (start' : ℕ) (w' : List ℕ) → SentenceAtMost t start w start' w' → cost_of_word t w ≤ cost_of_word t w'
order_cheaper t start w start' w' (inl lt) = omega (arith, lt)
order_cheaper t start w start' w' (inr (e, rest)) = omega (arith, e)

-- If some sentence that fails in a state costs at most the limit, the first such sentence has at most as many tokens as
-- the limit says.
first_short : (t : TableData) (f : Facts t) (start : ℕ) (w : List ℕ) (s : ℕ) → FailsFirst t start w s → FailsWithinMaxCost t s → length w ≤ max_sentence_cost
first_short t f start w s first cheap =
    let long = word_costs t f w first.fails.sentence.tokens in
    let least = order_cheaper t start w cheap.0 cheap.1 (first.first cheap.0 cheap.1 cheap.2) in
    let few = cheap.3 in
    omega arith

pub FailsWithinMaxCost-least : (t : TableData) (s c : ℕ) → LeastCost t s (Some c) → c ≤ max_sentence_cost → FailsWithinMaxCost t s
FailsWithinMaxCost-least t s c least le = ((least.1).0, (least.1).1, (least.1).2, within c (cost_of_word t (least.1).1) (least.1).3 le)
  where
    within : (c n : ℕ) → c ≡ min n cap → c ≤ max_sentence_cost → n ≤ max_sentence_cost
    within c n e le = grind (arith, common_steps, e, le)

-- The rows of all states below n, with the row of the state n if a sentence fails in it, are the rows of all states
-- below n + 1.

module _ (t : TableData) (n : ℕ) (rows : List CatalogueRow) (h : RowsBelow t n rows) where
  pub RowsBelow-skip : LeastCost t n None → RowsBelow t (n + 1) rows
  RowsBelow-skip none = record {
    rising = h.rising;
    each = h.each;
    below = recursion-weaker (λ (row : CatalogueRow). row.state < n) (λ row. row.state < n + 1) (λ row l. omega arith) rows h.below;
    are_short = h.are_short;
    complete = λ s lt fails. elim (below_next s n lt) [ inl less ↦ h.complete s less fails | inr is ↦ absurd (none (rw is at fails)) ];
    failing_are_cheap = λ s lt fails. elim (below_next s n lt) [ inl less ↦ h.failing_are_cheap s less fails | inr is ↦ absurd (none (rw is at fails)) ];
  }

  pub RowsBelow-row : (f : Facts t) (start : ℕ) (w : List ℕ) → FailsFirst t start w n → FailsWithinMaxCost t n → RowsBelow t (n + 1) (rows ++ record { state = n; start = start; sentence = w } ∷ [])
  RowsBelow-row f start w first cheap =
      let r : CatalogueRow = record { state = n; start = start; sentence = w } in
      record {
        rising = rising-push IsRowBefore rows r h.rising (λ x c. recursion_contains (λ (row : CatalogueRow). row.state < n) rows h.below x c);
        each = recursion-push (λ (row : CatalogueRow). FailsFirst t row.start row.sentence row.state) rows r h.each first;
        below = recursion-push (λ (row : CatalogueRow). row.state < n + 1) rows r (recursion-weaker (λ (row : CatalogueRow). row.state < n) (λ row. row.state < n + 1) (λ row l. omega arith) rows h.below) (omega arith);
        are_short = recursion-push (λ (row : CatalogueRow). length row.sentence ≤ max_sentence_cost) rows r h.are_short (first_short t f start w n first cheap);
        complete = λ s lt fails. elim (below_next s n lt) [
          | inl less ↦ (let c = h.complete s less fails in (c.0, Contains-append_left rows (r ∷ []) c.0 c.1, c.2))
          | inr is ↦ (r, Contains-push rows r, sym is)
        ];
        failing_are_cheap = λ s lt fails. elim (below_next s n lt) [ inl less ↦ h.failing_are_cheap s less fails | inr is ↦ rw is cheap ];
      }

  -- The row of the state is appended.
  pub rows_added : (f : Facts t) (old new : List Row) → rows_of old ≡ rows → (r : Row) → r.state ≡ n → FailsFirst t r.start r.sentence n → FailsWithinMaxCost t n → new ≡ old ++ r ∷ [] → RowsBelow t (n + 1) (rows_of new)
  rows_added f old new are r at first cheap is =
      let same : rows_of new ≡ rows ++ record { state = n; start = r.start; sentence = r.sentence } ∷ [] =
      ap rows_of is ∙ rows_push old r ∙ ap (λ (l : List CatalogueRow). l ++ row_of r ∷ []) are ∙ ap (λ (s : ℕ). rows ++ record { state = s; start = r.start; sentence = r.sentence } ∷ []) at in
      subst (RowsBelow t (n + 1)) (sym same) (RowsBelow-row f r.start r.sentence first cheap)

  pub too_long : (c : ℕ) → LeastCost t n (Some c) → max_sentence_cost < c → TooLongAt t n
  too_long c least dear = record {
    failing = ((least.1).0, (least.1).1, (least.1).2);
    all_too_long = λ start w fails. (let le = least.0 start w fails in over c (cost_of_word t w) le dear);
    lowest = λ s lt fails. h.failing_are_cheap s lt fails;
  }
    where
      over : (c n : ℕ) → c ≤ min n cap → max_sentence_cost < c → max_sentence_cost < n
      over c n le lt = grind (arith, common_steps, le, lt)

-- The rows of all states are the catalogue, and no state has only sentences that are too long.

module _ (t : TableData) (f : Facts t) (rows : List CatalogueRow) (h : RowsBelow t (length t.states) rows) where
  -- Each state in which a sentence fails is a state of the table.
  known : (s : ℕ) → Failing t s → s < length t.states
  known s fails = let r = failing_is_refused t f fails.0 fails.1 s fails.2 in (reaches_known t f fails.0 s r.last r.before r.start r.reaches).state

  pub is_catalogue : Catalogue t rows
  is_catalogue = record { rising = h.rising; each = h.each; complete = λ s fails. h.complete s (known s fails) fails }

  pub not_too_long : (s : ℕ) → TooLongAt t s → ⊥
  not_too_long s long =
      let cheap = h.failing_are_cheap s (known s long.failing) long.failing in
      let dear = long.all_too_long cheap.0 cheap.1 cheap.2 in
      let le = cheap.3 in
      omega arith

-- The rows of all states are a result, and so is the fault of a state whose sentences are too long.
module _ (t : TableData) where
  pub made : Facts t → (n : ℕ) → n ≡ length t.states → (rows : Vec Row Global) → RowsBelow t n (rows_of rows.items) → IsCatalogueResult t (Ok rows)
  made f n all rows below =
      let h : RowsBelow t (length t.states) (rows_of rows.items) = subst (λ (m : ℕ). RowsBelow t m (rows_of rows.items)) all below in
      record { ok = is_catalogue t f (rows_of rows.items) h; short = h.are_short; none_too_long = not_too_long t f (rows_of rows.items) h; too_long = λ s e. absurd (cc) }

  pub not_made : (fault : CatalogueFault) → ((s : ℕ) → fault ≡ TooLong s → TooLongAt t s) → IsCatalogueResult t (Err fault)
  not_made fault long = record { ok = tt; short = tt; none_too_long = tt; too_long = λ s e. long s cc }
