-- Proves, as a double negation, that a table has a catalogue of the states in which sentences fail.
use Rattle.std.proofs.Common.{◌≡◌, ℕ, zero, suc, ◌+◌, ◌-◌, ◌<◌, ◌≤◌, inl, inr, List, [], ◌∷◌, length, sym, subst, arith}
use Rattle.std.specs.List.{AllByRecursion, Contains}
use Rattle.std.proofs.lemmas.Bool.{cases_eq}
use Rattle.mh_grammar.specs.Edges.{IsRising}
use Rattle.mh_grammar.proofs.Lists.{contains_here, contains_there, recursion-weaker}
use Rattle.mh_grammar.specs.NotLacking.{NotLacking}
use Rattle.mh_grammar.proofs.NotLacking.{given, chain, decided}
use Rattle.mh_tables_core.specs.Table.{TableData}
use Rattle.mh_tables_core.specs.Facts.{Facts}
use Rattle.mh_tables_core.specs.Failing.{Fails, Failing, FailsFirst, CatalogueRow, IsRowBefore, Catalogue}
use Rattle.mh_tables_core.proofs.RefusingState.{refusing_state_known}
use Rattle.mh_top_outcomes.proofs.FirstSentence.{some_first}

module _ (t : TableData) (f : Facts t) where
  first_sentence : (s : ℕ) → Failing t s → NotLacking ((start : ℕ) × (w : List ℕ) × FailsFirst t start w s)
  first_sentence s (start, w, fails) =
      chain (some_first t f (λ (i : ℕ) (v : List ℕ). Fails t i v s) (λ i v h. h.sentence.tokens) start w fails)
      (λ x. given (x.start, x.tokens, record { fails = x.holds; first = x.first }))

  -- The rows of the states from z on, of which there are n.
  record RowsFrom (z n : ℕ) : Type 0 where
    rows : List CatalogueRow
    rising : IsRising IsRowBefore rows
    later : AllByRecursion (λ row. z ≤ row.state) rows
    each : AllByRecursion (λ row. FailsFirst t row.start row.sentence row.state) rows
    complete : (s : ℕ) → z ≤ s → s < z + n → Failing t s → (row : CatalogueRow) × Contains rows row × (row.state ≡ s)

  abbrev the_row : ℕ → ℕ → List ℕ → CatalogueRow
  the_row s start w = record { state = s; start = start; sentence = w }

  with_row : (z n : ℕ) → RowsFrom (suc z) n → (start : ℕ) (w : List ℕ) → FailsFirst t start w z → RowsFrom z (suc n)
  with_row z n rest start w fails = record {
    rows = the_row z start w ∷ rest.rows;
    rising = (recursion-weaker (λ r. suc z ≤ r.state) (IsRowBefore (the_row z start w)) (λ r l. omega (arith, l)) rest.rows rest.later, rest.rising);
    later = (omega arith, recursion-weaker (λ r. suc z ≤ r.state) (λ r. z ≤ r.state) (λ r l. omega (arith, l)) rest.rows rest.later);
    each = (fails, rest.each);
    complete = λ s le lt failing. elim (cases_eq z s) [
      | inl e ↦ (the_row z start w, contains_here (the_row z start w) rest.rows, e)
      | inr other ↦ (let r = rest.complete s (omega (arith, le, other)) (omega (arith, lt)) failing in (r.0, contains_there (the_row z start w) rest.rows r.0 r.1, r.2))
    ];
  }

  without_row : (z n : ℕ) → RowsFrom (suc z) n → (Failing t z → ⊥) → RowsFrom z (suc n)
  without_row z n rest none = record {
    rows = rest.rows;
    rising = rest.rising;
    later = recursion-weaker (λ r. suc z ≤ r.state) (λ r. z ≤ r.state) (λ r l. omega (arith, l)) rest.rows rest.later;
    each = rest.each;
    complete = λ s le lt failing. elim (cases_eq z s) [
      | inl e ↦ absurd (none (subst (Failing t) (sym e) failing))
      | inr other ↦ rest.complete s (omega (arith, le, other)) (omega (arith, lt)) failing
    ];
  }

  rows_from : (z n : ℕ) → NotLacking (RowsFrom z n)
  rows_from z zero = given (record { rows = []; rising = tt; later = tt; each = tt; complete = λ s le lt failing. absurd (omega (arith, le, lt)) })
  rows_from z (suc n) = chain (rows_from (suc z) n) (λ rest. chain (decided (Failing t z)) (λ d. elim d [
    | inl failing ↦ chain (first_sentence z failing) (λ x. given (with_row z n rest x.0 x.1 x.2))
    | inr none ↦ given (without_row z n rest none)
  ]))

  state_known : (s : ℕ) → Failing t s → s < length t.states
  state_known s (start, w, fails) = refusing_state_known t f start w (length w - 1) s fails.sentence.known fails.verdict

  pub some_catalogue : NotLacking ((rows : List CatalogueRow) × Catalogue t rows)
  some_catalogue = chain (rows_from 0 (length t.states)) (λ r. given (
    r.rows,
    record { rising = r.rising; each = r.each; complete = λ s failing. r.complete s (omega arith) (let l = state_known s failing in omega (arith, l)) failing },
  ))
