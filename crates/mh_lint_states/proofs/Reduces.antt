-- The productions that a state reduces: by its default, and by its first cells.
use Rattle.std.proofs.Common.{◌≡◌, ℕ, ◌+◌, ◌<◌, ◌≤◌, ◌⊎◌, Bool, true, List, Option, Some, length, set, sym, ◌∙◌, arith, inl, inr}
use Rattle.std.proofs.lemmas.Bool.{cases_eq, cases_lt}
use Rattle.std.proofs.lemmas.List.{get_or_past}
use Rattle.mh_grammar.specs.Plain.{production_count}
use Rattle.mh_tables_core.specs.Facts.{Facts}
use Rattle.mh_tables_core.specs.Table.{TableData, cell_of, fallback_of, state_at}
use Rattle.mh_tables_core.specs.declared.parts.Action.{Action}
use Rattle.mh_tables_core.specs.declared.parts.Action.TheVariants.{Reduce, Refuse}
use Rattle.mh_tables_core.specs.declared.parts.Fallback.{Fallback}
use Rattle.mh_tables_core.specs.declared.parts.Fallback.TheVariants as fallbacks
use Rattle.mh_resolve_cells.specs.NoConflicts.{cell_at}
use Rattle.mh_lint_states.specs.Reductions.{Reduces}
use Rattle.mh_lint_states.specs.Reductions as reductions
use Rattle.mh_lint_states.specs.code.Marks.{Marks}
use Rattle.mh_lint_states.proofs.MarkedFlags.{marks_none, marks_one, marks_same, marks_then}

-- ---- One action.

pub action_marked : (action : Action) (p : ℕ) (old : List Bool) → p < length old → action ≡ Reduce p → Marks (λ q. action ≡ Reduce q) old (set old p true)
action_marked action p old within is = marks_one (λ q. action ≡ Reduce q) old p within is (λ q e. cc)

pub action_unmarked : (action : Action) (old : List Bool) → ((p : ℕ) → action ≡ Reduce p → ⊥) → Marks (λ q. action ≡ Reduce q) old old
action_unmarked action old none = marks_none (λ q. action ≡ Reduce q) old none

-- ---- The default and the first cells.

module _ (t : TableData) (s : ℕ) where
  -- The state reduces the production by default.
  abbrev pub IsDefault : ℕ → Type 0
  IsDefault p = (state_at t s).fallback ≡ Some (fallbacks.Reduce p)

  -- The state reduces the production by default or in one of the first n cells.
  abbrev pub ReducesFirst : ℕ → ℕ → Type 0
  ReducesFirst n p = IsDefault p ⊎ ((z : ℕ) × (z < n) × (cell_at (state_at t s) z ≡ Reduce p))

  pub first_none : (a b : List Bool) → Marks IsDefault a b → Marks (ReducesFirst 0) a b
  first_none a b h = marks_same IsDefault (ReducesFirst 0) a b (λ p x. inl x) (λ p x. elim x [ inl e ↦ e | inr c ↦ absurd (omega (arith, c.1)) ]) h

  pub first_more : (n : ℕ) (action : Action) (a b c : List Bool) → action ≡ cell_at (state_at t s) n → Marks (ReducesFirst n) a b → Marks (λ p. action ≡ Reduce p) b c → Marks (ReducesFirst (n + 1)) a c
  first_more n action a b c is h k = marks_same (λ p. ReducesFirst n p ⊎ (action ≡ Reduce p)) (ReducesFirst (n + 1)) a c to from (marks_then (ReducesFirst n) (λ p. action ≡ Reduce p) a b c h k)
    where
      to : (p : ℕ) → ReducesFirst n p ⊎ (action ≡ Reduce p) → ReducesFirst (n + 1) p
      to p (inl (inl e)) = inl e
      to p (inl (inr x)) = inr (x.0, omega (arith, x.1), x.2)
      to p (inr e) = inr (n, omega arith, sym is ∙ e)

      from : (p : ℕ) → ReducesFirst (n + 1) p → ReducesFirst n p ⊎ (action ≡ Reduce p)
      from p (inl e) = inl (inl e)
      from p (inr x) = elim (cases_eq x.0 n) [
        | inl same ↦ inr (is ∙ rw (← same) x.2)
        | inr other ↦ inl (inr (x.0, omega (arith, x.1, other), x.2))
      ]

  pub first_all : (n : ℕ) (a b : List Bool) → length (state_at t s).cells ≤ n → Marks (ReducesFirst n) a b → Marks (Reduces t s) a b
  first_all n a b all h = marks_same (ReducesFirst n) (Reduces t s) a b to from h
    where
      to : (p : ℕ) → ReducesFirst n p → Reduces t s p
      to p (inl e) = reductions.Reduces.by_default e
      to p (inr x) = reductions.Reduces.in_cell x.0 x.2

      from : (p : ℕ) → Reduces t s p → ReducesFirst n p
      from p (reductions.Reduces.by_default e) = inl e
      from p (reductions.Reduces.in_cell z e) = elim (cases_lt z n) [
        | inl l ↦ inr (z, l, e)
        | inr past ↦ (let none = get_or_past (state_at t s).cells z Refuse (omega (arith, all, past)) in absurd cc)
      ]

-- ---- The range of the productions that a table reduces.

pub fallback_is : (t : TableData) (s p : ℕ) (found : Option Fallback) → found ≡ fallback_of t s → found ≡ Some (fallbacks.Reduce p) → (state_at t s).fallback ≡ Some (fallbacks.Reduce p)
unfolding fallback_of
fallback_is t s p found is e = sym is ∙ e

pub default_known : (t : TableData) (s p : ℕ) → Facts t → (state_at t s).fallback ≡ Some (fallbacks.Reduce p) → p < production_count t.grammar
unfolding fallback_of
default_known t s p facts e = (facts.ordinary s p (inl e)).1

pub cell_known : (t : TableData) (s z p : ℕ) → Facts t → cell_at (state_at t s) z ≡ Reduce p → (length t.grammar.starts ≤ p) × (p < production_count t.grammar)
unfolding cell_of
cell_known t s z p facts e = facts.ordinary s p (inr (z, e))

-- A cell that reduces a production is that of a token of the grammar.
pub cell_within : (t : TableData) (s z p : ℕ) → Facts t → s < length t.states → cell_at (state_at t s) z ≡ Reduce p → z < t.grammar.tokens
cell_within t s z p facts known e = elim (cases_lt z t.grammar.tokens) [
  | inl l ↦ l
  | inr past ↦ (let row = facts.ranges.each_row s known in let none = get_or_past (state_at t s).cells z Refuse (omega (arith, row, past)) in absurd cc)
]

pub action_is : (t : TableData) (s z : ℕ) (action : Action) → action ≡ cell_of t s z → action ≡ cell_at (state_at t s) z
unfolding cell_of
action_is t s z action e = e
