-- The reductions of a state on errors, by the items of its closure and by its cells.
use Rattle.std.proofs.Common.{◌≡◌, ℕ, ◌<◌, ◌≤◌, ◌↔◌, Bool, true, false, List, [], Option, None, Some, length, set, sym, ap, ◌∙◌, arith, inl, inr}
use Rattle.std.specs.List.{Contains}
use Rattle.std.specs.Prelude.{is_some}
use Rattle.mh_grammar.specs.Plain.{PlainGrammar, production_count}
use Rattle.mh_grammar.specs.declared.types.Grammar.{Grammar}
use Rattle.mh_grammar.specs.declared.types.Look.{Look}
use Rattle.mh_grammar.specs.declared.types.Look.TheVariants.{Token}
use Rattle.mh_grammar.specs.Plain.{plain_of, lhs_of, rhs_of}
use Rattle.mh_items_kernels.specs.KernelTypes.{Automaton, Kernel, KernelItem}
use Rattle.mh_tables_core.specs.Facts.{Facts}
use Rattle.mh_tables_core.specs.Table.{TableData, fallback_of, state_at}
use Rattle.mh_tables_core.specs.declared.parts.Fallback.{Fallback}
use Rattle.mh_tables_core.specs.declared.parts.Action.{Action}
use Rattle.mh_tables_core.specs.declared.parts.Action.TheVariants.{Shift, Reduce, Refuse}
use Rattle.mh_resolve_cells.specs.NoConflicts.{cell_at}
use Rattle.mh_resolve_cells.specs.declared.kinds.Mode.{Mode}
use Rattle.mh_resolve_cells.specs.States.{IsCell, IsErrorCandidate, IsErrorReduction, IsTableOf, Raw, state_of}
use Rattle.mh_resolve_cells.specs.code.CellRows.{state_of_items}
use Rattle.mh_lint_states.specs.Reductions.{ReducesOnErrors}
use Rattle.mh_lint_states.specs.code.ClosedStates.{IsClosedState}
use Rattle.mh_lint_states.specs.code.FilledCells.{HasFilledCell, IsLookOf}
use Rattle.mh_lint_states.specs.code.Marks.{Marks}
use Rattle.mh_tables_core.proofs.SymbolsInRange.{left_below}
use Rattle.mh_lint_states.proofs.MarkedFlags.{marks_none, marks_one}
use Rattle.mh_lint_states.proofs.Reduces.{cell_known, cell_within}

module _ (g : Grammar) (a : Automaton) (s : ℕ) (closed : Kernel) (is : IsClosedState g a s closed) where
  abbrev rhs_length : ℕ → ℕ
  rhs_length p = length (rhs_of (plain_of g) p)

  -- The items of the closure with a look are the complete items on the look.
  look_to : (p : ℕ) (look : Look) → IsLookOf g closed.items p look → Raw (state_of g a s) look (Reduce p)
  look_to p look x = (is.items p (rhs_length p) look).0 (x.item, x.of_items, x.production_is, x.complete.complete ∙ ap rhs_length x.production_is, x.complete.has_look)

  look_from : (p : ℕ) (look : Look) → Raw (state_of g a s) look (Reduce p) → IsLookOf g closed.items p look
  look_from p look r =
      let h = (is.items p (rhs_length p) look).1 r in
      record { item = h.0; of_items = h.1; production_is = h.2; complete = record { complete = h.3 ∙ ap rhs_length (sym h.2); has_look = h.4 } }

  candidate_to : (p rank : ℕ) → IsErrorCandidate (state_of_items g closed.items []) p rank → IsErrorCandidate (state_of g a s) p rank
  candidate_to p rank c = record { look = c.look; complete = (is.items p (rhs_length p) c.look).0 c.complete; rank_is = c.rank_is }

  candidate_from : (p rank : ℕ) → IsErrorCandidate (state_of g a s) p rank → IsErrorCandidate (state_of_items g closed.items []) p rank
  candidate_from p rank c = record { look = c.look; complete = (is.items p (rhs_length p) c.look).1 c.complete; rank_is = c.rank_is }

  pub error_to : (p : ℕ) → IsErrorReduction (state_of_items g closed.items []) p → IsErrorReduction (state_of g a s) p
  error_to p f = record { rank = f.rank; candidate = candidate_to p f.rank f.candidate; lowest = λ q r c. f.lowest q r (candidate_from q r c) }

  pub error_from : (p : ℕ) → IsErrorReduction (state_of g a s) p → IsErrorReduction (state_of_items g closed.items []) p
  error_from p f = record { rank = f.rank; candidate = candidate_from p f.rank f.candidate; lowest = λ q r c. f.lowest q r (candidate_to q r c) }

  -- A state has at most one reduction on errors.
  pub error_once : (p q : ℕ) → IsErrorReduction (state_of g a s) p → IsErrorReduction (state_of g a s) q → q ≡ p
  error_once p q f h = elim (f.lowest q h.rank h.candidate) [
    | inl e ↦ e
    | inr less ↦ elim (h.lowest p f.rank f.candidate) [ inl e ↦ sym e | inr more ↦ absurd (omega (arith, less, more)) ]
  ]

  -- A cell that reduces a production on a token that is no look of the production has no action of its own.
  no_own : (mode : Mode) (p z : ℕ) (action : Action) → IsCell mode (state_of g a s) z action → action ≡ Reduce p → (IsLookOf g closed.items p (Token z) → ⊥) → (b : Action) → Raw (state_of g a s) (Token z) b → ⊥
  no_own mode p z (Reduce q) (inl (inl chosen)) e none b raw = (let same : q ≡ p = cc in none (look_from p (Token z) (rw (← same) chosen.0.0)))
  no_own mode p z (Shift j) (inl (inl chosen)) e none b raw = absurd cc
  no_own mode p z Refuse (inl (inl chosen)) e none b raw = absurd cc
  no_own mode p z action (inl (inr filled)) e none b raw = filled.0 b raw
  no_own mode p z action (inr refused) e none b raw = (let same = refused.0 in absurd cc)

  module _ (t : TableData) (mode : Mode) (p : ℕ) (looks : List Look) (exact : (look : Look) → Contains looks look ↔ IsLookOf g closed.items p look) (cells : (z : ℕ) → z < t.grammar.tokens → IsCell mode (state_of g a s) z (cell_at (state_at t s) z)) where
    pub reduces_to : (n : ℕ) → (state_at t s).fallback ≡ None → IsErrorReduction (state_of_items g closed.items []) p → HasFilledCell t s looks p → lhs_of (plain_of g) p ≡ n → ReducesOnErrors g a t s n
    reduces_to n default f filled left = record {
      production = p;
      token = filled.0;
      without_default = default;
      candidate = error_to p f;
      left = left;
      filled = filled.2.reduces;
      no_own = no_own mode p filled.0 (cell_at (state_at t s) filled.0) (cells filled.0 filled.1) filled.2.reduces (λ l. filled.2.no_look ((exact (Token filled.0)).1 l));
    }

    pub reduces_from : (n : ℕ) → IsErrorReduction (state_of_items g closed.items []) p → ((z q : ℕ) → cell_at (state_at t s) z ≡ Reduce q → z < t.grammar.tokens) → ReducesOnErrors g a t s n → HasFilledCell t s looks p × (lhs_of (plain_of g) p ≡ n)
    reduces_from n f within x =
        let same : x.production ≡ p = error_once p x.production (error_to p f) x.candidate in
        let filled : cell_at (state_at t s) x.token ≡ Reduce p = rw (← same) x.filled in (
          (x.token, within x.token p filled, record { reduces = filled; no_look = λ l. x.no_own (Reduce p) (look_to p (Token x.token) ((exact (Token x.token)).0 l)) }),
          rw (← same) x.left,
        )

-- ---- The flags of a state.

-- A state whose default was asked for has one, or has none.
pub with_default : (t : TableData) (s : ℕ) (found : Option Fallback) (answer : Bool) → found ≡ fallback_of t s → answer ≡ is_some found → answer ≡ true → (state_at t s).fallback ≡ None → ⊥
unfolding fallback_of
with_default t s found answer is test has none = (let e : is_some found ≡ false = ap is_some (is ∙ none) in absurd cc)

pub without_default : (t : TableData) (s : ℕ) (found : Option Fallback) (answer : Bool) → found ≡ fallback_of t s → answer ≡ is_some found → answer ≡ false → (state_at t s).fallback ≡ None
unfolding fallback_of
without_default t s None answer is test not = sym is
without_default t s (Some f) answer is test not = absurd cc

module _ (g : Grammar) (a : Automaton) (s : ℕ) (closed : Kernel) (is : IsClosedState g a s closed) (t : TableData) (facts : Facts t) (mode : Mode) (table : IsTableOf g a mode t) where
  known : s < length t.states
  known = (let count = table.states.count in let state = is.is_state in omega arith)

  cells_are : (z : ℕ) → z < t.grammar.tokens → IsCell mode (state_of g a s) z (cell_at (state_at t s) z)
  cells_are z l = (let tokens : t.grammar.tokens ≡ length g.tokens = ap (λ (p : PlainGrammar). p.tokens) table.grammar in (table.states.each s is.is_state).cells z (omega (arith, tokens, l)))

  ordinary : (p : ℕ) (looks : List Look) → HasFilledCell t s looks p → (length t.grammar.starts ≤ p) × (p < production_count t.grammar)
  ordinary p looks filled = cell_known t s filled.0 p facts filled.2.reduces

  -- A production that the state reduces on errors is an ordinary one, and its left side is a nonterminal of the
  -- grammar.
  pub starts_before : (p : ℕ) (looks : List Look) → HasFilledCell t s looks p → length t.grammar.starts ≤ p
  starts_before p looks filled = (ordinary p looks filled).0

  pub left_known : (p n : ℕ) (looks : List Look) → HasFilledCell t s looks p → n ≡ lhs_of t.grammar p → n < length g.nonterminals
  left_known p n looks filled left =
      let in_range = ordinary p looks filled in
      let below = left_below t.grammar facts.ranges.grammar p in_range.0 in_range.1 in
      let count : t.grammar.nonterminals ≡ length g.nonterminals = ap (λ (h : PlainGrammar). h.nonterminals) table.grammar in
      omega (arith, below, count, left)

  module _ (p : ℕ) (items : List KernelItem) (same : items ≡ closed.items) (f : IsErrorReduction (state_of_items g items []) p) (others : List KernelItem) (equal : others ≡ closed.items) (looks : List Look) (exact : (look : Look) → Contains looks look ↔ IsLookOf g others p look) (flags : List Bool) where
    here : IsErrorReduction (state_of_items g closed.items []) p
    here = rw same at f

    found : (look : Look) → Contains looks look ↔ IsLookOf g closed.items p look
    found = rw equal at exact

    from : (n : ℕ) → ReducesOnErrors g a t s n → HasFilledCell t s looks p × (lhs_of (plain_of g) p ≡ n)
    from n x = reduces_from g a s closed is t mode p looks found cells_are n here (λ z q e. cell_within t s z q facts known e) x

    pub errors_marked : (n : ℕ) → length flags ≡ length g.nonterminals → (state_at t s).fallback ≡ None → HasFilledCell t s looks p → n ≡ lhs_of t.grammar p → Marks (ReducesOnErrors g a t s) flags (set flags n true)
    errors_marked n size default filled left =
        let below = left_known p n looks filled left in
        let side : lhs_of (plain_of g) p ≡ n = ap (λ h. lhs_of h p) (sym table.grammar) ∙ sym left in
        marks_one (ReducesOnErrors g a t s) flags n (omega (arith, below, size)) (reduces_to g a s closed is t mode p looks found cells_are n default here filled side) (λ m x. sym (from m x).1 ∙ side)

    pub errors_unmarked : (HasFilledCell t s looks p → ⊥) → Marks (ReducesOnErrors g a t s) flags flags
    errors_unmarked none = marks_none (ReducesOnErrors g a t s) flags (λ n x. none (from n x).0)

  pub errors_none : (items : List KernelItem) (flags : List Bool) → items ≡ closed.items → ((p : ℕ) → IsErrorReduction (state_of_items g items []) p → ⊥) → Marks (ReducesOnErrors g a t s) flags flags
  errors_none items flags same none =
      let here : (p : ℕ) → IsErrorReduction (state_of_items g closed.items []) p → ⊥ = rw same at none in
      marks_none (ReducesOnErrors g a t s) flags (λ n x. here x.production (error_from g a s closed is x.production x.candidate))
