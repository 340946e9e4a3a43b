-- What the first states show, with one more state, and what all states show.
use Rattle.std.proofs.Common.{◌≡◌, ℕ, ◌+◌, ◌⊎◌, Bool, List, length, sym, ◌∙◌, arith, inl, inr}
use Rattle.std.proofs.lemmas.Bool.{cases_eq}
use Rattle.mh_grammar.specs.declared.types.Grammar.{Grammar}
use Rattle.mh_items_kernels.specs.KernelTypes.{Automaton}
use Rattle.mh_tables_core.specs.Table.{TableData}
use Rattle.mh_lint_states.specs.Comparisons.{IsTokenCompared, IsProductionCompared}
use Rattle.mh_lint_states.specs.Reductions.{Reduces, ReducesOnErrors}
use Rattle.mh_lint_states.specs.code.Marks.{AreMarked, AreUnset, Marks}
use Rattle.mh_lint_states.specs.code.ShownStates.{AreShown, ComparesProduction, ComparesToken, HasNoFlags, IsShown, ShownBelow, ShowsState}
use Rattle.mh_lint_states.specs.declared.all_states.ShownByStates.{ShownByStates}
use Rattle.mh_lint_states.proofs.MarkedFlags.{marked_more}
use Rattle.mh_lint_states.proofs.MarkedPairs.{pairs_flags}

-- ---- Flags of numbers that some state shows.

module _ (D : ℕ → ℕ → Type 0) where
  pub none_below : (flags : List Bool) → AreUnset flags → AreMarked (ShownBelow D 0) flags
  none_below flags unset = λ i. (λ e. (let no = unset i in absurd cc), λ h. absurd (omega (arith, h.1)))

  pub one_more : (n : ℕ) (a b : List Bool) → AreMarked (ShownBelow D n) a → Marks (D n) a b → AreMarked (ShownBelow D (n + 1)) b
  one_more n a b h k = marked_more (ShownBelow D n) (D n) (ShownBelow D (n + 1)) a b split (λ i x. (x.0, omega (arith, x.1), x.2)) (λ i x. (n, omega arith, x)) h k
    where
      split : (i : ℕ) → ShownBelow D (n + 1) i → ShownBelow D n i ⊎ D n i
      split i x = elim (cases_eq x.0 n) [ inl same ↦ inr (rw (← same) x.2) | inr other ↦ inl (x.0, omega (arith, x.1), x.2) ]

-- ---- All flags.

module _ (g : Grammar) (a : Automaton) (t : TableData) where
  pub shown_none : (x : ShownByStates) → HasNoFlags g x → AreShown g a t 0 x
  shown_none x h = record {
    flags = h.0;
    tokens = none_below (ComparesToken g a) x.compared.tokens.items h.1;
    productions = none_below (ComparesProduction g a) x.compared.productions.items h.2;
    reduced = none_below (Reduces t) x.reduced.items h.3;
    on_errors = none_below (ReducesOnErrors g a t) x.on_errors.items h.4;
  }

  pub shown_more : (n : ℕ) (x y : ShownByStates) → AreShown g a t n x → ShowsState g a t n x y → AreShown g a t (n + 1) y
  shown_more n x y h k = record {
    flags = record {
      compared = pairs_flags _ _ _ x.compared y.compared h.flags.compared k.compared;
      reduced = k.reduced.len ∙ h.flags.reduced;
      on_errors = k.on_errors.len ∙ h.flags.on_errors;
    };
    tokens = one_more (ComparesToken g a) n x.compared.tokens.items y.compared.tokens.items h.tokens k.compared.tokens;
    productions = one_more (ComparesProduction g a) n x.compared.productions.items y.compared.productions.items h.productions k.compared.productions;
    reduced = one_more (Reduces t) n x.reduced.items y.reduced.items h.reduced k.reduced;
    on_errors = one_more (ReducesOnErrors g a t) n x.on_errors.items y.on_errors.items h.on_errors k.on_errors;
  }

  to_tokens : (z : ℕ) → ShownBelow (ComparesToken g a) (length a.kernels) z → IsTokenCompared g a z
  to_tokens z x = (x.2.0, record { state = x.0; target = x.2.1.target; is_state = x.1; shift = x.2.1.shift; reduce = x.2.1.reduce; comparable = x.2.1.comparable })

  from_tokens : (z : ℕ) → IsTokenCompared g a z → ShownBelow (ComparesToken g a) (length a.kernels) z
  from_tokens z x = (x.1.state, x.1.is_state, (x.0, record { target = x.1.target; shift = x.1.shift; reduce = x.1.reduce; comparable = x.1.comparable }))

  to_productions : (p : ℕ) → ShownBelow (ComparesProduction g a) (length a.kernels) p → IsProductionCompared g a p
  to_productions p x = (x.2.0, record { state = x.0; target = x.2.1.target; is_state = x.1; shift = x.2.1.shift; reduce = x.2.1.reduce; comparable = x.2.1.comparable })

  from_productions : (p : ℕ) → IsProductionCompared g a p → ShownBelow (ComparesProduction g a) (length a.kernels) p
  from_productions p x = (x.1.state, x.1.is_state, (x.0, record { target = x.1.target; shift = x.1.shift; reduce = x.1.reduce; comparable = x.1.comparable }))

  pub all_shown : (n : ℕ) (x : ShownByStates) → n ≡ length a.kernels → length t.states ≡ length a.kernels → AreShown g a t n x → IsShown g a t x
  all_shown n x e states h =
      let few : n ≡ length t.states = e ∙ sym states in
      record {
        flags = h.flags;
        tokens = λ z. (λ m. to_tokens z (rw (← e) ((h.tokens z).0 m)), λ c. (h.tokens z).1 (rw e (from_tokens z c)));
        productions = λ p. (λ m. to_productions p (rw (← e) ((h.productions p).0 m)), λ c. (h.productions p).1 (rw e (from_productions p c)));
        reduced = λ p. (λ m. rw (← few) ((h.reduced p).0 m), λ c. (h.reduced p).1 (rw few c));
        on_errors = λ m. (λ f. rw (← few) ((h.on_errors m).0 f), λ c. (h.on_errors m).1 (rw few c));
      }
