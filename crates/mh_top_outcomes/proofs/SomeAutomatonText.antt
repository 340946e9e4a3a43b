-- Proves, as a double negation, that an automaton with its table has a text.
use Rattle.std.proofs.Common.{◌≡◌, ℕ, zero, suc, ◌+◌, inl, inr, Bool, true, false, List, [], ◌++◌, length, Option, Some, None, refl, subst, arith}
use Rattle.std.specs.Prelude.{MatchBool, slice_index_or}
use Rattle.mh_grammar.specs.declared.types.Grammar.{Grammar}
use Rattle.mh_grammar.specs.declared.types.Look.TheVariants.{Token}
use Rattle.mh_grammar.specs.Text.{Text}
use Rattle.mh_grammar.specs.NotLacking.{NotLacking}
use Rattle.mh_grammar.proofs.NotLacking.{given, chain, decided, tabled}
use Rattle.mh_items_kernels.specs.KernelTypes.{Automaton}
use Rattle.mh_items_kernels.specs.Automaton.{kernel_at, edges_at}
use Rattle.mh_report.specs.Automata.{AreActionLines, AreStateTexts, IsAutomatonText, IsStateText, cell_lines, goto_lines, head_line, kernel_lines, title}
use Rattle.mh_resolve_cells.specs.Holes.{AreHoles}
use Rattle.mh_resolve_cells.specs.States.{IsHoleOn, state_of}
use Rattle.mh_resolve_cells.specs.declared.kinds.Mode.{Mode}
use Rattle.mh_tables_core.specs.declared.parts.Fallback.{Fallback}
use Rattle.mh_tables_core.specs.declared.parts.Fallback.TheVariants as fallbacks
use Rattle.mh_tables_core.specs.Table.{TableData, fallback_of}

module _ (g : Grammar) (a : Automaton) (t : TableData) where
  abbrev IsMark : ℕ → ℕ → Bool → Type 0
  IsMark s z mark = MatchBool mark (IsHoleOn (state_of g a s) (Token z)) (IsHoleOn (state_of g a s) (Token z) → ⊥)

  some_mark : (s z : ℕ) → NotLacking ((mark : Bool) × IsMark s z mark)
  some_mark s z = chain (decided (IsHoleOn (state_of g a s) (Token z))) (λ d. elim d [ inl hole ↦ given (true, hole) | inr none ↦ given (false, none) ])

  some_holes : (s : ℕ) → NotLacking ((holes : List Bool) × AreHoles (state_of g a s) holes)
  some_holes s = chain (tabled false (IsMark s) 0 (length g.tokens) (λ i l. some_mark s (0 + i))) (λ m. given (
    m.0,
    record { len = m.1; each = λ z l. subst (λ (k : ℕ). IsMark s k (slice_index_or m.0 z false)) (let e : 0 + z ≡ z = omega arith in e) (m.2 z l) },
  ))

  some_actions : (s : ℕ) (f : Option Fallback) → NotLacking ((text : Text) × AreActionLines g a t s f text)
  some_actions s (Some fallbacks.Accept) = given (_, refl)
  some_actions s (Some (fallbacks.Reduce p)) = given (_, refl)
  some_actions s None = chain (some_holes s) (λ h. given (cell_lines g t s h.0 (length g.tokens), (h.0, h.1, refl)))

  some_state_text : (s : ℕ) → NotLacking ((text : Text) × IsStateText g a t s text)
  some_state_text s = chain (some_actions s (fallback_of t s)) (λ x. given (head_line s ++ kernel_lines g (kernel_at a s).items ++ x.0 ++ goto_lines g (edges_at a s), record { actions = x.0; are_actions = x.1; is = refl }))

  some_state_texts : (n : ℕ) → NotLacking ((text : Text) × AreStateTexts g a t n text)
  some_state_texts zero = given ([], refl)
  some_state_texts (suc n) = chain (some_state_texts n) (λ front. chain (some_state_text n) (λ last. given (front.0 ++ last.0, (front.0, last.0, front.1, last.1, refl))))

  pub some_automaton_text : (mode : Mode) → NotLacking ((text : Text) × IsAutomatonText g a mode t text)
  some_automaton_text mode = chain (some_state_texts (length a.kernels)) (λ x. given (title mode (length a.kernels) ++ x.0, record { states = x.0; are_states = x.1; is = refl }))
