-- Proves that two texts of the same automaton with its table are equal.
use Rattle.std.proofs.Common.{◌≡◌, ◌<◌, ℕ, zero, suc, Bool, true, false, List, length, get_or, Option, Some, None, ◌++◌, refl, sym, ◌∙◌, ap, ap₂, arith}
use Rattle.std.proofs.lemmas.List.{same_lists, get_or_default}
use Rattle.std.specs.Prelude.{MatchBool}
use Rattle.mh_grammar.specs.declared.types.Grammar.{Grammar}
use Rattle.mh_grammar.specs.declared.types.Look.TheVariants.{Token}
use Rattle.mh_items_kernels.specs.KernelTypes.{Automaton}
use Rattle.mh_items_kernels.specs.Automaton.{kernel_at, edges_at}
use Rattle.mh_tables_core.specs.declared.parts.Fallback.{Fallback}
use Rattle.mh_tables_core.specs.declared.parts.Fallback.TheVariants as fallbacks
use Rattle.mh_tables_core.specs.Table.{TableData, fallback_of}
use Rattle.mh_resolve_cells.specs.declared.kinds.Mode.{Mode}
use Rattle.mh_resolve_cells.specs.States.{State, state_of, IsHoleOn}
use Rattle.mh_resolve_cells.specs.Holes.{AreHoles}
use Rattle.mh_grammar.specs.Text.{Text}
use Rattle.mh_report.specs.Automata.{title, cell_lines, head_line, kernel_lines, goto_lines, AreActionLines, IsStateText, AreStateTexts, IsAutomatonText}

mark_once : (P : Type 0) (a b : Bool) → MatchBool a P (P → ⊥) → MatchBool b P (P → ⊥) → a ≡ b
mark_once P true true h k = refl
mark_once P true false h k = absurd (k h)
mark_once P false true h k = absurd (h k)
mark_once P false false h k = refl

-- The list of the holes of a state, which are the tokens whose actions precedence removed, is unique.
holes_once : (s : State) (xs ys : List Bool) → AreHoles s xs → AreHoles s ys → xs ≡ ys
holes_once s xs ys p q =
    let n = p.len in
    let m = q.len in
    same_lists xs ys (n ∙ sym m) (λ z d lt.
    let here : z < length s.grammar.tokens = omega arith in
    get_or_default xs z d false lt ∙ mark_once (IsHoleOn s (Token z)) (get_or xs z false) (get_or ys z false) (p.each z here) (q.each z here) ∙ get_or_default ys z false d (omega arith))

actions_once : (g : Grammar) (a : Automaton) (t : TableData) (s : ℕ) (fallback : Option Fallback) (x y : Text) → AreActionLines g a t s fallback x → AreActionLines g a t s fallback y → x ≡ y
actions_once g a t s (Some fallbacks.Accept) x y p q = p ∙ sym q
actions_once g a t s (Some (fallbacks.Reduce r)) x y p q = p ∙ sym q
actions_once g a t s None x y p q = p.2 ∙ ap (λ (holes : List Bool). cell_lines g t s holes (length g.tokens)) (holes_once (state_of g a s) p.0 q.0 p.1 q.1) ∙ sym q.2

state_once : (g : Grammar) (a : Automaton) (t : TableData) (s : ℕ) (x y : Text) → IsStateText g a t s x → IsStateText g a t s y → x ≡ y
state_once g a t s x y p q =
    let same = actions_once g a t s (fallback_of t s) p.actions q.actions p.are_actions q.are_actions in
    p.is ∙ ap (λ (lines : Text). head_line s ++ kernel_lines g (kernel_at a s).items ++ lines ++ goto_lines g (edges_at a s)) same ∙ sym q.is

states_once : (g : Grammar) (a : Automaton) (t : TableData) (n : ℕ) (x y : Text) → AreStateTexts g a t n x → AreStateTexts g a t n y → x ≡ y
states_once g a t zero x y p q = p ∙ sym q
states_once g a t (suc n) x y p q = p.4 ∙ ap₂ (λ (front last : Text). front ++ last) (states_once g a t n p.0 q.0 p.2 q.2) (state_once g a t n p.1 q.1 p.3 q.3) ∙ sym q.4

pub text_once : (g : Grammar) (a : Automaton) (mode : Mode) (t : TableData) (x y : Text) → IsAutomatonText g a mode t x → IsAutomatonText g a mode t y → x ≡ y
text_once g a mode t x y p q = p.is ∙ ap (λ (states : Text). title mode (length a.kernels) ++ states) (states_once g a t (length a.kernels) p.states q.states p.are_states q.are_states) ∙ sym q.is
