-- Proves that, if an automaton has no conflicts, each state of its table makes each raw action of the state of the
-- automaton. Raw actions are the actions that the items of a state call for, before conflicts are resolved.
use Rattle.std.proofs.Common.{◌≡◌, ℕ, ◌<◌, ◌≤◌, List, [], ◌∷◌, ◌++◌, length, Some, None, Option, refl, ap, sym, subst, arith, ◌∙◌}
use Rattle.std.specs.List.{All}
use Rattle.mh_grammar.specs.declared.types.Grammar.{Grammar}
use Rattle.mh_grammar.specs.declared.types.Symbol.{Symbol}
use Rattle.mh_grammar.specs.declared.types.Symbol.TheVariants.{T}
use Rattle.mh_grammar.specs.declared.types.Look.{Look}
use Rattle.mh_grammar.specs.declared.types.Look.TheVariants.{Token, End}
use Rattle.mh_grammar.specs.Plain.{PlainGrammar, plain_of, rhs_of, production_count, DerivesAll, IsInRange, IsSymbolBelow, IsLookBelow}
use Rattle.mh_grammar.specs.ItemSets as items
use Rattle.mh_grammar.specs.ItemSets.{MayBegin}
use Rattle.mh_grammar.proofs.DerivesFirst.{first_of_from-derivations}
use Rattle.mh_grammar.proofs.FirstFlags.{first_of-below}
use Rattle.mh_items_kernels.specs.KernelTypes.{Automaton}
use Rattle.mh_items_kernels.specs.Kernels.{IsKernelItem}
use Rattle.mh_items_kernels.specs.Automaton.{IsAutomaton, kernel_at, closure_of, leads_to}
use Rattle.mh_items_kernels.proofs.RhsInRange.{rest_below}
use Rattle.mh_resolve_cells.specs.declared.kinds.Mode.{Mode}
use Rattle.mh_resolve_cells.specs.States.{Raw, state_of, IsTableOf}
use Rattle.mh_resolve_cells.specs.NoConflicts.{HasNoConflicts, IsDefaultOf, ActsCompletely}
use Rattle.mh_resolve_cells.proofs.ActsCompletely.{state_acts_if_conflict_free}
use Rattle.mh_resolve_cells.proofs.ClosureItems.{closure_is_item, closure_within}
use Rattle.mh_grammar.proofs.Lists.{recursion_contains}
use Rattle.mh_tables_core.specs.declared.parts.Action.{Action}
use Rattle.mh_tables_core.specs.declared.parts.Action.TheVariants as actions
use Rattle.mh_tables_core.specs.declared.parts.Fallback.{Fallback}
use Rattle.mh_tables_core.specs.declared.parts.Fallback.TheVariants as fallbacks
use Rattle.mh_tables_core.specs.Table.{TableData, state_at, cell_of, fallback_of}
use Rattle.mh_tables_core.specs.Facts.{Facts}
use Rattle.mh_tables_core.specs.Run.{RunMove, Accepts, Shifts, Reduces, run_move_of, move_of_next, move_by_default}
use Rattle.mh_run_exact.proofs.TableEdges.{HasEdgesOf, has_edges_of}
use Rattle.mh_items_kernels.proofs.SymbolAtDot.{drop_tail}

-- The next look: the first of the tokens that are left, or the end if none is left.
abbrev pub look_of : List ℕ → Look
look_of [] = End
look_of (z ∷ left) = Token z

-- If the symbols Xs derive the word u, then Xs followed by the look of `left` may begin with the look of u ++ left.
pub may_begin : (g : PlainGrammar) (Xs : List Symbol) (u left : List ℕ) → DerivesAll g Xs u → MayBegin g Xs (look_of left) (look_of (u ++ left))
may_begin g Xs [] left f = items.MayBegin.passes f
may_begin g Xs (z ∷ u) left f = items.MayBegin.begins (first_of_from-derivations g z Xs (z ∷ u) u f refl)

may_begin_below : (g : PlainGrammar) (r : IsInRange g) (y : List Symbol) (look next : Look) → All (IsSymbolBelow g.tokens g.nonterminals) y → IsLookBelow g.tokens look → MayBegin g y look next → IsLookBelow g.tokens next
may_begin_below g r y look next below h (items.MayBegin.begins {z} f) = first_of-below g g.tokens g.nonterminals r.productions z y f below
may_begin_below g r y look next below h (items.MayBegin.passes d) = h

-- The lookahead symbols of the items of a state are in range.
looks_below : (g : PlainGrammar) (a : Automaton) (r : IsInRange g) (h : IsAutomaton g a) (s p d : ℕ) (look : Look) → closure_of g a s p d look → IsLookBelow g.tokens look
looks_below g a r h s p d look (items.Close.given k) =
    let within : s < length a.kernels = closure_within g a s p d look (items.Close.given k) in
    let item = recursion_contains (IsKernelItem g) (kernel_at a s).items (h.each s within).items k.0 k.1 in
    recursion_contains (IsLookBelow g.tokens) k.0.looks item.looks look k.4
looks_below g a r h s p d look (items.Close.added {p = q} {d = e} {n} {y} {a = from} c at i b) =
    let known : q < production_count g = (closure_is_item g a h s q e from c).production in
    let below : All (IsSymbolBelow g.tokens g.nonterminals) y = subst (All (IsSymbolBelow g.tokens g.nonterminals)) (drop_tail (rhs_of g q) e _ y at) (rest_below g r q e known) in
    may_begin_below g r y from look below (looks_below g a r h s q e from c) b

-- The state s of the table makes each raw action of the state s of the automaton.
pub record MakesRawActions (g : PlainGrammar) (t : TableData) (a : Automaton) (s : ℕ) : Type 0 where
  pub shifts : (z u : ℕ) (left : List ℕ) → leads_to a s (T z) ≡ Some u → run_move_of t s (z ∷ left) ≡ Shifts u
  pub reduces : (p : ℕ) (left : List ℕ) → length g.starts ≤ p → closure_of g a s p (length (rhs_of g p)) (look_of left) → run_move_of t s left ≡ Reduces p
  pub accepts : (p : ℕ) (left : List ℕ) → p < length g.starts → closure_of g a s p (length (rhs_of g p)) End → run_move_of t s left ≡ Accepts

not_shifted : (n : ℕ) (f : Fallback) (u : ℕ) → IsDefaultOf n f (actions.Shift u) → ⊥
not_shifted n fallbacks.Accept u h = h
not_shifted n (fallbacks.Reduce q) u h = h

default_reduces : (n p : ℕ) (f : Fallback) (m : RunMove) → IsDefaultOf n f (actions.Reduce p) → n ≤ p → move_by_default (Some f) m ≡ Reduces p
default_reduces n p fallbacks.Accept m h le = absurd (omega arith)
default_reduces n p (fallbacks.Reduce q) m h le = ap Reduces (sym h.1)

default_accepts : (n p : ℕ) (f : Fallback) (m : RunMove) → IsDefaultOf n f (actions.Reduce p) → p < n → move_by_default (Some f) m ≡ Accepts
default_accepts n p fallbacks.Accept m h lt = refl
default_accepts n p (fallbacks.Reduce q) m h lt = absurd (omega (arith, h.0))

module _ (g : Grammar) (a : Automaton) (t : TableData) (s : ℕ) (h : ActsCompletely (state_of g a s) (state_at t s)) where
  cell_is : fallback_of t s ≡ None → (z : ℕ) (x : Action) → z < length g.tokens → Raw (state_of g a s) (Token z) x → cell_of t s z ≡ x
  unfolding cell_of fallback_of
  cell_is none z x lt r = h.cells none z x lt r

  default_is : (f : Fallback) → fallback_of t s ≡ Some f → (look : Look) (x : Action) → Raw (state_of g a s) look x → IsDefaultOf (length g.starts) f x
  unfolding fallback_of
  default_is f e look x r = h.default f e look x r

  end_is : (x : Action) → Raw (state_of g a s) End x → (f : Fallback) × (fallback_of t s ≡ Some f)
  unfolding fallback_of
  end_is x r = h.at_end x r

  shifts_by : (f : Option Fallback) → fallback_of t s ≡ f → (z u : ℕ) (left : List ℕ) → z < length g.tokens → leads_to a s (T z) ≡ Some u → move_by_default f (move_of_next t s (z ∷ left)) ≡ Shifts u
  shifts_by None none z u left lt e = rw (cell_is none z (actions.Shift u) lt e) refl
  shifts_by (Some f) some z u left lt e = absurd (not_shifted (length g.starts) f u (default_is f some (Token z) (actions.Shift u) e))

  module _ (below : (z p d : ℕ) → closure_of (plain_of g) a s p d (Token z) → z < length g.tokens) where
    reduces_by : (f : Option Fallback) → fallback_of t s ≡ f → (p : ℕ) (left : List ℕ) → length g.starts ≤ p → closure_of (plain_of g) a s p (length (rhs_of (plain_of g) p)) (look_of left) → move_by_default f (move_of_next t s left) ≡ Reduces p
    reduces_by None none p [] le c = let d = end_is (actions.Reduce p) c in let some = d.1 in cc
    reduces_by None none p (z ∷ left) le c = rw (cell_is none z (actions.Reduce p) (below z p (length (rhs_of (plain_of g) p)) c) c) refl
    reduces_by (Some f) some p left le c = default_reduces (length g.starts) p f (move_of_next t s left) (default_is f some (look_of left) (actions.Reduce p) c) le

  accepts_by : (f : Option Fallback) → fallback_of t s ≡ f → (p : ℕ) (left : List ℕ) → p < length g.starts → closure_of (plain_of g) a s p (length (rhs_of (plain_of g) p)) End → move_by_default f (move_of_next t s left) ≡ Accepts
  accepts_by None none p left lt c = let d = end_is (actions.Reduce p) c in let some = d.1 in cc
  accepts_by (Some f) some p left lt c = default_accepts (length g.starts) p f (move_of_next t s left) (default_is f some End (actions.Reduce p) c) lt

  makes_raw_actions_by : ((z u : ℕ) → leads_to a s (T z) ≡ Some u → z < length g.tokens) → ((z p d : ℕ) → closure_of (plain_of g) a s p d (Token z) → z < length g.tokens) → MakesRawActions (plain_of g) t a s
  unfolding run_move_of
  makes_raw_actions_by token below = record {
    shifts = λ z u left e. shifts_by (fallback_of t s) refl z u left (token z u e) e;
    reduces = λ p left le c. reduces_by below (fallback_of t s) refl p left le c;
    accepts = λ p left lt c. accepts_by (fallback_of t s) refl p left lt c;
  }

pub makes_raw_actions : (g : Grammar) (a : Automaton) (mode : Mode) (t : TableData) → Facts t → IsAutomaton (plain_of g) a → IsTableOf g a mode t → HasNoConflicts g a → (s : ℕ) → s < length a.kernels → MakesRawActions t.grammar t a s
makes_raw_actions g a mode t f h is clear s lt =
    let range : IsInRange (plain_of g) = subst IsInRange is.grammar f.ranges.grammar in
    let stands : HasEdgesOf t a = has_edges_of g a mode t h is in
    let tokens : t.grammar.tokens ≡ length g.tokens = ap (λ (p : PlainGrammar). p.tokens) is.grammar in
    let token : (z u : ℕ) → leads_to a s (T z) ≡ Some u → z < length g.tokens = λ z u e. (let low : z < t.grammar.tokens = f.ranges.each_symbol s (T z) u (stands.edges s (T z) ∙ e) in omega arith) in
    subst (λ (p : PlainGrammar). MakesRawActions p t a s) (sym is.grammar)
    (makes_raw_actions_by g a t s (state_acts_if_conflict_free g a mode t.states is.states clear s lt) token (λ z p d c. looks_below (plain_of g) a range h s p d (Token z) c))
