-- Proves that a cell is a hole (precedence dropped all its raw actions) exactly if it refuses and the state has an edge
-- on its token.
use Rattle.std.proofs.Common.{◌≡◌, ℕ, zero, suc, ◌<◌, ◌+◌, List, [], ◌∷◌, ◌++◌, Option, Some, None, length, get_or, Bool, true, false, refl, ap, sym, subst, ◌∙◌, arith, inl, inr}
use Rattle.std.specs.Prelude.{◌&&◌, is_some, MatchBool}
use Rattle.std.proofs.lemmas.Bool.{cases_lt}
use Rattle.std.proofs.lemmas.List.{get_or_append_left, get_or_push, length_push}
use Rattle.mh_grammar.specs.declared.types.Grammar.{Grammar}
use Rattle.mh_grammar.specs.declared.edges.Edge.{Edge}
use Rattle.mh_grammar.specs.declared.types.Look.TheVariants.{Token}
use Rattle.mh_grammar.specs.declared.types.Symbol.TheVariants.{T}
use Rattle.mh_grammar.specs.Edges.{find_edge}
use Rattle.mh_items_kernels.specs.KernelTypes.{Automaton}
use Rattle.mh_items_kernels.specs.Automaton.{edges_at}
use Rattle.mh_tables_core.specs.Table.{TableData, cell_of}
use Rattle.mh_tables_core.specs.declared.parts.Action.{Action}
use Rattle.mh_tables_core.specs.declared.parts.Action.TheVariants.{Shift, Reduce, Refuse}
use Rattle.mh_resolve_cells.specs.declared.kinds.Mode.{Mode}
use Rattle.mh_resolve_cells.specs.Precedence.{comparison_on}
use Rattle.mh_resolve_cells.specs.Cells.{Remains}
use Rattle.mh_resolve_cells.specs.States.{State, state_of, Raw, IsChosenOn, IsHoleOn, IsCell, IsTableOf}
use Rattle.mh_resolve_cells.specs.code.LookTallies.{AreShifts}
use Rattle.mh_resolve_cells.specs.code.CellRows.{refuses}
use Rattle.mh_resolve_cells.specs.Holes.{AreHoles}
use Rattle.mh_resolve_cells.proofs.IsResolved.{chosen_remains}

module _ (mode : Mode) (s : State) (z : ℕ) where
  abbrev Left : Action → Type 0
  Left a = Remains (comparison_on s.grammar (Token z)) (Raw s (Token z)) a

  -- If no action is chosen, none remains: of the remaining reductions the lowest would be chosen.
  module _ (none : (a : Action) → IsChosenOn s (Token z) a → ⊥) where
    no_reduction_below : (n p : ℕ) → p < n → Left (Reduce p) → ⊥
    no_reduction_below zero p l r = omega arith
    no_reduction_below (suc n) p l r = none (Reduce p) (r, λ q k. elim (cases_lt q p) [ inl lt ↦ absurd (no_reduction_below n q (omega arith) k) | inr ge ↦ ge ])

    none_left : (a : Action) → Left a → ⊥
    none_left (Shift j) k = none (Shift j) k
    none_left (Reduce p) k = no_reduction_below (suc p) p (omega arith) k
    none_left Refuse k = k

  refusing : (cell : Action) → IsCell mode s z cell → cell ≡ Refuse → (a : Action) → IsChosenOn s (Token z) a → ⊥
  refusing cell (inr n) e a t = n.1 a (inl t)
  refusing cell (inl (inl t)) e a u = let r = rw e at t in r
  refusing cell (inl (inr f)) e a u = let no : Reduce f.2 ≡ Refuse = sym f.3 ∙ e in cc

  -- A hole refuses, and the state has an edge on its token.
  hole_refuses : (cell : Action) → IsCell mode s z cell → IsHoleOn s (Token z) → cell ≡ Refuse
  hole_refuses cell (inl (inl t)) h = absurd (h.none_remains cell (chosen_remains s (Token z) cell t))
  hole_refuses cell (inl (inr f)) h = absurd (f.0 h.action h.raw)
  hole_refuses cell (inr n) h = n.0

  hole_edge : (shift : Option ℕ) → find_edge s.edges (T z) ≡ shift → IsHoleOn s (Token z) → is_some shift ≡ true
  hole_edge (Some j) e h = refl
  hole_edge None e h = absurd (no h.action h.raw)
    where
      no : (a : Action) → Raw s (Token z) a → ⊥
      no (Shift j) r = let f : None ≡ Some j = sym e ∙ r in cc
      no (Reduce p) r = h.none_remains (Reduce p) (r, λ j k. let f : None ≡ Some j = sym e ∙ k in cc)
      no Refuse r = r

  pub is_hole : (cell : Action) (shift : Option ℕ) → IsCell mode s z cell → find_edge s.edges (T z) ≡ shift → MatchBool (is_some shift && refuses cell) (IsHoleOn s (Token z)) (IsHoleOn s (Token z) → ⊥)
  is_hole Refuse (Some j) c e = record { action = Shift j; raw = e; none_remains = none_left (refusing Refuse c refl) }
  is_hole Refuse None c e = λ h. let f = hole_edge None e h in cc
  is_hole (Shift i) (Some j) c e = λ h. let f = hole_refuses (Shift i) c h in cc
  is_hole (Shift i) None c e = λ h. let f = hole_edge None e h in cc
  is_hole (Reduce p) (Some j) c e = λ h. let f = hole_refuses (Reduce p) c h in cc
  is_hole (Reduce p) None c e = λ h. let f = hole_edge None e h in cc

-- The marks of the first n tokens are computed from their shifts and cells.
pub record AreMarked (shifts : List (Option ℕ)) (t : TableData) (state n : ℕ) (holes : List Bool) : Type 0 where
  pub len : length holes ≡ n
  pub each : (z : ℕ) → z < n → get_or holes z false ≡ (is_some (get_or shifts z None) && refuses (cell_of t state z))

pub marked_more : (shifts : List (Option ℕ)) (t : TableData) (state n : ℕ) (holes new : List Bool) (hole : Bool) → new ≡ holes ++ hole ∷ [] → hole ≡ (is_some (get_or shifts n None) && refuses (cell_of t state n)) → AreMarked shifts t state n holes → AreMarked shifts t state (n + 1) new
marked_more shifts t state n holes new hole is value h = record {
  len = let l = h.len in omega (arith, ap length is, length_push holes hole);
  each = λ z lt. elim (cases_lt z n) [
    | inl below ↦ (let inside : z < length holes = omega (arith, h.len) in ap (λ xs. get_or xs z false) is ∙ get_or_append_left holes (hole ∷ []) false z inside ∙ h.each z below)
    | inr ge ↦ (let last : z ≡ n = omega arith in let at : length holes ≡ z = h.len ∙ sym last in ap (λ xs. get_or xs z false) is ∙ get_or_push holes hole false z at ∙ value ∙ ap (λ m. is_some (get_or shifts m None) && refuses (cell_of t state m)) (sym last))
  ];
}

pub holes_are : (g : Grammar) (a : Automaton) (mode : Mode) (t : TableData) (s : ℕ) (edges : List Edge) (shifts : List (Option ℕ)) (holes : List Bool) → IsTableOf g a mode t → s < length a.kernels → edges ≡ edges_at a s → AreShifts (length g.tokens) edges shifts → AreMarked shifts t s (length g.tokens) holes → AreHoles (state_of g a s) holes
unfolding cell_of
holes_are g a mode t s edges shifts holes table known same are marked = record {
  len = marked.len;
  each = λ z lt.
      let resolved = table.states.each s known in
      let shift : find_edge (edges_at a s) (T z) ≡ get_or shifts z None = ap (λ xs. find_edge xs (T z)) (sym same) ∙ sym (are.each z lt) in
      subst (λ b. MatchBool b (IsHoleOn (state_of g a s) (Token z)) (IsHoleOn (state_of g a s) (Token z) → ⊥)) (sym (marked.each z lt)) (is_hole mode (state_of g a s) z (cell_of t s z) (get_or shifts z None) (resolved.cells z lt) shift);
}
