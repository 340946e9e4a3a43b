-- Lemmas on the cells of a state, one after another.
use Rattle.std.proofs.Common.{◌≡◌, ℕ, ◌<◌, ◌+◌, ◌++◌, List, [], ◌∷◌, length, take, get_or, Option, Some, None, ap, ◌∙◌, sym, arith, inl, inr, length-append}
use Rattle.std.proofs.lemmas.Bool.{cases_lt}
use Rattle.std.proofs.lemmas.List.{get_or_push, get_or_append_left, get_or_default}
use Rattle.mh_grammar.specs.declared.types.Grammar.{Grammar}
use Rattle.mh_grammar.specs.declared.types.Look.TheVariants.{Token, End}
use Rattle.mh_grammar.specs.declared.edges.Edge.{Edge}
use Rattle.mh_grammar.specs.declared.types.Symbol.TheVariants.{T}
use Rattle.mh_grammar.specs.Edges.{find_edge}
use Rattle.mh_tables_core.specs.declared.parts.Action.{Action}
use Rattle.mh_tables_core.specs.declared.parts.Action.TheVariants.{Reduce, Refuse}
use Rattle.std.specs.Prelude.{MatchOption}
use Rattle.mh_resolve_cells.specs.declared.kinds.Mode.{Mode}
use Rattle.mh_resolve_cells.specs.declared.kinds.Mode.TheVariants.{Merged}
use Rattle.mh_items_kernels.specs.KernelTypes.{KernelItem}
use Rattle.mh_items_kernels.specs.Kernels.{Holds}
use Rattle.mh_resolve_cells.specs.declared.cells.Cell.{Cell}
use Rattle.mh_resolve_cells.specs.declared.cells.Tally.{Tally}
use Rattle.mh_resolve_cells.specs.declared.cells.Tallies.{Tallies}
use Rattle.mh_resolve_cells.specs.Precedence.{comparison_on}
use Rattle.mh_resolve_cells.specs.code.Tallies.{empty_tally, cell_from}
use Rattle.mh_resolve_cells.specs.code.LookTallies.{AreShifts, AreTallied}
use Rattle.mh_resolve_cells.specs.code.CellRows.{state_of_items, AreCells, AreCellsOfTallies, IsDecidedOn, HasReduction, IsDefaultChoice, no_cell}
use Rattle.mh_resolve_settle.proofs.IsDecided.{decided}
use Rattle.mh_grammar.proofs.Lists.{take_step_cases}

pub no_more : (cells : List Cell) (i : ℕ) (d : Cell) → i < length cells → ((p : ℕ) → HasReduction (take i cells) p → ⊥) → ((p : ℕ) → (get_or cells i d).action ≡ Reduce p → ⊥) → (p : ℕ) → HasReduction (take (i + 1) cells) p → ⊥
no_more cells i d h before here p r =
    elim (take_step_cases cells i (get_or cells i d) h (get_or_default cells i d (get_or cells i d) h) r.cell r.in_cells) [
      | inl c ↦ before p (record { cell = r.cell; in_cells = c; reduces = r.reduces })
      | inr e ↦ here p (ap (λ (c : Cell). c.action) e ∙ r.reduces)
    ]

-- The first n cells are computed.
pub record AreSettledSoFar (n : ℕ) (tallies : List Tally) (shifts : List (Option ℕ)) (cells : List Cell) : Type 0 where
  pub len : length cells ≡ n
  pub each : (z : ℕ) → z < n → get_or cells z no_cell ≡ cell_from (get_or tallies z empty_tally) (get_or shifts z None)

pub settled_more : (n : ℕ) (tallies : List Tally) (shifts : List (Option ℕ)) (cells new : List Cell) (tally : Tally) (shift : Option ℕ) (cell : Cell) → n < length tallies → n < length shifts → tally ≡ get_or tallies n tally → shift ≡ get_or shifts n shift → cell ≡ cell_from tally shift → new ≡ cells ++ cell ∷ []
    → AreSettledSoFar n tallies shifts cells → AreSettledSoFar (n + 1) tallies shifts new
settled_more n tallies shifts cells new tally shift cell lt lt' is is' e f a =
    let len = a.len in
    let t : get_or tallies n empty_tally ≡ tally = get_or_default tallies n empty_tally tally lt ∙ sym is in
    let s : get_or shifts n None ≡ shift = get_or_default shifts n None shift lt' ∙ sym is' in
    record {
      len = ap length f ∙ length-append cells (cell ∷ []) ∙ ap (λ k. k + 1) len;
      each = λ z h. elim (cases_lt z n) [
        | inl below ↦ (let same : get_or new z no_cell ≡ get_or cells z no_cell = ap (λ xs. get_or xs z no_cell) f ∙ get_or_append_left cells (cell ∷ []) no_cell z (omega arith) in same ∙ a.each z below)
        | inr ge ↦ (
            let last : z ≡ n = omega arith in
            let same : get_or new n no_cell ≡ cell = ap (λ xs. get_or xs n no_cell) f ∙ get_or_push cells cell no_cell n len in
            rw last (rw (t, s) (same ∙ e)))
      ];
    }

pub all_settled : (n : ℕ) (tallies : List Tally) (shifts : List (Option ℕ)) (cells : List Cell) → n ≡ length tallies → AreSettledSoFar n tallies shifts cells → AreCellsOfTallies tallies shifts cells
all_settled n tallies shifts cells e a = record { len = a.len ∙ e; each = λ z lt. a.each z (omega arith) }

-- The cells that are made from tallies are those of the listed items.
pub cells_are : (g : Grammar) (items : List KernelItem) (edges : List Edge) (shifts : List (Option ℕ)) (t : Tallies) (cells : List Cell) → AreShifts (length g.tokens) edges shifts → AreTallied g (Holds (record { items = items })) shifts t → AreCellsOfTallies t.tokens.items shifts cells → AreCells (state_of_items g items edges) (length g.tokens) cells
cells_are g items edges shifts t cells s a c = record {
  len = c.len ∙ a.len;
  each = λ z lt. (
      let len = a.len in
      let here : get_or cells z no_cell ≡ cell_from (get_or t.tokens.items z empty_tally) (get_or shifts z None) = c.each z (omega arith) in
      let is = decided (comparison_on g (Token z)) g (Holds (record { items = items })) (Token z) (get_or shifts z None) (get_or t.tokens.items z empty_tally) (a.each (Token z) lt) in
      let on_edge : get_or cells z no_cell ≡ cell_from (get_or t.tokens.items z empty_tally) (find_edge edges (T z)) = here ∙ ap (cell_from (get_or t.tokens.items z empty_tally)) (s.each z lt) in
      rw on_edge (rw (s.each z lt) at is));
}

pub last_is : (g : Grammar) (items : List KernelItem) (edges : List Edge) (shifts : List (Option ℕ)) (t : Tallies) (cell : Cell) → AreTallied g (Holds (record { items = items })) shifts t → cell ≡ cell_from t.last None → IsDecidedOn (state_of_items g items edges) End cell
last_is g items edges shifts t cell a e = rw e (decided (comparison_on g End) g (Holds (record { items = items })) End None t.last (a.each End tt))

-- In merged mode, if there is no action at the end of the stream, the default choice is the reduction that was found.
pub choice_of : (kept : Action) (mode : Mode) (cells : List Cell) (found : Option ℕ) → kept ≡ Refuse → mode ≡ Merged → MatchOption found ((p : ℕ) → HasReduction cells p → ⊥) (HasReduction cells) → MatchOption found ((p : ℕ) → IsDefaultChoice kept mode cells p → ⊥) (IsDefaultChoice kept mode cells)
choice_of kept mode cells None e f m = λ p c. elim c [ inl r ↦ (let no : Refuse ≡ Reduce p = sym e ∙ r in cc) | inr x ↦ m p x.2 ]
choice_of kept mode cells (Some p) e f m = inr (e, f, m)
