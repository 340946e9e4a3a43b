-- Proves that the parts that the code computes for a state meet its definition.
use Rattle.std.proofs.Common.{◌≡◌, ℕ, ◌<◌, ◌⊎◌, List, length, get_or, Option, Some, None, Bool, true, false, lt-ltb, le-ltb, refl, ap, sym, ◌∙◌, arith, inl, inr}
use Rattle.std.specs.Prelude.{MatchBool, MatchOption, if◌then◌else◌}
use Rattle.std.specs.List.{Contains}
use Rattle.std.proofs.lemmas.Bool.{cases_lt}
use Rattle.std.proofs.lemmas.List.{get_or_default}
use Rattle.std.proofs.lemmas.List.Elements.{Contains-get_or, All-contains}
use Rattle.mh_grammar.specs.declared.types.Look.{Look}
use Rattle.mh_grammar.specs.declared.types.Look.TheVariants.{Token, End}
use Rattle.mh_tables_core.specs.declared.parts.Action.{Action}
use Rattle.mh_tables_core.specs.declared.parts.Action.TheVariants.{Shift, Reduce, Refuse}
use Rattle.mh_resolve_cells.specs.declared.kinds.Mode.{Mode}
use Rattle.mh_resolve_cells.specs.declared.kinds.Mode.TheVariants.{Merged, Canonical}
use Rattle.mh_resolve_cells.specs.declared.levels.Comparison.TheVariants.{Reduces, Shifts, Unknown}
use Rattle.mh_resolve_cells.specs.declared.cells.Cell.{Cell}
use Rattle.mh_resolve_cells.specs.Precedence.{comparison_on}
use Rattle.mh_resolve_cells.specs.Cells.{Remains}
use Rattle.mh_resolve_cells.specs.States.{State, Raw, IsChosenOn, IsHoleOn, IsStreamConflict, IsKeptOn, HasDefault, IsFallback, IsCell}
use Rattle.mh_resolve_cells.specs.code.CellRows.{AreCells, IsDecidedOn, HasStreamConflictIn, HasReduction, FitsDefault, IsDefaultIn, no_cell}
use Rattle.mh_resolve_cells.specs.code.StateResults.{kept_of, IsFiller, filling, filled_with, fallback_for, AreLooksInRange, IsCellRow}

not_both : (s : State) (look : Look) (j p : ℕ) → IsChosenOn s look (Shift j) → Remains (comparison_on s.grammar look) (Raw s look) (Reduce p) → ⊥
not_both s look j p t r =
    let e = r.1 j t.0 in
    elim (t.1 p r.0) [
      | inl f ↦ (let no : Reduces ≡ Shifts = sym e ∙ f in cc)
      | inr f ↦ (let no : Reduces ≡ Unknown = sym e ∙ f in cc)
    ]

pub chosen_unique : (s : State) (look : Look) (a b : Action) → IsChosenOn s look a → IsChosenOn s look b → a ≡ b
chosen_unique s look (Shift i) (Shift j) t u = let same : i ≡ j = let e : Some i ≡ Some j = sym t.0 ∙ u.0 in cc in ap Shift same
chosen_unique s look (Shift i) (Reduce p) t u = absurd (not_both s look i p t u.0)
chosen_unique s look (Reduce p) (Shift i) t u = absurd (not_both s look i p u t.0)
chosen_unique s look (Reduce p) (Reduce q) t u = let x = t.1 q u.0 in let y = u.1 p t.0 in let same : p ≡ q = omega arith in ap Reduce same
chosen_unique s look Refuse b t u = absurd t
chosen_unique s look (Shift i) Refuse t u = absurd u
chosen_unique s look (Reduce p) Refuse t u = absurd u

pub chosen_remains : (s : State) (look : Look) (a : Action) → IsChosenOn s look a → Remains (comparison_on s.grammar look) (Raw s look) a
chosen_remains s look (Shift i) t = t
chosen_remains s look (Reduce p) t = t.0
chosen_remains s look Refuse t = t

pub chosen_is_raw : (s : State) (look : Look) (a : Action) → IsChosenOn s look a → Raw s look a
chosen_is_raw s look (Shift i) t = t.0
chosen_is_raw s look (Reduce p) t = t.0.0
chosen_is_raw s look Refuse t = t

takes_acts : (s : State) (look : Look) (a : Action) → IsChosenOn s look a → a ≡ Refuse → ⊥
takes_acts s look (Shift i) t e = cc
takes_acts s look (Reduce p) t e = cc
takes_acts s look Refuse t e = t

-- The cell has the chosen action.
holds_taken : (s : State) (look : Look) (cell : Cell) (a : Action) → IsDecidedOn s look cell → IsChosenOn s look a → cell.action ≡ a
holds_taken s look cell a d t =
    elim d.action [
      | inl u ↦ chosen_unique s look cell.action a u t
      | inr n ↦ absurd (n.1 a (chosen_remains s look a t))
    ]

taken_held : (s : State) (look : Look) (cell : Cell) (a : Action) → IsDecidedOn s look cell → cell.action ≡ a → (a ≡ Refuse → ⊥) → IsChosenOn s look a
taken_held s look cell a d e ne =
    elim d.action [
      | inl u ↦ rw e at u
      | inr n ↦ absurd (ne (sym e ∙ n.0))
    ]

-- The cell is that of some token.
record CellAt (s : State) (cell : Cell) : Type 0 where
  token : ℕ
  decided : IsDecidedOn s (Token token) cell

cell_at : (s : State) (n : ℕ) (cells : List Cell) (cell : Cell) → AreCells s n cells → Contains cells cell → CellAt s cell
cell_at s n cells cell a c =
    let len = a.len in
    let same : get_or cells c.0 no_cell ≡ cell = get_or_default cells c.0 no_cell cell c.1 ∙ c.2 in
    record { token = c.0; decided = rw same at (a.each c.0 (let lt = c.1 in omega arith)) }

abbrev the_cell : List Cell → ℕ → Cell
the_cell cells z = get_or cells z no_cell

contains_cell : (s : State) (n : ℕ) (cells : List Cell) → AreCells s n cells → (z : ℕ) → z < n → Contains cells (the_cell cells z)
contains_cell s n cells a z lt = Contains-get_or cells z no_cell (let len = a.len in omega arith)

pub stream_to : (s : State) (cells : List Cell) (last : Cell) → AreLooksInRange s → AreCells s (length s.grammar.tokens) cells → IsDecidedOn s End last → HasStreamConflictIn last.action cells → IsStreamConflict s
stream_to s cells last k a d i =
    let at = cell_at s (length s.grammar.tokens) cells i.cell a i.in_cells in
    record {
      last = last.action;
      token = at.token;
      other = i.cell.action;
      takes_last = taken_held s End last last.action d refl i.last_not_refuse;
      takes_other = taken_held s (Token at.token) i.cell i.cell.action at.decided refl i.otherwise.not_refuse;
      differ = λ e. i.otherwise.differs (sym e);
    }

pub stream_from : (s : State) (cells : List Cell) (last : Cell) → AreLooksInRange s → AreCells s (length s.grammar.tokens) cells → IsDecidedOn s End last → IsStreamConflict s → HasStreamConflictIn last.action cells
stream_from s cells last k a d c =
    let n = length s.grammar.tokens in
    let lt : c.token < n = k.known (Token c.token) c.other (chosen_is_raw s (Token c.token) c.other c.takes_other) in
    let cell = the_cell cells c.token in
    let other : cell.action ≡ c.other = holds_taken s (Token c.token) cell c.other (a.each c.token lt) c.takes_other in
    let end : last.action ≡ c.last = holds_taken s End last c.last d c.takes_last in
    record {
      last_not_refuse = λ e. takes_acts s End c.last c.takes_last (sym end ∙ e);
      cell = cell;
      in_cells = contains_cell s n cells a c.token lt;
      otherwise = record {
        not_refuse = λ e. takes_acts s (Token c.token) c.other c.takes_other (sym other ∙ e);
        differs = λ e. c.differ (sym end ∙ sym e ∙ other);
      };
    }

-- The action that the code keeps at the end of the stream is kept by the definition, and no other.
kept_to : (s : State) (last : Cell) (stream : Bool) (a : Action) → IsDecidedOn s End last → (IsStreamConflict s → stream ≡ true) → kept_of stream last.action ≡ a → (a ≡ Refuse → ⊥) → IsKeptOn s End a
kept_to s last true a d c e ne = absurd (ne (sym e))
kept_to s last false a d c e ne = (taken_held s End last a d e ne, λ x. let no : false ≡ true = c x in cc)

kept_from : (s : State) (last : Cell) (stream : Bool) (a : Action) → IsDecidedOn s End last → (stream ≡ true → IsStreamConflict s) → IsKeptOn s End a → kept_of stream last.action ≡ a
kept_from s last true a d c k = absurd (k.1 (c refl))
kept_from s last false a d c k = holds_taken s End last a d k.0

kept_cases : (s : State) (last : Cell) (stream : Bool) → IsDecidedOn s End last → (IsStreamConflict s → stream ≡ true) → IsKeptOn s End (kept_of stream last.action) ⊎ (kept_of stream last.action ≡ Refuse)
kept_cases s last true d c = inr refl
kept_cases s last false d c =
    elim d.action [
      | inl t ↦ inl (t, λ x. let no : false ≡ true = c x in cc)
      | inr n ↦ inr n.0
    ]

-- The cell of the end of the stream is no hole (a cell whose raw actions were all dropped by precedence).
no_end_hole : (s : State) → IsHoleOn s End → ⊥
no_end_hole s h = go h.action h.raw
  where
    go : (a : Action) → Raw s End a → ⊥
    go (Shift j) r = let e : None ≡ Some j = r in cc
    go (Reduce p) r = h.none_remains (Reduce p) (r, λ j f. let e : None ≡ Some j = f in cc)
    go Refuse r = r

raw_true : (P Q : Type 0) (b : Bool) → b ≡ false → MatchBool b P Q → Q
raw_true P Q true e m = absurd (let no : true ≡ false = e in cc)
raw_true P Q false e m = m

fit_no_hole : (s : State) (z p : ℕ) (cell : Cell) → IsDecidedOn s (Token z) cell → FitsDefault p cell → IsHoleOn s (Token z) → ⊥
fit_no_hole s z p cell d (inl e) h = h.none_remains (Reduce p) (chosen_remains s (Token z) (Reduce p) (taken_held s (Token z) cell (Reduce p) d e (λ f. cc)))
fit_no_hole s z p cell d (inr e) h = raw_true ((a : Action) × Raw s (Token z) a) ((a : Action) → Raw s (Token z) a → ⊥) cell.raw e.1 d.raw h.action h.raw

fit_action : (s : State) (z p : ℕ) (cell : Cell) (a : Action) → IsDecidedOn s (Token z) cell → FitsDefault p cell → IsChosenOn s (Token z) a → a ≡ Reduce p
fit_action s z p cell a d (inl e) t = sym (holds_taken s (Token z) cell a d t) ∙ e
fit_action s z p cell a d (inr e) t = absurd (takes_acts s (Token z) a t (sym (holds_taken s (Token z) cell a d t) ∙ e.0))

to_default : (s : State) (mode : Mode) (cells : List Cell) (last : Cell) (stream : Bool) → AreLooksInRange s → IsCellRow s cells last stream → (p : ℕ) → IsDefaultIn (kept_of stream last.action) mode cells p → HasDefault mode s p
to_default s mode cells last stream k r p d = record {
  look = some.0;
  some = some.1;
  all = all;
  no_hole = no_hole;
  canonical = λ e. elim d.choice [
    | inl f ↦ kept_to s last stream (Reduce p) r.last r.stream.1 f (λ x. cc)
    | inr m ↦ absurd (let no : Canonical ≡ Merged = sym e ∙ m.1 in cc)
  ];
}
  where
    n : ℕ
    n = length s.grammar.tokens

    some : (look : Look) × IsKeptOn s look (Reduce p)
    some =
        elim d.choice [
          | inl f ↦ (End, kept_to s last stream (Reduce p) r.last r.stream.1 f (λ x. cc))
          | inr m ↦ (let at = cell_at s n cells m.2.cell r.cells m.2.in_cells in (Token at.token, taken_held s (Token at.token) m.2.cell (Reduce p) at.decided m.2.reduces (λ x. cc)))
        ]

    fit_at : (z : ℕ) → z < n → FitsDefault p (the_cell cells z)
    fit_at z lt = All-contains (FitsDefault p) cells (the_cell cells z) d.all (contains_cell s n cells r.cells z lt)

    all : (l : Look) (a : Action) → IsKeptOn s l a → a ≡ Reduce p
    all (Token z) a t = let lt : z < n = k.known (Token z) a (chosen_is_raw s (Token z) a t) in fit_action s z p (the_cell cells z) a (r.cells.each z lt) (fit_at z lt) t
    all End a t =
        let e = kept_from s last stream a r.last r.stream.0 t in
        elim d.choice [ inl f ↦ sym e ∙ f | inr m ↦ absurd (takes_acts s End a t.0 (sym e ∙ m.0)) ]

    no_hole : (l : Look) → IsHoleOn s l → ⊥
    no_hole (Token z) h = let lt : z < n = k.known (Token z) h.action h.raw in fit_no_hole s z p (the_cell cells z) (r.cells.each z lt) (fit_at z lt) h
    no_hole End h = no_end_hole s h

-- In a state with a default, each cell reduces the default's production or has no raw action.
default_fit : (s : State) (mode : Mode) (z p : ℕ) (cell : Cell) → IsDecidedOn s (Token z) cell → HasDefault mode s p → FitsDefault p cell
default_fit s mode z p cell d h =
    elim d.action [
      | inl t ↦ inl (h.all (Token z) cell.action t)
      | inr n ↦ inr (n.0, go cell.raw refl d.raw n.1)
    ]
  where
    go : (b : Bool) → cell.raw ≡ b → MatchBool b ((a : Action) × Raw s (Token z) a) ((a : Action) → Raw s (Token z) a → ⊥) → ((a : Action) → Remains (comparison_on s.grammar (Token z)) (Raw s (Token z)) a → ⊥) → cell.raw ≡ false
    go true e m none = absurd (h.no_hole (Token z) (record { action = m.0; raw = m.1; none_remains = none }))
    go false e m none = e

from_default : (s : State) (mode : Mode) (cells : List Cell) (last : Cell) (stream : Bool) → AreLooksInRange s → IsCellRow s cells last stream → (p : ℕ) → HasDefault mode s p → IsDefaultIn (kept_of stream last.action) mode cells p
from_default s mode cells last stream k r p h = record {
  all = λ z d lt. (
      let same = get_or_default cells z d no_cell lt in
      let len = r.cells.len in
      rw same (default_fit s mode z p (the_cell cells z) (r.cells.each z (omega arith)) h));
  choice = go h.look h.some mode refl;
}
  where
    n : ℕ
    n = length s.grammar.tokens

    at_end : IsKeptOn s End (Reduce p) → kept_of stream last.action ≡ Reduce p
    at_end t = kept_from s last stream (Reduce p) r.last r.stream.0 t

    go : (l : Look) → IsKeptOn s l (Reduce p) → (m : Mode) → mode ≡ m → (kept_of stream last.action ≡ Reduce p) ⊎ ((kept_of stream last.action ≡ Refuse) × (mode ≡ Merged) × HasReduction cells p)
    go End t m e = inl (at_end t)
    go (Token z) t Canonical e = inl (at_end (h.canonical e))
    go (Token z) t Merged e =
        let lt : z < n = k.known (Token z) (Reduce p) (chosen_is_raw s (Token z) (Reduce p) t) in
        elim (kept_cases s last stream r.last r.stream.1) [
          | inl u ↦ inl (h.all End _ u)
          | inr f ↦ inr (
            f,
            e,
            record {
              cell = the_cell cells z;
              in_cells = contains_cell s n cells r.cells z lt;
              reduces = holds_taken s (Token z) (the_cell cells z) (Reduce p) (r.cells.each z lt) t;
            },
          )
        ]

-- The default that the code finds.
abbrev pub IsFound : Mode → State → Option ℕ → Type 0
IsFound mode s None = (p : ℕ) → HasDefault mode s p → ⊥
IsFound mode s (Some p) = HasDefault mode s p

pub default_found : (s : State) (mode : Mode) (cells : List Cell) (last : Cell) (stream : Bool) → AreLooksInRange s → IsCellRow s cells last stream → (default : Option ℕ)
    → MatchOption default ((p : ℕ) → IsDefaultIn (kept_of stream last.action) mode cells p → ⊥) (IsDefaultIn (kept_of stream last.action) mode cells) → IsFound mode s default
default_found s mode cells last stream k r None m = λ p h. m p (from_default s mode cells last stream k r p h)
default_found s mode cells last stream k r (Some p) m = to_default s mode cells last stream k r p m

pub fallback_is : (s : State) (mode : Mode) (default : Option ℕ) → IsFound mode s default → IsFallback mode s (fallback_for (length s.grammar.starts) default)
fallback_is s mode None f = f
fallback_is s mode (Some p) f =
    elim (cases_lt p (length s.grammar.starts)) [
      | inl lt ↦ rw (lt-ltb p (length s.grammar.starts) lt) (p, lt, f)
      | inr ge ↦ rw (le-ltb p (length s.grammar.starts) ge) (ge, f)
    ]

pub cell_is : (s : State) (mode : Mode) (z : ℕ) (cell : Cell) (default filler : Option ℕ) → IsDecidedOn s (Token z) cell → IsFound mode s default → IsFiller s default filler → IsCell mode s z (filled_with filler cell)
cell_is s mode z cell default filler d f i = go cell.raw d.raw
  where
    R : Action → Type 0
    R = Raw s (Token z)

    empty : (default filler : Option ℕ) → IsFound mode s default → IsFiller s default filler → ((a : Action) → R a → ⊥) → IsCell mode s z (filling filler)
    empty (Some p) filler f i none = rw i (inr (refl, λ b h. elim h [ inl t ↦ none b (chosen_is_raw s (Token z) b t) | inr m ↦ m.1 p f ]))
    empty None None f i none = inr (refl, λ b h. elim h [ inl t ↦ none b (chosen_is_raw s (Token z) b t) | inr m ↦ i m.2 m.4 ])
    empty None (Some p) f i none = inl (inr (none, f, p, refl, i))

    go : (b : Bool) → MatchBool b ((a : Action) × R a) ((a : Action) → R a → ⊥) → IsCell mode s z (if b then cell.action else filling filler)
    go true m =
        elim d.action [
          | inl t ↦ inl (inl t)
          | inr n ↦ inr (n.0, λ b h. elim h [ inl t ↦ n.1 b (chosen_remains s (Token z) b t) | inr x ↦ x.0 m.0 m.1 ])
        ]
    go false m = empty default filler f i m
