-- Lemmas on the list of a state's conflicts, and its order.
use Rattle.std.proofs.Common.{◌≡◌, ℕ, zero, suc, ◌<◌, ◌+◌, ◌++◌, List, [], ◌∷◌, length, get_or, Option, Some, None, Bool, true, false, refl, ap, sym, ◌∙◌, arith, inl, inr}
use Rattle.std.specs.Prelude.{IsTrue}
use Rattle.std.specs.List.{Contains, slice_get}
use Rattle.std.proofs.lemmas.List.Elements.{Contains-append_cases, Contains-append_left, Contains-append_right}
use Rattle.std.proofs.lemmas.Option.{slice_get-get_or, slice_get_within, get_or_from_slice_get}
use Rattle.mh_grammar.specs.declared.types.Look.{Look}
use Rattle.mh_grammar.specs.declared.types.Look.TheVariants.{Token, End}
use Rattle.mh_tables_core.specs.declared.parts.Action.{Action}
use Rattle.mh_tables_core.specs.declared.parts.Action.TheVariants.{Shift, Reduce}
use Rattle.mh_grammar.specs.Edges.{IsRising}
use Rattle.mh_resolve_cells.specs.declared.levels.Comparison.{Comparison}
use Rattle.mh_resolve_cells.specs.declared.kinds.ConflictKind.{ConflictKind}
use Rattle.mh_resolve_cells.specs.declared.kinds.ConflictKind.TheVariants.{Solved, Unsolved, Stream}
use Rattle.mh_resolve_cells.specs.declared.conflicts.Conflict.{Conflict}
use Rattle.mh_resolve_cells.specs.declared.cells.Cell.{Cell}
use Rattle.mh_resolve_cells.specs.Precedence.{comparison_on}
use Rattle.mh_resolve_cells.specs.Cells.{IsConflict, IsUnsolved}
use Rattle.mh_resolve_cells.specs.States.{State, Raw, HasConflictOn, IsStreamConflict}
use Rattle.mh_resolve_cells.specs.code.Tallies.{IsKind}
use Rattle.mh_resolve_cells.specs.code.CellRows.{no_cell, IsDecidedOn}
use Rattle.mh_resolve_cells.specs.code.StateResults.{IsCellRow}
use Rattle.mh_resolve_cells.specs.code.ConflictList.{found_on, stream_kind, token_conflicts, row_conflicts}
use Rattle.mh_resolve_cells.specs.Conflicts.{IsConflictBefore}
use Rattle.mh_grammar.proofs.Lists.{at_contains, contains_at, rising-append}

-- The conflict was found on this look.
pub record IsFoundOn (s : ℕ) (on : Look) (found : Option ConflictKind) (c : Conflict) : Type 0 where
  pub state : c.state ≡ s
  pub look : c.look ≡ on
  pub kind : found ≡ Some c.kind

found_to : (s : ℕ) (look : Look) (kind : Option ConflictKind) (c : Conflict) → Contains (found_on s look kind) c → IsFoundOn s look kind c
found_to s look None c h = absurd (omega (arith, h.1))
found_to s look (Some k) c h = let at = at_contains (record { state = s; look = look; kind = k } ∷ []) c h in go at.0 at.1
  where
    go : (n : ℕ) → slice_get (record { state = s; look = look; kind = k } ∷ []) n ≡ Some c → IsFoundOn s look (Some k) c
    go zero e = let same : c ≡ record { state = s; look = look; kind = k } = cc in record { state = ap (λ (x : Conflict). x.state) same; look = ap (λ (x : Conflict). x.look) same; kind = ap (λ (x : Conflict). Some x.kind) (sym same) }
    go (suc n) e = cc

found_from : (s : ℕ) (look : Look) (kind : Option ConflictKind) (c : Conflict) → IsFoundOn s look kind c → Contains (found_on s look kind) c
found_from s look None c h = absurd (let e = h.kind in cc)
found_from s look (Some k) c h =
    let a = h.state in
    let b = h.look in
    let e : k ≡ c.kind = let f = h.kind in cc in
    let same : record { state = s; look = look; kind = k } ≡ c = λ i. record { state = sym a i; look = sym b i; kind = e i } in
    contains_at (record { state = s; look = look; kind = k } ∷ []) zero c (ap Some same)

found_rising : (s : ℕ) (look : Look) (kind : Option ConflictKind) → IsRising IsConflictBefore (found_on s look kind)
found_rising s look None = tt
found_rising s look (Some k) = (tt, tt)

-- The conflict was found in a cell of the tokens from z on.
pub record IsFoundIn (s z : ℕ) (cells : List Cell) (c : Conflict) : Type 0 where
  pub place : ℕ
  pub cell : Cell
  pub at : slice_get cells place ≡ Some cell
  pub found : IsFoundOn s (Token (z + place)) cell.kind c

moved : (s z place : ℕ) (kind : Option ConflictKind) (c : Conflict) (w : ℕ) → z ≡ w → IsFoundOn s (Token z) kind c → IsFoundOn s (Token w) kind c
moved s z place kind c w e f = record { state = f.state; look = f.look ∙ ap Token e; kind = f.kind }

tokens_to : (s z : ℕ) (cells : List Cell) (c : Conflict) → Contains (token_conflicts s z cells) c → IsFoundIn s z cells c
tokens_to s z [] c h = absurd (omega (arith, h.1))
tokens_to s z (cell ∷ cells) c h =
    elim (Contains-append_cases (found_on s (Token z) cell.kind) (token_conflicts s (z + 1) cells) c h) [
      | inl f ↦ record { place = 0; cell = cell; at = refl; found = moved s z 0 cell.kind c (z + 0) (omega arith) (found_to s (Token z) cell.kind c f) }
      | inr r ↦ (let i = tokens_to s (z + 1) cells c r in record { place = suc i.place; cell = i.cell; at = i.at; found = moved s (z + 1 + i.place) 0 i.cell.kind c (z + suc i.place) (omega arith) i.found })
    ]

tokens_from : (s z : ℕ) (cells : List Cell) (c : Conflict) (place : ℕ) (cell : Cell) → slice_get cells place ≡ Some cell → IsFoundOn s (Token (z + place)) cell.kind c → Contains (token_conflicts s z cells) c
tokens_from s z [] c place cell at f = cc
tokens_from s z (x ∷ cells) c zero cell at f =
    let same : x ≡ cell = cc in
    Contains-append_left (found_on s (Token z) x.kind) (token_conflicts s (z + 1) cells) c (found_from s (Token z) x.kind c (rw same (moved s (z + 0) 0 cell.kind c z (omega arith) f)))
tokens_from s z (x ∷ cells) c (suc place) cell at f =
    Contains-append_right (found_on s (Token z) x.kind) (token_conflicts s (z + 1) cells) c (tokens_from s (z + 1) cells c place cell at (moved s (z + suc place) 0 cell.kind c (z + 1 + place) (omega arith) f))

below : (s : ℕ) (a b : ℕ) (c d : Conflict) → c.state ≡ s → d.state ≡ s → c.look ≡ Token a → d.look ≡ Token b → a < b → IsConflictBefore c d
below s a b c d e f g h lt = inr (e ∙ sym f, rw (g, h) (inl lt))

tokens_rising : (s z : ℕ) (cells : List Cell) → IsRising IsConflictBefore (token_conflicts s z cells)
tokens_rising s z [] = tt
tokens_rising s z (cell ∷ cells) =
    rising-append IsConflictBefore (found_on s (Token z) cell.kind) (token_conflicts s (z + 1) cells) (found_rising s (Token z) cell.kind) (tokens_rising s (z + 1) cells)
    (λ c d h k.
    let f = found_to s (Token z) cell.kind c h in
    let i = tokens_to s (z + 1) cells d k in
    below s z (z + 1 + i.place) c d f.state i.found.state f.look i.found.look (omega arith))

-- A conflict that levels do not solve is a conflict.
pub unsolved_conflict : (by : ℕ → Comparison) (R : Action → Type 0) → IsUnsolved by R → IsConflict R
unsolved_conflict by R (inl u) = record { one = Shift u.target; other = Reduce u.production; raw_one = u.shift; raw_other = u.reduce; differ = λ e. cc }
unsolved_conflict by R (inr t) = record { one = Reduce t.one; other = Reduce t.other; raw_one = t.one_remains.0; raw_other = t.other_remains.0; differ = λ e. let same : t.one ≡ t.other = cc in let b = t.below in omega arith }

-- If a kind of conflict is found on a look, the look has a conflict of this kind. If the look has a conflict of a kind
-- other than `Stream`, this kind is found.
kind_to : (s : State) (look : Look) (found : Option ConflictKind) (kind : ConflictKind) → IsKind (comparison_on s.grammar look) (Raw s look) found → found ≡ Some kind → HasConflictOn s look kind
kind_to s look None kind h e = cc
kind_to s look (Some Solved) kind h e = let same : Solved ≡ kind = cc in rw (← same) h
kind_to s look (Some Unsolved) kind h e = let same : Unsolved ≡ kind = cc in rw (← same) h
kind_to s look (Some Stream) kind h e = absurd h

kind_from : (s : State) (look : Look) (found : Option ConflictKind) (kind : ConflictKind) → IsKind (comparison_on s.grammar look) (Raw s look) found → HasConflictOn s look kind → (kind ≡ Stream → ⊥) → found ≡ Some kind
kind_from s look None Solved h c ne = absurd (h c.0)
kind_from s look None Unsolved h c ne = absurd (h (unsolved_conflict _ _ c))
kind_from s look None Stream h c ne = absurd (ne refl)
kind_from s look (Some Solved) Solved h c ne = refl
kind_from s look (Some Solved) Unsolved h c ne = absurd (h.1 c)
kind_from s look (Some Solved) Stream h c ne = absurd (ne refl)
kind_from s look (Some Unsolved) Solved h c ne = absurd (c.1 h)
kind_from s look (Some Unsolved) Unsolved h c ne = refl
kind_from s look (Some Unsolved) Stream h c ne = absurd (ne refl)
kind_from s look (Some Stream) kind h c ne = absurd h

token_is : (s : State) (row : List Cell) (last : Cell) (stream : Bool) → IsCellRow s row last stream → (place : ℕ) (cell : Cell) → slice_get row place ≡ Some cell → IsDecidedOn s (Token place) cell
token_is s row last stream r place cell at =
    let len = r.cells.len in
    let lt = slice_get_within row place cell at in
    let same : get_or row place no_cell ≡ cell = get_or_from_slice_get row place cell no_cell at in
    rw same at (r.cells.each place (omega arith))

pub row_sound : (s : State) (n : ℕ) (row : List Cell) (last : Cell) (stream : Bool) → IsCellRow s row last stream → (c : Conflict) → Contains (row_conflicts n row last stream) c → (c.state ≡ n) × HasConflictOn s c.look c.kind
row_sound s n row last stream r c h =
    elim (Contains-append_cases (token_conflicts n 0 row) (found_on n End last.kind ++ found_on n End (stream_kind stream)) c h) [
      | inl t ↦ (
          let i = tokens_to n 0 row c t in
          let look : c.look ≡ Token i.place = i.found.look ∙ ap Token (let e : 0 + i.place ≡ i.place = omega arith in e) in
          (i.found.state, on look (kind_to s (Token i.place) i.cell.kind c.kind (token_is s row last stream r i.place i.cell i.at).kind i.found.kind)))
      | inr t ↦ elim (Contains-append_cases (found_on n End last.kind) (found_on n End (stream_kind stream)) c t) [
        | inl f ↦ (let i = found_to n End last.kind c f in (i.state, on i.look (kind_to s End last.kind c.kind r.last.kind i.kind)))
        | inr f ↦ (let i = found_to n End (stream_kind stream) c f in (i.state, on i.look (of_stream stream c.kind i.kind r.stream.0)))
      ]
    ]
  where
    on : {look : Look} → c.look ≡ look → HasConflictOn s look c.kind → HasConflictOn s c.look c.kind
    on e x = rw e x

    of_stream : (b : Bool) (kind : ConflictKind) → stream_kind b ≡ Some kind → (IsTrue b → IsStreamConflict s) → HasConflictOn s End kind
    of_stream true kind e k = let same : Stream ≡ kind = cc in rw (← same) (refl, k refl)
    of_stream false kind e k = cc

pub row_complete : (s : State) (n : ℕ) (row : List Cell) (last : Cell) (stream : Bool) → IsCellRow s row last stream → (c : Conflict) → c.state ≡ n → HasConflictOn s c.look c.kind → Contains (row_conflicts n row last stream) c
row_complete s n row last stream r c e h = go c.look refl (at_look refl h)
  where
    rest : List Conflict
    rest = found_on n End last.kind ++ found_on n End (stream_kind stream)

    at_look : {look : Look} → c.look ≡ look → HasConflictOn s c.look c.kind → HasConflictOn s look c.kind
    at_look f x = rw (← f) x

    in_row : (z : ℕ) → (kind : ConflictKind) → HasConflictOn s (Token z) kind → z < length row
    in_row z Solved x = let len = r.cells.len in let k = r.known.known (Token z) x.0.one x.0.raw_one in omega arith
    in_row z Unsolved x = let len = r.cells.len in let y = unsolved_conflict _ _ x in let k = r.known.known (Token z) y.one y.raw_one in omega arith
    in_row z Stream x = let no : Token z ≡ End = x.0 in cc

    no_stream : (z : ℕ) (kind : ConflictKind) → HasConflictOn s (Token z) kind → kind ≡ Stream → ⊥
    no_stream z Solved x f = cc
    no_stream z Unsolved x f = cc
    no_stream z Stream x f = let no : Token z ≡ End = x.0 in cc

    end : (kind : ConflictKind) → c.kind ≡ kind → HasConflictOn s End kind → c.look ≡ End → Contains rest c
    end Solved f x l = Contains-append_left (found_on n End last.kind) (found_on n End (stream_kind stream)) c (found_from n End last.kind c (record { state = e; look = l; kind = kind_from s End last.kind Solved r.last.kind x (λ y. cc) ∙ ap Some (sym f) }))
    end Unsolved f x l = Contains-append_left (found_on n End last.kind) (found_on n End (stream_kind stream)) c (found_from n End last.kind c (record { state = e; look = l; kind = kind_from s End last.kind Unsolved r.last.kind x (λ y. cc) ∙ ap Some (sym f) }))
    end Stream f x l = let t : stream ≡ true = r.stream.1 x.1 in Contains-append_right (found_on n End last.kind) (found_on n End (stream_kind stream)) c (found_from n End (stream_kind stream) c (record { state = e; look = l; kind = ap stream_kind t ∙ ap Some (sym f) }))

    go : (look : Look) → c.look ≡ look → HasConflictOn s look c.kind → Contains (row_conflicts n row last stream) c
    go (Token z) f x =
        let lt = in_row z c.kind x in
        let at : slice_get row z ≡ Some (get_or row z no_cell) = slice_get-get_or row z no_cell lt in
        let decided = token_is s row last stream r z (get_or row z no_cell) at in
        let zero_plus : z ≡ 0 + z = omega arith in
        Contains-append_left (token_conflicts n 0 row) rest c (tokens_from n 0 row c z (get_or row z no_cell) at (record { state = e; look = f ∙ ap Token zero_plus; kind = kind_from s (Token z) (get_or row z no_cell).kind c.kind decided.kind x (no_stream z c.kind x) }))
    go End f x = Contains-append_right (token_conflicts n 0 row) rest c (end c.kind refl x f)

pub row_rising : (s : State) (n : ℕ) (row : List Cell) (last : Cell) (stream : Bool) → IsCellRow s row last stream → IsRising IsConflictBefore (row_conflicts n row last stream)
row_rising s n row last stream r =
    rising-append IsConflictBefore (token_conflicts n 0 row) (found_on n End last.kind ++ found_on n End (stream_kind stream)) (tokens_rising n 0 row)
    (rising-append IsConflictBefore (found_on n End last.kind) (found_on n End (stream_kind stream)) (found_rising n End last.kind) (found_rising n End (stream_kind stream))
    (λ c d h k.
    let f = found_to n End last.kind c h in
    let g = found_to n End (stream_kind stream) d k in
    inr (f.state ∙ sym g.state, inr (f.look ∙ sym g.look, ((λ x. not_stream last.kind c.kind r.last.kind f.kind x), of_stream stream d.kind g.kind)))))
    (λ c d h k.
    let i = tokens_to n 0 row c h in
    let g = at_end d k in
    let l = i.found.look in
    let m = g.1 in
    inr (i.found.state ∙ sym g.0, rw (l, m) (inl tt)))
  where
    not_stream : (found : Option ConflictKind) (kind : ConflictKind) → IsKind (comparison_on s.grammar End) (Raw s End) found → found ≡ Some kind → kind ≡ Stream → ⊥
    not_stream None kind h e f = cc
    not_stream (Some Solved) kind h e f = cc
    not_stream (Some Unsolved) kind h e f = cc
    not_stream (Some Stream) kind h e f = h

    of_stream : (b : Bool) (kind : ConflictKind) → stream_kind b ≡ Some kind → kind ≡ Stream
    of_stream true kind e = cc
    of_stream false kind e = cc

    at_end : (d : Conflict) → Contains (found_on n End last.kind ++ found_on n End (stream_kind stream)) d → (d.state ≡ n) × (d.look ≡ End)
    at_end d k = elim (Contains-append_cases (found_on n End last.kind) (found_on n End (stream_kind stream)) d k) [
      | inl f ↦ (let i = found_to n End last.kind d f in (i.state, i.look))
      | inr f ↦ (let i = found_to n End (stream_kind stream) d f in (i.state, i.look))
    ]
