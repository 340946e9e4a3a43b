-- Lemmas on the first states whose edges are right, and on edges that are built one after another.
use Rattle.std.proofs.Common.{◌≡◌, ◌<◌, ◌≤◌, ◌+◌, ◌++◌, ℕ, suc, List, [], ◌∷◌, length, drop, drop_of_length-le, get_or, refl, sym, ap, ◌∙◌, subst, arith, append_assoc, append-nil}
use Rattle.std.specs.Prelude.{slice_index_or}
use Rattle.mh_grammar.specs.declared.types.Grammar.{Grammar}
use Rattle.mh_tabfile_form.specs.declared.types.RawEdge.{RawEdge}
use Rattle.mh_items.specs.code.AllMoves.{Move}
use Rattle.mh_validate_valid.proofs.CellLines.{row_from}
use Rattle.mh_validate_valid.specs.Valid.{HasEdges}
use Rattle.mh_grammar.specs.declared.edges.Edge.{Edge}
use Rattle.mh_items_kernels.specs.KernelTypes.{Kernel}
use Rattle.mh_tabfile_form.specs.declared.types.RawTable.{RawTable}
use Rattle.mh_validate.specs.code.MatchedEdges.{edges_on}
use Rattle.mh_validate.specs.code.FirstRows.{AreFirstRows}

-- Lists that end at the first state that fails.

pub rows_stop : (g : Grammar) (raw : RawTable) (ks : List Kernel) (rows : List (List Edge)) (n : ℕ) → length rows ≡ n → n < length raw.states → ((s : ℕ) → s < n → HasEdges g raw ks s (slice_index_or rows s [])) → ((es : List Edge) → HasEdges g raw ks n es → ⊥) → AreFirstRows g raw ks rows
rows_stop g raw ks rows n len lt each none = record { within = omega (arith, len, lt); each = λ s l. each s (omega (arith, len, l)); none = λ _ es h. none es (subst (λ m. HasEdges g raw ks m es) len h) }

pub rows_end : (g : Grammar) (raw : RawTable) (ks : List Kernel) (rows : List (List Edge)) (n : ℕ) → length rows ≡ n → n ≡ length raw.states → ((s : ℕ) → s < n → HasEdges g raw ks s (slice_index_or rows s [])) → AreFirstRows g raw ks rows
rows_end g raw ks rows n len e each = record { within = omega (arith, len, e); each = λ s l. each s (omega (arith, len, l)); none = λ short. absurd (omega (arith, len, e, short)) }

-- Edges that are built one after another.

pub row_step : (ms : List Move) (rs : List RawEdge) (row new : List Edge) (at : ℕ) (m : Move) (r : RawEdge) → at < length ms → at < length rs → m ≡ get_or ms at m → r ≡ get_or rs at r → row ++ edges_on (drop at ms) (drop at rs) ≡ edges_on ms rs
    → new ≡ row ++ record { symbol = (get_or ms at m).symbol; target = (get_or rs at r).target } ∷ [] → new ++ edges_on (drop (at + 1) ms) (drop (at + 1) rs) ≡ edges_on ms rs
row_step ms rs row new at m r lm lr em er so e =
    let here : edges_on (drop at ms) (drop at rs) ≡ record { symbol = m.symbol; target = r.target } ∷ edges_on (drop (suc at) ms) (drop (suc at) rs) = rw (row_from ms at m lm em, row_from rs at r lr er) refl in
    let next : suc at ≡ at + 1 = omega arith in
    let both : record { symbol = m.symbol; target = r.target } ≡ record { symbol = (get_or ms at m).symbol; target = (get_or rs at r).target } =
    ap (λ (x : Move). record { symbol = x.symbol; target = r.target }) em ∙ ap (λ (x : RawEdge). record { symbol = (get_or ms at m).symbol; target = x.target }) er in
    let e2 : new ≡ row ++ record { symbol = m.symbol; target = r.target } ∷ [] = e ∙ ap (λ (x : Edge). row ++ x ∷ []) (sym both) in
    subst (λ n. new ++ edges_on (drop n ms) (drop n rs) ≡ edges_on ms rs) next
    (ap (λ (k : List Edge). k ++ edges_on (drop (suc at) ms) (drop (suc at) rs)) e2 ∙ append_assoc row ((record { symbol = m.symbol; target = r.target }) ∷ []) (edges_on (drop (suc at) ms) (drop (suc at) rs)) ∙ ap (λ (k : List Edge). row ++ k) (sym here) ∙ so)

pub row_done : (ms : List Move) (rs : List RawEdge) (row : List Edge) (at : ℕ) → length ms ≤ at → row ++ edges_on (drop at ms) (drop at rs) ≡ edges_on ms rs → row ≡ edges_on ms rs
row_done ms rs row at past so =
    let none : drop at ms ≡ [] = drop_of_length-le ms past in
    sym (append-nil row) ∙ ap (λ (k : List Move). row ++ edges_on k (drop at rs)) (sym none) ∙ so
