-- Lemmas on printed lexemes as bytes, and as the lexemes of a file.
use Rattle.std.proofs.Common.{◌≡◌, ℕ, suc, ◌+◌, ◌<◌, List, [], ◌∷◌, ◌++◌, length, map, get_or, drop, refl, ap, sym, ◌∙◌, append_assoc, add-one, drop-cons}
use Rattle.std.specs.List.{flat_map}
use Rattle.mh_lex.specs.LexemeTexts.{laid_out}
use Rattle.mh_rules.specs.declared.modules.Actual.{Actual, out-Actual}
use Rattle.mh_rules.specs.declared.modules.Actual.TheFolds.{fold_out-Actual}
use Rattle.mh_reader_parser.specs.code.Pieces.{Piece, ref_piece, bracketed, actual_pieces}
use Rattle.mh_reader.specs.code.Printed.{Writes}

pub laid_out_append : (ts us : List Piece) → laid_out (ts ++ us) ≡ laid_out ts ++ laid_out us
laid_out_append [] us = refl
laid_out_append (t ∷ ts) us = ap (λ k. t.1 ++ 32 ∷ k) (laid_out_append ts us) ∙ sym (append_assoc t.1 (32 ∷ laid_out ts) (laid_out us))

-- Writing two lists of lexemes in sequence writes the appended list.
pub Writes-append : (ts us : List Piece) (old mid new : List ℕ) → Writes old mid ts → Writes mid new us → Writes old new (ts ++ us)
Writes-append ts us old mid new e f = f ∙ ap (λ k. k ++ laid_out us) e ∙ append_assoc old (laid_out ts) (laid_out us) ∙ ap (λ k. old ++ k) (sym (laid_out_append ts us))

-- The invariant of a loop that writes a list still holds after one more item is written.
pub Writes-one_more : {X : Type 0} (whole : List X → List Piece) (pieces : X → List Piece) (step : (x : X) (xs : List X) → whole (x ∷ xs) ≡ pieces x ++ whole xs) →
    (xs : List X) (i : ℕ) (x : X) (all now next : List ℕ) → i < length xs → x ≡ get_or xs i x →
    now ++ laid_out (whole (drop i xs)) ≡ all → Writes now next (pieces x) → next ++ laid_out (whole (drop (i + 1) xs)) ≡ all
Writes-one_more whole pieces step xs i x all now next h is e w =
    let split : drop i xs ≡ x ∷ drop (i + 1) xs = rw add-one (drop-cons xs i x h ∙ ap (λ k. k ∷ drop (suc i) xs) (sym is)) in
    let parts : whole (drop i xs) ≡ pieces x ++ whole (drop (i + 1) xs) = ap whole split ∙ step x (drop (i + 1) xs) in
    ap (λ k. k ++ laid_out (whole (drop (i + 1) xs))) w ∙ append_assoc now (laid_out (pieces x)) (laid_out (whole (drop (i + 1) xs))) ∙
    ap (λ k. now ++ k) (sym (laid_out_append (pieces x) (whole (drop (i + 1) xs)))) ∙ ap (λ k. now ++ laid_out k) (sym parts) ∙ e

pub Writes-next : {X : Type 0} (pieces : X → List Piece) (xs : List X) (i : ℕ) (x : X) (all now next : List ℕ) → i < length xs → x ≡ get_or xs i x →
    now ++ laid_out (flat_map pieces (drop i xs)) ≡ all → Writes now next (pieces x) → next ++ laid_out (flat_map pieces (drop (i + 1) xs)) ≡ all
Writes-next pieces = Writes-one_more (flat_map pieces) pieces (λ x xs. refl)

-- The printed lexemes of an actual are its head and its arguments.
pub actual_split : (a : Actual) → actual_pieces a ≡ ref_piece (out-Actual a).head ∷ bracketed (map actual_pieces (out-Actual a).args)
actual_split a = fold_out-Actual (List Piece) (λ l. ref_piece l.head ∷ bracketed l.args) a
