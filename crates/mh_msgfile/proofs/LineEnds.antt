-- Lemmas on lines that an LF ends, and on the CR at the end of a line.
use Rattle.std.proofs.Common.{◌≡◌, ◌≢◌, ◌<◌, ◌≤◌, ◌-◌, ◌==◌, ◌&&◌, ℕ, suc, Bool, true, false, cond, List, [], ◌∷◌, ◌++◌, length, take, sym, ◌∙◌, ap, subst, arith, nat_lt, append_assoc, get_or-take, slice_index}
use Rattle.std.specs.List.{AllByRecursion, flat_map}
use Rattle.std.proofs.lemmas.Bool.{and_parts, eqb-true, cond-false}
use Rattle.std.proofs.lemmas.List.{length-take-le, take_all}
use Rattle.std.proofs.Math.Seq.{take-suc}
use Rattle.std.proofs.lemmas.Bool.Decides.{nat_tests}
use Rattle.bstr.specs.Text.{no_cr}
use Rattle.mh_grammar.specs.Text.{Text}
use Rattle.mh_msgfile.specs.Lines.{HasNoLineFeed, AreLines, NoLine, LastLine, EndedLine}

abbrev pub with_ends : List Text → Text
with_ends lines = flat_map (λ line. line ++ 10 ∷ []) lines

-- A line that is unchanged when it is written with an LF and read again.
abbrev pub IsReadUnchanged : Text → Type 0
IsReadUnchanged line = HasNoLineFeed line × (no_cr line ≡ line)

cut_end : (c : Bool) (n : ℕ) (line : Text) → HasNoLineFeed line → n ≤ length line → HasNoLineFeed (cond c (take n line) line)
cut_end true n line none le = λ k d lt. subst (λ (b : ℕ). b ≢ 10) (sym (get_or-take n line k d (omega (arith, lt, length-take-le n line le)))) (none k d (omega (arith, lt, length-take-le n line le)))
cut_end false n line none le = none

pub lines_end : (bytes : Text) (lines : List Text) → AreLines bytes lines → AllByRecursion HasNoLineFeed lines
lines_end bytes lines NoLine = tt
lines_end bytes lines (LastLine line none some) = (none, tt)
lines_end bytes lines (EndedLine line rest others none are) = (cut_end (nat_lt 0 (length line) && slice_index line (length line - 1) == 13) (length line - 1) line none (omega arith), lines_end rest others are)

pub lines_of_with_ends : (lines : List Text) → AllByRecursion IsReadUnchanged lines → AreLines (with_ends lines) lines
lines_of_with_ends [] all = NoLine
lines_of_with_ends (line ∷ lines) all =
    let on : AreLines (line ++ 10 ∷ with_ends lines) (no_cr line ∷ lines) = EndedLine line (with_ends lines) lines all.0.0 (lines_of_with_ends lines all.1) in
    let cut : AreLines (line ++ 10 ∷ with_ends lines) (line ∷ lines) = subst (λ (t : Text). AreLines (line ++ 10 ∷ with_ends lines) (t ∷ lines)) all.0.1 on in
    subst (λ (bytes : Text). AreLines bytes (line ∷ lines)) (sym (append_assoc line (10 ∷ []) (with_ends lines))) cut

-- A line that has no CR at its end loses no byte.
pub no_cr-unchanged : (line : Text) (c : Bool) → (nat_lt 0 (length line) && slice_index line (length line - 1) == 13) ≡ c → ((front : Text) → line ≡ front ++ 13 ∷ [] → ⊥) → no_cr line ≡ line
no_cr-unchanged line false is free = cond-false _ _ _ is
no_cr-unchanged line true is free = absurd (free (take (length line - 1) line) last_cr)
  where
    last_cr : line ≡ take (length line - 1) line ++ 13 ∷ []
    last_cr =
        let some : nat_lt 0 (length line) ≡ true = (and_parts (nat_lt 0 (length line)) (slice_index line (length line - 1) == 13) is).0 in
        let byte : slice_index line (length line - 1) ≡ 13 = eqb-true _ 13 (and_parts (nat_lt 0 (length line)) (slice_index line (length line - 1) == 13) is).1 in
        let pos : 0 < length line = grind (arith, nat_tests) in
        let whole : suc (length line - 1) ≡ length line = omega arith in
        sym (take_all (length line) line (omega arith)) ∙ ap (λ (k : ℕ). take k line) (sym whole) ∙ take-suc line (length line - 1) 0 (omega arith) ∙ ap (λ (x : ℕ). take (length line - 1) line ++ x ∷ []) byte
