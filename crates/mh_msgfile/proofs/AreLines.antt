-- Proves that bytes have exactly one list of lines, the one that `bstr` gives.
use Rattle.std.proofs.Common.{◌≡◌, ◌≢◌, ◌+◌, ◌-◌, ◌<◌, ◌≤◌, ◌==◌, ◌&&◌, ℕ, zero, suc, true, false, nat_lt, List, [], ◌∷◌, ◌++◌, length, map, take, slice_index, refl, sym, ap, subst, ◌∙◌, arith, inl, inr, append_assoc, length-append}
use Rattle.std.proofs.lemmas.Bool.{cases_eq, cond-true, cond-false, eq-eqb, ne_eqb}
use Rattle.std.proofs.lemmas.Bool.Decides.{nat_tests}
use Rattle.std.proofs.lemmas.List.{get_or_append_left}
use Rattle.std.proofs.Math.Seq.{get_or-append_seam, take-append_seam}
use Rattle.bstr.specs.Text.{lines_of, without_terminator, no_cr}
use Rattle.bstr.proofs.lemmas.LengthLemmas.{length-lines}
use Rattle.bstr.proofs.lemmas.LineLemmas.{lines-nil, lines-append, lines-one}
use Rattle.mh_grammar.specs.Text.{Text}
use Rattle.mh_msgfile.specs.Lines.{HasNoLineFeed, AreLines, NoLine, LastLine, EndedLine}

-- ---- A line that an LF ends.

one_longer : (line : Text) → length (line ++ 10 ∷ []) ≡ length line + 1
one_longer line = length-append line (10 ∷ [])

before_end : (line : Text) → length (line ++ 10 ∷ []) - 1 ≡ length line
before_end line = omega (arith, one_longer line)

ends : (line : Text) → slice_index (line ++ 10 ∷ []) (length (line ++ 10 ∷ []) - 1) ≡ 10
ends line = ap (λ (k : ℕ). slice_index (line ++ 10 ∷ []) k) (before_end line) ∙ get_or-append_seam line 10 [] 0

ended_one : (line : Text) → HasNoLineFeed line → lines_of (line ++ 10 ∷ []) ≡ (line ++ 10 ∷ []) ∷ []
ended_one line none = lines-one (line ++ 10 ∷ []) (omega (arith, one_longer line)) (λ k lt.
    let within : k < length line = omega (arith, one_longer line, lt) in
    subst (λ (b : ℕ). b ≢ 10) (sym (get_or_append_left line (10 ∷ []) 0 k within)) (none k 0 within))

pub ended_more : (line rest : Text) → HasNoLineFeed line → lines_of (line ++ 10 ∷ rest) ≡ (line ++ 10 ∷ []) ∷ lines_of rest
ended_more line rest none =
    ap lines_of (sym (append_assoc line (10 ∷ []) rest)) ∙ lines-append (length (line ++ 10 ∷ [])) (line ++ 10 ∷ []) rest (omega arith) (inr (ends line))
    ∙ ap (λ (l : List Text). l ++ lines_of rest) (ended_one line none)

has_end : (line : Text) (n : ℕ) → n ≡ length line → slice_index (line ++ 10 ∷ []) n ≡ 10 → (nat_lt 0 (length (line ++ 10 ∷ [])) && slice_index (line ++ 10 ∷ []) n == 10) ≡ true
has_end line n at is =
    let some : nat_lt 0 (length (line ++ 10 ∷ [])) ≡ true = grind (arith, nat_tests, one_longer line) in
    let same : (slice_index (line ++ 10 ∷ []) n == 10) ≡ true = eq-eqb (slice_index (line ++ 10 ∷ []) n) 10 is in rw (some, same) refl

ended_text : (line : Text) → without_terminator (line ++ 10 ∷ []) ≡ no_cr line
ended_text line =
    let n = length (line ++ 10 ∷ []) - 1 in
    cond-true _ _ _ (has_end line n (before_end line) (ends line)) ∙ ap no_cr (ap (λ (k : ℕ). take k (line ++ 10 ∷ [])) (before_end line) ∙ take-append_seam line (10 ∷ []))

-- ---- A last line without LF.

last_is : (line : Text) → HasNoLineFeed line → 0 < length line → (nat_lt 0 (length line) && slice_index line (length line - 1) == 10) ≡ false
last_is line none some =
    let other : slice_index line (length line - 1) ≢ 10 = none (length line - 1) 0 (omega arith) in
    let has : nat_lt 0 (length line) ≡ true = grind (arith, nat_tests) in
    let no : (slice_index line (length line - 1) == 10) ≡ false = ne_eqb _ 10 other in rw (has, no) refl

last_text : (line : Text) → HasNoLineFeed line → 0 < length line → without_terminator line ≡ line
last_text line none some = cond-false _ _ _ (last_is line none some)

-- ---- All lines.

pub lines_once : (bytes : Text) (lines : List Text) → AreLines bytes lines → lines ≡ map without_terminator (lines_of bytes)
lines_once bytes lines NoLine = sym (ap (map without_terminator) lines-nil)
lines_once bytes lines (LastLine line none some) =
    sym (ap (map without_terminator) (lines-one line some (λ k lt. none k 0 (omega arith))) ∙ ap (λ (t : Text). t ∷ []) (last_text line none some))
lines_once bytes lines (EndedLine line rest others none are) =
    sym (ap (map without_terminator) (ended_more line rest none) ∙ ap (λ (t : Text). t ∷ map without_terminator (lines_of rest)) (ended_text line) ∙ ap (λ (l : List Text). no_cr line ∷ l) (sym (lines_once rest others are)))

-- The bytes contain no LF, or they are a first line and the bytes after its LF.
pub data Cut (bytes : Text) : Type 0 where
  Whole : HasNoLineFeed bytes → Cut bytes
  Ended : (line rest : Text) → HasNoLineFeed line → bytes ≡ line ++ 10 ∷ rest → Cut bytes

no_end_one : (b : ℕ) (line : Text) → b ≢ 10 → HasNoLineFeed line → HasNoLineFeed (b ∷ line)
no_end_one b line other none zero d lt = other
no_end_one b line other none (suc k) d lt = none k d (omega arith)

cut_on : (b : ℕ) (bytes : Text) → b ≢ 10 → Cut bytes → Cut (b ∷ bytes)
cut_on b bytes other (Whole none) = Whole (no_end_one b bytes other none)
cut_on b bytes other (Ended line rest none is) = Ended (b ∷ line) rest (no_end_one b line other none) (ap (λ (t : Text). b ∷ t) is)

cut_here : (b : ℕ) (bytes : Text) → b ≡ 10 → Cut (b ∷ bytes)
cut_here b bytes is = Ended [] bytes (λ k d lt. absurd (omega arith)) (ap (λ (c : ℕ). c ∷ bytes) is)

cut : (bytes : Text) → Cut bytes
cut [] = Whole (λ k d lt. absurd (omega arith))
cut (b ∷ bytes) = elim (cases_eq b 10) [ inl is ↦ cut_here b bytes is | inr other ↦ cut_on b bytes other (cut bytes) ]

whole_lines : (bytes : Text) → HasNoLineFeed bytes → (lines : List Text) × AreLines bytes lines
whole_lines [] none = ([], NoLine)
whole_lines (b ∷ bytes) none = ((b ∷ bytes) ∷ [], LastLine (b ∷ bytes) none (omega arith))

lines_by : (fuel : ℕ) (bytes : Text) → length bytes < suc fuel → ((rest : Text) → length rest < fuel → (lines : List Text) × AreLines rest lines) → Cut bytes → (lines : List Text) × AreLines bytes lines
lines_by fuel bytes lt rest_lines (Whole none) = whole_lines bytes none
lines_by fuel bytes lt rest_lines (Ended line rest none is) =
    let less : length rest < fuel = omega (arith, lt, ap length is, length-append line (10 ∷ rest)) in
    let on = rest_lines rest less in
    (no_cr line ∷ on.0, subst (λ (t : Text). AreLines t (no_cr line ∷ on.0)) (sym is) (EndedLine line rest on.0 none on.1))

some_lines : (fuel : ℕ) (bytes : Text) → length bytes < fuel → (lines : List Text) × AreLines bytes lines
some_lines zero bytes lt = absurd (omega arith)
some_lines (suc fuel) bytes lt = lines_by fuel bytes lt (some_lines fuel) (cut bytes)

pub are_lines : (bytes : Text) → AreLines bytes (map without_terminator (lines_of bytes))
are_lines bytes =
    let found = some_lines (suc (length bytes)) bytes (omega arith) in subst (λ (l : List Text). AreLines bytes l) (lines_once bytes found.0 found.1) found.1

pub split_gives_lines : (bytes : Text) (lines : List Text) → lines ≡ map without_terminator (lines_of bytes) → AreLines bytes lines
split_gives_lines bytes lines is = subst (λ (l : List Text). AreLines bytes l) (sym is) (are_lines bytes)

pub split_few : (bytes : Text) (lines : List Text) → lines ≡ map without_terminator (lines_of bytes) → length lines ≤ length bytes
split_few bytes lines is = omega (arith, ap length is, length-lines bytes)
