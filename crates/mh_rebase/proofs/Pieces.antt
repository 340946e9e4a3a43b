-- Lemmas on pieces: texts of whole lines, with those of their lines that are not ignored.
use Rattle.std.proofs.Common.{◌≡◌, ◌≢◌, ◌≤◌, ◌-◌, ◌+◌, ◌==◌, ◌&&◌, not, ℕ, zero, suc, Bool, true, false, List, [], ◌∷◌, ◌++◌, length, map, filter, flat_map, take, nat_lt, ◌/◌, ◌%◌, refl, sym, ◌∙◌, ap, subst, arith, if◌then◌else◌, append_assoc, append-nil, length-append}
use Rattle.std.specs.Prelude.{codes, decimal, slice_index}
use Rattle.std.specs.List.{AllByRecursion, list_all}
use Rattle.std.specs.Fmt.{digits, digits_onto, digit_glyph}
use Rattle.std.proofs.lemmas.Bool.{and_parts, eqb-false, ne_eqb, cond-true}
use Rattle.std.proofs.lemmas.Bool.Decides.{nat_tests}
use Rattle.std.proofs.lemmas.List.{length-take-le}
use Rattle.std.proofs.lemmas.Grind.{flat_map-append}
use Rattle.std.proofs.Math.Seq.{get_or-append_seam}
use Rattle.bstr.specs.Text.{no_cr, lines_of}
use Rattle.bstr.proofs.lemmas.LineLemmas.{lines-nil}
use Rattle.mh_grammar.proofs.Lists.{recursion-append}
use Rattle.mh_grammar.specs.declared.types.Grammar.{Grammar}
use Rattle.mh_grammar.specs.Text.{Text}
use Rattle.mh_lex_bytes.specs.Words.{is_word}
use Rattle.mh_lex_bytes.specs.Bytes.{is_word_byte}
use Rattle.mh_msgfile.specs.Lines.{HasNoLineFeed, is_ignored_line}
use Rattle.mh_msgfile.specs.FileTexts.{HasReadableNames}
use Rattle.mh_msgfile.proofs.PrintedAgain.{is_kept_text, IsLine, all_unchanged, all_kept, filter_on}
use Rattle.mh_msgfile.proofs.CanonicalLine.{word_bytes, not_byte}
use Rattle.mh_msgfile.proofs.LineEnds.{with_ends, IsReadUnchanged, no_cr-unchanged}
use Rattle.mh_msgfile.proofs.AreLines.{ended_more}
use Rattle.mh_update.specs.NoLineEnds.{is_no_line_end, HasNoLineEnd}
use Rattle.mh_update.proofs.GeneratedText.{IsGeneratedText}
use Rattle.mh_update.proofs.LineWalk.{IsGeneratedLine, generated_is_ignored}
use Rattle.mh_rebase.specs.RebasedText.{commented_message}
use Rattle.mh_rebase.proofs.WritesRows.{filter_append}

-- The text consists of whole lines that are read unchanged, and `plain` are those of the lines that are not ignored.
pub record Piece (text : Text) (plain : List Text) : Type 0 where
  pub lines : List Text
  pub is : text ≡ with_ends lines
  pub whole : AllByRecursion IsReadUnchanged lines
  pub kept : filter is_kept_text lines ≡ plain

pub piece_none : Piece [] []
piece_none = record { lines = []; is = refl; whole = tt; kept = refl }

pub piece_as : (x y : Text) (p q : List Text) → x ≡ y → p ≡ q → Piece x p → Piece y q
piece_as x y p q is same piece = record { lines = piece.lines; is = sym is ∙ piece.is; whole = piece.whole; kept = piece.kept ∙ same }

pub piece_both : (x y : Text) (p q : List Text) → Piece x p → Piece y q → Piece (x ++ y) (p ++ q)
piece_both x y p q a b = record {
  lines = a.lines ++ b.lines;
  is = ap (λ (l : Text). l ++ y) a.is ∙ ap (λ (l : Text). with_ends a.lines ++ l) b.is ∙ sym (flat_map-append (λ (line : Text). line ++ 10 ∷ []) a.lines b.lines);
  whole = recursion-append IsReadUnchanged a.lines b.lines a.whole b.whole;
  kept = filter_append is_kept_text a.lines b.lines ∙ ap (λ (l : List Text). l ++ filter is_kept_text b.lines) a.kept ∙ ap (λ (l : List Text). p ++ l) b.kept;
}

kept_one : (line : Text) (c : Bool) → is_kept_text line ≡ c → filter is_kept_text (line ∷ []) ≡ (if c then line ∷ [] else [])
kept_one line c is = filter_on is_kept_text line [] c is

-- A line that is not ignored is a piece with this line; an ignored line is a piece with no lines.
pub piece_line : (line : Text) → IsReadUnchanged line → is_ignored_line line ≡ false → Piece (line ++ 10 ∷ []) (line ∷ [])
piece_line line whole stays = record { lines = line ∷ []; is = sym (append-nil (line ++ 10 ∷ [])); whole = (whole, tt); kept = kept_one line true (ap not stays) }

pub piece_gone : (line : Text) → IsReadUnchanged line → is_ignored_line line ≡ true → Piece (line ++ 10 ∷ []) []
piece_gone line whole goes = record { lines = line ∷ []; is = sym (append-nil (line ++ 10 ∷ [])); whole = (whole, tt); kept = kept_one line false (ap not goes) }

-- Lines that are read unchanged.
pub piece_lines : (g : Grammar) (has : HasReadableNames g) (lines : List Text) → AllByRecursion (IsLine g) lines → Piece (with_ends lines) lines
piece_lines g has lines all = record { lines = lines; is = refl; whole = all_unchanged g has lines all; kept = all_kept g has lines all }

-- Comment lines that the program writes are ignored when they are read.
all_made : (lines : List Text) → AllByRecursion IsGeneratedLine lines → AllByRecursion IsReadUnchanged lines × (filter is_kept_text lines ≡ [])
all_made [] made = (tt, refl)
all_made (line ∷ lines) made =
    let later = all_made lines made.1 in ((made.0.1, later.0), filter_on is_kept_text line lines false (ap not (generated_is_ignored line made.0.0)) ∙ later.1)

pub piece_generated : (text : Text) → IsGeneratedText text → Piece text []
piece_generated text generated = let made = all_made generated.lines generated.are_generated in record { lines = generated.lines; is = generated.is; whole = made.0; kept = made.1 }

-- ---- Texts without line ends.

word_inner : (b : ℕ) → is_word_byte b ≡ true → is_no_line_end b ≡ true
word_inner b is = rw (not_byte b 10 is refl) (rw (not_byte b 13 is refl) refl)

bytes_in : (w : Text) → list_all is_word_byte w ≡ true → HasNoLineEnd w
bytes_in [] is = refl
bytes_in (b ∷ w) is = let both = and_parts (is_word_byte b) (list_all is_word_byte w) is in rw (word_inner b both.0) (bytes_in w both.1)

pub word_in : (w : Text) → is_word w ≡ true → HasNoLineEnd w
word_in w is = bytes_in w (word_bytes w is)

glyph_in : (d : ℕ) → 14 ≤ digit_glyph false d → is_no_line_end (digit_glyph false d) ≡ true
glyph_in d le =
    let no_lf : (digit_glyph false d == 10) ≡ false = ne_eqb (digit_glyph false d) 10 (λ e. absurd (let no : ⊥ = omega (arith, le, e) in no)) in
    let no_cr : (digit_glyph false d == 13) ≡ false = ne_eqb (digit_glyph false d) 13 (λ e. absurd (let no : ⊥ = omega (arith, le, e) in no)) in
    rw no_lf (rw no_cr refl)

high : (d : ℕ) (c : Bool) → 14 ≤ (if c then 48 + d else 87 + d)
high d true = omega arith
high d false = omega arith

in_cons : (b : ℕ) (text : Text) → is_no_line_end b ≡ true → HasNoLineEnd text → HasNoLineEnd (b ∷ text)
in_cons b text here is = rw here is

glyph_first : (n : ℕ) (acc : Text) → HasNoLineEnd acc → HasNoLineEnd (digit_glyph false (n % 10) ∷ acc)
glyph_first n acc is = in_cons (digit_glyph false (n % 10)) acc (glyph_in (n % 10) (high (n % 10) (nat_lt (n % 10) 10))) is

digits_by : (k n : ℕ) (acc : Text) (c : Bool) → HasNoLineEnd acc → ((more : Text) → HasNoLineEnd more → HasNoLineEnd (digits_onto k 10 false (n / 10) more))
    → HasNoLineEnd (if c then digit_glyph false (n % 10) ∷ acc else digits_onto k 10 false (n / 10) (digit_glyph false (n % 10) ∷ acc))
digits_by k n acc true is later = glyph_first n acc is
digits_by k n acc false is later = later (digit_glyph false (n % 10) ∷ acc) (glyph_first n acc is)

digits_in : (k n : ℕ) (acc : Text) → HasNoLineEnd acc → HasNoLineEnd (digits_onto k 10 false n acc)
digits_in zero n acc is = is
digits_in (suc k) n acc is = digits_by k n acc (n / 10 == 0) is (digits_in k (n / 10))

pub number_in : (n : ℕ) → HasNoLineEnd (decimal n)
unfolding digits
number_in n = digits_in 64 n [] refl

-- ---- Messages as comments.

-- A line that is read unchanged does not end in a CR.
ends_free : (front : Text) → no_cr (front ++ 13 ∷ []) ≡ front ++ 13 ∷ [] → ⊥
ends_free front is =
    let long : length (front ++ 13 ∷ []) ≡ length front + 1 = length-append front (13 ∷ []) in
    let place : length (front ++ 13 ∷ []) - 1 ≡ length front = omega (arith, long) in
    let last : slice_index (front ++ 13 ∷ []) (length (front ++ 13 ∷ []) - 1) ≡ 13 = ap (λ (k : ℕ). slice_index (front ++ 13 ∷ []) k) place ∙ get_or-append_seam front 13 [] 0 in
    let some : nat_lt 0 (length (front ++ 13 ∷ [])) ≡ true = grind (arith, nat_tests, long) in
    let ends : (nat_lt 0 (length (front ++ 13 ∷ [])) && slice_index (front ++ 13 ∷ []) (length (front ++ 13 ∷ []) - 1) == 13) ≡ true = rw (some, last) refl in
    let cut : take (length (front ++ 13 ∷ []) - 1) (front ++ 13 ∷ []) ≡ front ++ 13 ∷ [] = sym (cond-true _ _ _ ends) ∙ is in
    let less = length-take-le (length (front ++ 13 ∷ []) - 1) (front ++ 13 ∷ []) (omega arith) in
    omega (arith, long, less, ap length cut)

no_end_more : (b : ℕ) (line : Text) → b ≢ 10 → HasNoLineFeed line → HasNoLineFeed (b ∷ line)
no_end_more b line other none zero d lt = other
no_end_more b line other none (suc k) d lt = none k d (omega arith)

-- A line that is read unchanged still is after one more byte in front.
pub whole_after : (b : ℕ) (line : Text) → b ≢ 10 → b ≢ 13 → IsReadUnchanged line → IsReadUnchanged (b ∷ line)
whole_after b line no_lf no_end whole = (no_end_more b line no_lf whole.0, no_cr-unchanged (b ∷ line) _ refl (free line whole.1))
  where
    free : (line : Text) → no_cr line ≡ line → (front : Text) → b ∷ line ≡ front ++ 13 ∷ [] → ⊥
    free line unchanged [] is = no_end (cc)
    free line unchanged (c ∷ front) is = let same : line ≡ front ++ 13 ∷ [] = cc in ends_free front (subst (λ (l : Text). no_cr l ≡ l) same unchanged)

abbrev commented : Text → Text
commented line = 35 ∷ 32 ∷ line

commented_lines : (lines : List Text) → AllByRecursion IsReadUnchanged lines → commented_message (with_ends lines) ≡ with_ends (map commented lines)
commented_lines [] all = ap (flat_map (λ (line : Text). codes "# " ++ line)) lines-nil
commented_lines (line ∷ lines) all =
    ap (flat_map (λ (l : Text). codes "# " ++ l)) (ap lines_of (append_assoc line (10 ∷ []) (with_ends lines)) ∙ ended_more line (with_ends lines) all.0.0)
    ∙ ap (λ (l : Text). (commented line ++ 10 ∷ []) ++ l) (commented_lines lines all.1)

all_gone : (lines : List Text) → AllByRecursion IsReadUnchanged lines → AllByRecursion IsReadUnchanged (map commented lines) × (filter is_kept_text (map commented lines) ≡ [])
all_gone [] all = (tt, refl)
all_gone (line ∷ lines) all =
    let later = all_gone lines all.1 in ((whole_after 35 (32 ∷ line) (eqb-false 35 10 refl) (eqb-false 35 13 refl) (whole_after 32 line (eqb-false 32 10 refl) (eqb-false 32 13 refl) all.0), later.0), later.1)

pub piece_commented : (lines : List Text) → AllByRecursion IsReadUnchanged lines → Piece (commented_message (with_ends lines)) []
piece_commented lines all = let gone = all_gone lines all in record { lines = map commented lines; is = commented_lines lines all; whole = gone.0; kept = gone.1 }
