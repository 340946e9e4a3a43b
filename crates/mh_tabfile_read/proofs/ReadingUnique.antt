-- Proves that the bytes of a table file are read as its content, and as nothing else.
use Rattle.std.proofs.Common.{inl, inr, ◌⊎◌, ◌≡◌, ◌≢◌, ◌+◌, ◌<◌, ◌≤◌, ◌^◌, ◌==◌, ◌&&◌, ℕ, suc, Bool, true, false, List, [], ◌∷◌, ◌++◌, length, map, Option, Some, None, Result, Ok, Err, refl, sym, ap, ◌∙◌, subst, arith, append_assoc, append-nil, length-append, codes, decimal, true≢false, ne_eqb, All, nat_eq, not, cond, Bor}
use Rattle.std.specs.List.{AllByRecursion, slice_split, join_with_byte}
use Rattle.std.proofs.lemmas.List.Elements.{All-from_recursion}
use Rattle.std.proofs.lemmas.List.Splits.{slice_split_at, slice_split_none, join_with_byte-slice_split}
use Rattle.mh_grammar.proofs.Lists.{recursion-append, first_same, map_some}
use Rattle.mh_tabfile_form.specs.declared.types.RawTable.{RawTable}
use Rattle.mh_tabfile_read.specs.declared.reading.TabFault.{TabFault}
use Rattle.mh_tabfile_read.specs.declared.reading.TabFault.TheVariants as faults
use Rattle.std.proofs.lemmas.Fmt.{decimal_injective}
use Rattle.std.proofs.lemmas.List.{same_from_push}
use Rattle.mh_resolve_cells.specs.declared.kinds.Mode.{Mode}
use Rattle.mh_tabfile_read.specs.code.Words.{mode_of}
use Rattle.mh_resolve_cells.specs.Names.{mode_name}
use Rattle.mh_tabfile_read.specs.Reading.{IsOtherVersion, IsBadLine, IsReading}
use Rattle.mh_tabfile_form.specs.Form.{lines_of, head_line, version_of, Line, line_text, text, IsInWord, IsLine, Spells, Begins, IsFileOf}
use Rattle.mh_tabfile_read.specs.code.Lines.{words_of, is_other_head, is_other_number, is_mode, first_line}
use Rattle.mh_tabfile_form.proofs.NoSpaces.{plain, number_plain, mode_plain}
use Rattle.mh_tabfile_read.proofs.SplitLines.{split_some, regroup, bytes_of_parts}
use Rattle.mh_tabfile_read.proofs.ParsedWords.{number_parsed, mode_parsed}
use Rattle.mh_tabfile_read.proofs.RunExact.{spelled_once}

clean_of : (w : List ℕ) → AllByRecursion IsInWord w → AllByRecursion (λ b. (b == 32) ≡ false) w
clean_of [] h = tt
clean_of (b ∷ bs) ((n, m), hs) = (ne_eqb b 32 n, clean_of bs hs)

pub words_parsed : (ws : Line) → IsLine ws → words_of (join_with_byte 32 ws) ≡ ws
words_parsed [] (n, h) = absurd (n refl)
words_parsed (w ∷ []) (n, (h, hs)) = slice_split_none (λ b. b == 32) w (All-from_recursion (λ b. (b == 32) ≡ false) w (clean_of w h))
words_parsed (w ∷ v ∷ ws) (n, (h, hs)) = slice_split_at (λ b. b == 32) w 32 (join_with_byte 32 (v ∷ ws)) (All-from_recursion (λ b. (b == 32) ≡ false) w (clean_of w h)) refl ∙ ap (λ l. w ∷ l) (words_parsed (v ∷ ws) ((λ e. cc), hs))

no_end : (w : List ℕ) → AllByRecursion IsInWord w → AllByRecursion (λ b. (b == 10) ≡ false) w
no_end [] h = tt
no_end (b ∷ bs) ((n, m), hs) = (ne_eqb b 10 m, no_end bs hs)

line_clean : (ws : Line) → AllByRecursion (AllByRecursion IsInWord) ws → AllByRecursion (λ b. (b == 10) ≡ false) (join_with_byte 32 ws)
line_clean [] h = tt
line_clean (w ∷ []) (h, hs) = no_end w h
line_clean (w ∷ v ∷ ws) (h, hs) = recursion-append (λ b. (b == 10) ≡ false) w (32 ∷ join_with_byte 32 (v ∷ ws)) (no_end w h) (refl, line_clean (v ∷ ws) hs)

-- Bytes as lines, where the bytes after the last LF are the last line.
abbrev pub view : List ℕ → List Line
view bytes = map words_of (slice_split (λ b. b == 10) bytes)

pub view_of_text : (ls : List Line) (last : List ℕ) → AllByRecursion IsLine ls → view (text ls ++ last) ≡ ls ++ view last
view_of_text [] last h = refl
view_of_text (l ∷ ls) last (h, hs) =
    ap view (sym (regroup (join_with_byte 32 l) (text ls) last))
    ∙ ap (map words_of) (slice_split_at (λ b. b == 10) (join_with_byte 32 l) 10 (text ls ++ last) (All-from_recursion (λ b. (b == 10) ≡ false) (join_with_byte 32 l) (line_clean l h.1)) refl)
    ∙ ap (λ w. w ∷ view (text ls ++ last)) (words_parsed l h)
    ∙ ap (λ k. l ∷ k) (view_of_text ls last hs)

pub view_whole : (ls : List Line) → AllByRecursion IsLine ls → view (text ls) ≡ ls ++ ([] ∷ []) ∷ []
view_whole ls h = ap view (sym (append-nil (text ls))) ∙ view_of_text ls [] h

front_of : {X : Type 0} (xs ys zs : List X) (e x : X) → xs ++ e ∷ [] ≡ ys ++ x ∷ zs → zs ≢ [] → (more : List X) × (xs ≡ (ys ++ x ∷ []) ++ more)
front_of [] [] zs e x h n = absurd (n (let f : zs ≡ [] = cc in f))
front_of [] (y ∷ ys) zs e x h n = absurd (omega (arith, ap length h, length-append ys (x ∷ zs)))
front_of (a ∷ aa) [] zs e x h n = (aa, cc)
front_of (a ∷ aa) (y ∷ ys) zs e x h n =
    let same : a ≡ y = cc in
    let rest : aa ++ e ∷ [] ≡ ys ++ x ∷ zs = cc in
    let k = front_of aa ys zs e x rest n in
    (k.0, ap (λ l. l ∷ aa) same ∙ ap (λ l. y ∷ l) k.1)

pub no_lf_bool : (last : List ℕ) → AllByRecursion (λ b. b ≢ 10) last → AllByRecursion (λ b. (b == 10) ≡ false) last
no_lf_bool [] h = tt
no_lf_bool (b ∷ bs) (h, hs) = (ne_eqb b 10 h, no_lf_bool bs hs)

pub same_table : (bytes : List ℕ) (one two : RawTable) → IsFileOf bytes one → IsFileOf bytes two → one ≡ two
same_table bytes one two f g =
    let same = same_from_push (lines_of one) (lines_of two) ([] ∷ []) ([] ∷ []) (sym (view_whole (lines_of one) f.words) ∙ ap view (sym f.bytes_are ∙ g.bytes_are) ∙ view_whole (lines_of two) g.words) in
    spelled_once (lines_of two) one two (f.spelled, sym same.0) (g.spelled, refl)

pub no_bad : (bytes : List ℕ) (raw : RawTable) (n : ℕ) → IsFileOf bytes raw → IsBadLine bytes n → ⊥
no_bad bytes raw n f (IsBadLine.misplaced before line rest e hb hl b never k) =
    let here : view (line_text line ++ rest) ≡ line ∷ view rest = ap (λ l. view (l ++ rest)) (sym (append-nil (line_text line))) ∙ view_of_text (line ∷ []) rest (hl, tt) in
    let (more, m) = front_of (lines_of raw) before (view rest) ([] ∷ []) line (sym (view_whole (lines_of raw) f.words) ∙ ap view (sym f.bytes_are ∙ e) ∙ view_of_text before (line_text line ++ rest) hb ∙ ap (λ l. before ++ l) here) (map_some words_of (slice_split (λ b. b == 10) rest) (split_some (λ b. b == 10) rest)) in
    never (more, raw, (f.spelled, sym m))
no_bad bytes raw n f (IsBadLine.unended before last e hb hl some b k) =
    let alone : view last ≡ words_of last ∷ [] = ap (map words_of) (slice_split_none (λ b. b == 10) last (All-from_recursion (λ b. (b == 10) ≡ false) last (no_lf_bool last hl))) in
    let same = same_from_push (lines_of raw) before ([] ∷ []) (words_of last) (sym (view_whole (lines_of raw) f.words) ∙ ap view (sym f.bytes_are ∙ e) ∙ view_of_text before last hb ∙ ap (λ l. before ++ l) alone) in
    some (sym (join_with_byte-slice_split 32 last) ∙ ap (join_with_byte 32) (sym same.1))
no_bad bytes raw n f (IsBadLine.early lines e hl b never k) =
    let same = same_from_push (lines_of raw) lines ([] ∷ []) ([] ∷ []) (sym (view_whole (lines_of raw) f.words) ∙ ap view (sym f.bytes_are ∙ e) ∙ view_whole lines hl) in
    never raw (f.spelled, sym same.0)

other_line : (n : ℕ) (m : Mode) → n < 2 ^ 32 → IsLine (head_line n m)
other_line n m small = ((λ e. cc), (plain (codes "menhir-tables") refl, (number_plain n small, (mode_plain m, tt))))

second_same : (a b c d : List ℕ) (xs ys : Line) → a ∷ b ∷ xs ≡ c ∷ d ∷ ys → b ≡ d
second_same a b c d xs ys e = cc

version_small : (costs : Option (List ℕ)) → version_of costs < 2 ^ 64
version_small None = omega arith
version_small (Some costs) = omega arith

version_is : (n : ℕ) (costs : Option (List ℕ)) → n ≡ version_of costs → n ≢ 1 → n ≢ 2 → ⊥
version_is n None e one two = one e
version_is n (Some costs) e one two = two e

clash : (raw : RawTable) (n : ℕ) (m : Mode) (more : List Line) → n < 2 ^ 32 → n ≢ 1 → n ≢ 2 → lines_of raw ++ ([] ∷ []) ∷ [] ≡ head_line n m ∷ more → ⊥
clash raw n m more small one two e =
    let head = first_same (head_line (version_of raw.costs) raw.mode) (head_line n m) _ more e in
    let number = second_same (codes "menhir-tables") (decimal (version_of raw.costs)) (codes "menhir-tables") (decimal n) (mode_name raw.mode ∷ []) (mode_name m ∷ []) head in
    version_is n raw.costs (sym (decimal_injective (version_of raw.costs) n (version_small raw.costs) (omega (arith, small)) number)) one two

pub no_other : (bytes : List ℕ) (raw : RawTable) → IsFileOf bytes raw → IsOtherVersion bytes → ⊥
no_other bytes raw f h =
    let is = other_line h.version h.mode h.number in
    let ws = head_line h.version h.mode in
    let spelled : lines_of raw ++ ([] ∷ []) ∷ [] ≡ view bytes = sym (view_whole (lines_of raw) f.words) ∙ ap view (sym f.bytes_are) in
    elim h.ends [
      | inl e ↦
          let alone : view bytes ≡ ws ∷ [] = ap view (h.first ∙ ap (λ r. join_with_byte 32 ws ++ r) e ∙ append-nil (join_with_byte 32 ws)) ∙ ap (map words_of) (slice_split_none (λ b. b == 10) (join_with_byte 32 ws) (All-from_recursion (λ b. (b == 10) ≡ false) (join_with_byte 32 ws) (line_clean ws is.1))) ∙ ap (λ l. l ∷ []) (words_parsed ws is) in
          clash raw h.version h.mode [] h.number h.not_one h.not_two (spelled ∙ alone)
      | inr (more, e) ↦
          let cut : view bytes ≡ ws ∷ view more = ap view (h.first ∙ ap (λ r. join_with_byte 32 ws ++ r) e ∙ regroup (join_with_byte 32 ws) [] more) ∙ view_of_text (ws ∷ []) more (is, tt) in
          clash raw h.version h.mode (view more) h.number h.not_one h.not_two (spelled ∙ cut)
    ]

-- If the bytes are a file of a table, then any reading of them is this table, or memory ran out.
pub only_reading : (bytes : List ℕ) (result : Result RawTable TabFault) → IsReading bytes result → (raw : RawTable) → IsFileOf bytes raw → (result ≡ Ok raw) ⊎ (result ≡ Err faults.Memory)
only_reading bytes (Ok other) h raw f = inl (ap Ok (same_table bytes other raw h f))
only_reading bytes (Err faults.Version) h raw f = absurd (no_other bytes raw f h)
only_reading bytes (Err (faults.TabShape n)) h raw f = absurd (no_bad bytes raw n f h)
only_reading bytes (Err faults.Memory) h raw f = inr refl

other_number : (n : ℕ) → n ≢ 1 → n ≢ 2 → is_other_number (Some n) ≡ true
other_number n one two = ap (λ b. not b && not (nat_eq n 2)) (ne_eqb n 1 one) ∙ ap not (ne_eqb n 2 two)

head_again : (n : ℕ) (m : Mode) → n < 2 ^ 32 → n ≢ 1 → n ≢ 2 → is_other_head (head_line n m) ≡ true
unfolding is_other_head
head_again n m small one two =
    ap (λ o. cond (is_other_number o) (is_mode (mode_of (mode_name m))) false) (number_parsed n small)
    ∙ ap (λ b. cond b (is_mode (mode_of (mode_name m))) false) (other_number n one two)
    ∙ ap is_mode (mode_parsed m)

view_other : (bytes : List ℕ) (h : IsOtherVersion bytes) → (more : List Line) × (view bytes ≡ head_line h.version h.mode ∷ more)
view_other bytes h =
    let is = other_line h.version h.mode h.number in
    let ws = head_line h.version h.mode in
    elim h.ends [
      | inl e ↦ ([], ap view (h.first ∙ ap (λ r. join_with_byte 32 ws ++ r) e ∙ append-nil (join_with_byte 32 ws)) ∙ ap (map words_of) (slice_split_none (λ b. b == 10) (join_with_byte 32 ws) (All-from_recursion (λ b. (b == 10) ≡ false) (join_with_byte 32 ws) (line_clean ws is.1))) ∙ ap (λ l. l ∷ []) (words_parsed ws is))
      | inr (more, e) ↦ (view more, ap view (h.first ∙ ap (λ r. join_with_byte 32 ws ++ r) e ∙ regroup (join_with_byte 32 ws) [] more) ∙ view_of_text (ws ∷ []) more (is, tt))
    ]

pub never_other : (bytes : List ℕ) (parts : List (Bor (List ℕ))) (ws : Line) → bytes_of_parts parts ≡ slice_split (λ b. b == 10) bytes → 0 < length parts → ws ≡ words_of (first_line (bytes_of_parts parts)) → is_other_head ws ≡ false → IsOtherVersion bytes → ⊥
never_other bytes [] ws e some i f h = omega (arith, some)
never_other bytes (p ∷ ps) ws e some i f h =
    let (more, v) = view_other bytes h in
    let first : words_of p.now ≡ head_line h.version h.mode = first_same (words_of p.now) (head_line h.version h.mode) (map words_of (bytes_of_parts ps)) more (ap (map words_of) e ∙ v) in
    true≢false (sym (ap is_other_head (i ∙ first) ∙ head_again h.version h.mode h.number h.not_one h.not_two) ∙ f)
