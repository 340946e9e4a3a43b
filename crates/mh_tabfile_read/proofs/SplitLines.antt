-- Lemmas on bytes that are split into lines at LF, and on lines that are split into words at spaces.
use Rattle.std.proofs.Common.{inl, inr, ◌⊎◌, ◌≡◌, ◌≢◌, ◌+◌, ◌<◌, ◌≤◌, ◌==◌, ℕ, suc, Bool, true, false, cond, not, max, List, [], ◌∷◌, ◌++◌, length, map, Option, Some, None, Result, Ok, Err, refl, sym, ap, ◌∙◌, subst, arith, append_assoc, append-nil, length-append, codes, decimal, true≢false, eqb-true, eq-eqb, flat_map, nat_eq, take, get_or, Bor, take-suc, take_all, length-take-le}
use Rattle.std.specs.List.{AllByRecursion, slice_split, onto_first, join_with_byte}
use Rattle.std.proofs.lemmas.Grind.{flat_map-append}
use Rattle.std.proofs.lemmas.List.{length-map, map_push}
use Rattle.std.proofs.lemmas.List.Splits.{join_with_byte-slice_split}
use Rattle.mh_grammar.proofs.Lists.{recursion-weaker, some_length}
use Rattle.mh_resolve_cells.specs.declared.kinds.Mode.{Mode}
use Rattle.mh_tabfile_form.specs.declared.types.RawTable.{RawTable}
use Rattle.mh_resolve_cells.specs.Names.{mode_name}
use Rattle.mh_tabfile_read.specs.Reading.{IsOtherVersion, IsBadLine, IsReading}
use Rattle.mh_tabfile_form.specs.Form.{Line, line_text, text, IsInWord, IsLine, Spells, Begins, IsFileOf, IsNumber}
use Rattle.std.specs.Cmp.Lexicographic.{same_text}
use Rattle.std.proofs.lemmas.Bool.{and_parts}
use Rattle.std.proofs.lemmas.Option.{same_Some}
use Rattle.mh_tabfile_read.specs.declared.places.Reader.{Reader}
use Rattle.mh_tabfile_read.specs.declared.reading.TabFault.{TabFault}
use Rattle.mh_tabfile_read.specs.declared.reading.TabFault.TheVariants as faults
use Rattle.mh_tabfile_read.specs.code.Machine.{run, initial_reader, finish}
use Rattle.mh_tabfile_read.specs.code.Lines.{words_of, lines_in, IsMisplaced, ReadsLines, IsFinished, is_other_head, is_other_number, is_mode, first_line}
use Rattle.mh_tabfile_read.specs.code.Numbers.{number_of}
use Rattle.mh_tabfile_read.specs.code.Words.{same_word, mode_of}
use Rattle.mh_tabfile_form.proofs.NoSpaces.{not_equal}
use Rattle.mh_tabfile_read.proofs.ParsedWords.{cond_cases, none_some, number_sound, mode_sound}
use Rattle.mh_tabfile_read.proofs.RunExact.{read_lines_begin, read_lines_spell, read_lines_incomplete}

-- Lemmas on lists that are split at separators.

onto_all : {X : Type 0} (P : X → Type 0) (x : X) (parts : List (List X)) → P x → AllByRecursion (AllByRecursion P) parts → AllByRecursion (AllByRecursion P) (onto_first x parts)
onto_all P x [] h hs = ((h, tt), tt)
onto_all P x (part ∷ parts) h (k, ks) = ((h, k), ks)

keep_by : {X : Type 0} (P : X → Type 0) (b : Bool) (x : X) (parts : List (List X)) → P x → AllByRecursion (AllByRecursion P) parts → AllByRecursion (AllByRecursion P) (cond b ([] ∷ parts) (onto_first x parts))
keep_by P true x parts h hs = (tt, hs)
keep_by P false x parts h hs = onto_all P x parts h hs

-- If all elements of a list have a property, so do the elements of each part.
pub split_keeps : {X : Type 0} (P : X → Type 0) (p : X → Bool) (xs : List X) → AllByRecursion P xs → AllByRecursion (AllByRecursion P) (slice_split p xs)
split_keeps P p [] h = (tt, tt)
split_keeps P p (x ∷ xs) (h, hs) = keep_by P (p x) x (slice_split p xs) h (split_keeps P p xs hs)

clean_by : {X : Type 0} (p : X → Bool) (b : Bool) (x : X) (parts : List (List X)) → p x ≡ b → AllByRecursion (AllByRecursion (λ y. p y ≡ false)) parts → AllByRecursion (AllByRecursion (λ y. p y ≡ false)) (cond b ([] ∷ parts) (onto_first x parts))
clean_by p true x parts e hs = (tt, hs)
clean_by p false x parts e hs = onto_all (λ y. p y ≡ false) x parts e hs

-- No part contains a separator.
pub split_parts_clean : {X : Type 0} (p : X → Bool) (xs : List X) → AllByRecursion (AllByRecursion (λ y. p y ≡ false)) (slice_split p xs)
split_parts_clean p [] = (tt, tt)
split_parts_clean p (x ∷ xs) = clean_by p (p x) x (slice_split p xs) refl (split_parts_clean p xs)

some_by : {X : Type 0} (b : Bool) (x : X) (parts : List (List X)) → cond b ([] ∷ parts) (onto_first x parts) ≢ []
some_by true x parts e = cc
some_by false x [] e = cc
some_by false x (part ∷ parts) e = cc

pub split_some : {X : Type 0} (p : X → Bool) (xs : List X) → slice_split p xs ≢ []
split_some p [] e = cc
split_some p (x ∷ xs) e = some_by (p x) x (slice_split p xs) e

other_byte : (b k : ℕ) → (b == k) ≡ false → b ≢ k
other_byte b k e f = true≢false (sym (eq-eqb b k f) ∙ e)

all_both : {X : Type 0} (P Q : X → Type 0) (xs : List X) → AllByRecursion P xs → AllByRecursion Q xs → AllByRecursion (λ x. P x × Q x) xs
all_both P Q [] h k = tt
all_both P Q (x ∷ xs) (h, hs) (k, ks) = ((h, k), all_both P Q xs hs ks)

all_both2 : {X : Type 0} (P Q : X → Type 0) (xs : List (List X)) → AllByRecursion (AllByRecursion P) xs → AllByRecursion (AllByRecursion Q) xs → AllByRecursion (AllByRecursion (λ x. P x × Q x)) xs
all_both2 P Q [] h k = tt
all_both2 P Q (x ∷ xs) (h, hs) (k, ks) = (all_both P Q x h k, all_both2 P Q xs hs ks)

all_front : {X : Type 0} (P : X → Type 0) (xs ys : List X) → AllByRecursion P (xs ++ ys) → AllByRecursion P xs × AllByRecursion P ys
all_front P [] ys h = (tt, h)
all_front P (x ∷ xs) ys (h, hs) = let k = all_front P xs ys hs in ((h, k.0), k.1)

-- A byte that is neither a space nor LF, stated by the two tests.
abbrev Clear : ℕ → Type 0
Clear b = ((b == 32) ≡ false) × ((b == 10) ≡ false)

-- A part without LF is a line of words.
line_is : (part : List ℕ) → AllByRecursion (λ b. (b == 10) ≡ false) part → IsLine (words_of part)
line_is part h = (
  split_some (λ b. b == 32) part,
  recursion-weaker (AllByRecursion Clear) (AllByRecursion IsInWord) (recursion-weaker Clear IsInWord (λ b both. (other_byte b 32 both.0, other_byte b 10 both.1))) (words_of part)
      (all_both2 (λ b. (b == 32) ≡ false) (λ b. (b == 10) ≡ false) (words_of part) (split_parts_clean (λ b. b == 32) part) (split_keeps (λ b. (b == 10) ≡ false) (λ b. b == 32) part h)),
)

lines_are : (parts : List (List ℕ)) → AllByRecursion (AllByRecursion (λ b. (b == 10) ≡ false)) parts → AllByRecursion IsLine (lines_in parts)
lines_are [] h = tt
lines_are (p ∷ ps) (h, hs) = (line_is p h, lines_are ps hs)

pub regroup : (w t last : List ℕ) → w ++ 10 ∷ (t ++ last) ≡ ((w ++ 10 ∷ []) ++ t) ++ last
regroup w t last = sym (ap (λ l. l ++ last) (append_assoc w (10 ∷ []) t) ∙ append_assoc w (10 ∷ t) last)

-- The split bytes are the text of the lines and the bytes after the last LF.
joined : (parts : List (List ℕ)) (last : List ℕ) → join_with_byte 10 (parts ++ last ∷ []) ≡ text (lines_in parts) ++ last
joined [] last = refl
joined (p ∷ []) last = ap (λ l. l ++ 10 ∷ last) (sym (join_with_byte-slice_split 32 p)) ∙ regroup (join_with_byte 32 (words_of p)) [] last
joined (p ∷ q ∷ ps) last = ap (λ l. l ++ 10 ∷ join_with_byte 10 (q ∷ ps ++ last ∷ [])) (sym (join_with_byte-slice_split 32 p)) ∙ ap (λ l. join_with_byte 32 (words_of p) ++ 10 ∷ l) (joined (q ∷ ps) last) ∙ regroup (join_with_byte 32 (words_of p)) (text (lines_in (q ∷ ps))) last

pub record IsCut (bytes : List ℕ) (parts : List (List ℕ)) (tail : List ℕ) : Type 0 where
  pub split : bytes ≡ text (lines_in parts) ++ tail
  pub are_lines : AllByRecursion IsLine (lines_in parts)
  pub last : AllByRecursion (λ b. b ≢ 10) tail

pub is_cut : (bytes : List ℕ) (parts : List (List ℕ)) (last : List ℕ) → parts ++ last ∷ [] ≡ slice_split (λ b. b == 10) bytes → IsCut bytes parts last
is_cut bytes parts last e =
    let all = all_front (AllByRecursion (λ b. (b == 10) ≡ false)) parts (last ∷ []) (subst (AllByRecursion (AllByRecursion (λ b. (b == 10) ≡ false))) (sym e) (split_parts_clean (λ b. b == 10) bytes)) in
    record {
      split = sym (join_with_byte-slice_split 10 bytes) ∙ ap (join_with_byte 10) (sym e) ∙ joined parts last;
      are_lines = lines_are parts all.0;
      last = recursion-weaker (λ b. (b == 10) ≡ false) (λ b. b ≢ 10) (λ b k. other_byte b 10 k) last all.1.0;
    }

-- If the lines are a whole file, the bytes spell a table; otherwise the bytes have a bad line of the kind that the
-- lines give.

pub cut_whole : (bytes : List ℕ) (parts : List (List ℕ)) (last : List ℕ) (raw : RawTable) → IsCut bytes parts last → length last ≡ 0 → Spells (lines_in parts) raw → IsFileOf bytes raw
cut_whole bytes parts [] raw c e (s, same) = record { spelled = s; words = subst (AllByRecursion IsLine) same c.are_lines; bytes_are = c.split ∙ append-nil (text (lines_in parts)) ∙ ap text same }
cut_whole bytes parts (b ∷ bs) raw c e s = absurd (omega (arith, e))

pub cut_early : (bytes : List ℕ) (parts : List (List ℕ)) (last : List ℕ) → IsCut bytes parts last → length last ≡ 0 → Begins (lines_in parts) → ((raw : RawTable) → Spells (lines_in parts) raw → ⊥) → (n : ℕ) → n ≡ max 1 (length parts) → IsBadLine bytes n
cut_early bytes parts [] c e b s n h = IsBadLine.early (lines_in parts) (c.split ∙ append-nil (text (lines_in parts))) c.are_lines b s (h ∙ ap (max 1) (sym (length-map parts words_of)))
cut_early bytes parts (x ∷ xs) c e b s n h = absurd (omega (arith, e))

pub cut_unended : (bytes : List ℕ) (parts : List (List ℕ)) (last : List ℕ) → IsCut bytes parts last → 0 < length last → Begins (lines_in parts) → (n : ℕ) → n ≡ length parts + 1 → IsBadLine bytes n
cut_unended bytes parts last c e b n h = IsBadLine.unended (lines_in parts) last c.split c.are_lines c.last (λ f. omega (arith, e, ap length f)) b (h ∙ ap (λ k. k + 1) (sym (length-map parts words_of)))

pub cut_misplaced : (bytes : List ℕ) (parts : List (List ℕ)) (last : List ℕ) → IsCut bytes parts last → (n : ℕ) → IsMisplaced (lines_in parts) n → IsBadLine bytes n
cut_misplaced bytes parts last c n m =
    let all = all_front IsLine m.before (m.line ∷ m.rest) (subst (AllByRecursion IsLine) m.split c.are_lines) in
    IsBadLine.misplaced m.before m.line (text m.rest ++ last)
    (c.split ∙ ap (λ l. text l ++ last) m.split ∙ ap (λ l. l ++ last) (flat_map-append line_text m.before (m.line ∷ m.rest)) ∙ append_assoc (text m.before) (line_text m.line ++ text m.rest) last ∙ ap (λ l. text m.before ++ l) (append_assoc (line_text m.line) (text m.rest) last))
    all.0 all.1.0 m.begins m.first m.number

fault_reading : (f : TabFault) (bytes : List ℕ) (parts : List (List ℕ)) (last : List ℕ) → IsCut bytes parts last → ReadsLines (lines_in parts) (Err f) → IsReading bytes (Err f)
fault_reading faults.Version bytes parts last c h = absurd h
fault_reading (faults.TabShape n) bytes parts last c h = cut_misplaced bytes parts last c n h
fault_reading faults.Memory bytes parts last c h = tt

end_reading : (result : Result RawTable TabFault) (bytes : List ℕ) (parts : List (List ℕ)) (last : List ℕ) (r : Reader) (n : ℕ) → IsCut bytes parts last → length last ≡ 0 → run initial_reader (lines_in parts) ≡ run r [] → n ≡ max 1 (length parts) → IsFinished (finish r) n result → IsReading bytes result
end_reading (Ok raw) bytes parts last r n c e f h g = cut_whole bytes parts last raw c e (read_lines_spell (lines_in parts) r raw f g)
end_reading (Err faults.Version) bytes parts last r n c e f h g = absurd g
end_reading (Err (faults.TabShape k)) bytes parts last r n c e f h (g, i) = cut_early bytes parts last c e (read_lines_begin (lines_in parts) r f) (λ raw. read_lines_incomplete (lines_in parts) r raw f g) k (i ∙ h)
end_reading (Err faults.Memory) bytes parts last r n c e f h g = tt

-- The same lemmas for parts that are borrowed from the bytes.

abbrev pub bytes_of_parts : List (Bor (List ℕ)) → List (List ℕ)
bytes_of_parts parts = map (λ x. x.now) parts

pub cut_at : (bytes : List ℕ) (parts : List (Bor (List ℕ))) (n : ℕ) (d : Bor (List ℕ)) → bytes_of_parts parts ≡ slice_split (λ b. b == 10) bytes → length parts ≡ suc n → IsCut bytes (bytes_of_parts (take n parts)) (get_or parts n d).now
cut_at bytes parts n d e some = is_cut bytes (bytes_of_parts (take n parts)) (get_or parts n d).now
    (sym (map_push (λ (x : Bor (List ℕ)). x.now) (take n parts) (get_or parts n d)) ∙ ap bytes_of_parts (sym (take-suc parts n d (omega (arith, some)))) ∙ ap (λ k. bytes_of_parts (take k parts)) (sym some) ∙ ap bytes_of_parts (take_all (length parts) parts (omega arith)) ∙ e)

seen_length : (parts : List (Bor (List ℕ))) (n : ℕ) → length parts ≡ suc n → n ≡ length (bytes_of_parts (take n parts))
seen_length parts n e = sym (length-map (take n parts) (λ x. x.now) ∙ length-take-le n parts (omega (arith, e)))

refused_by : (bytes : List ℕ) (parts : List (Bor (List ℕ))) (n : ℕ) (d : Bor (List ℕ)) (f : TabFault) → bytes_of_parts parts ≡ slice_split (λ b. b == 10) bytes → length parts ≡ suc n → ReadsLines (lines_in (bytes_of_parts (take n parts))) (Err f) → IsReading bytes (Err f)
refused_by bytes parts n d f e some h = fault_reading f bytes (bytes_of_parts (take n parts)) (get_or parts n d).now (cut_at bytes parts n d e some) h

pub refused : (bytes : List ℕ) (parts : List (Bor (List ℕ))) (n : ℕ) (f : TabFault) → bytes_of_parts parts ≡ slice_split (λ b. b == 10) bytes → length parts ≡ suc n → ReadsLines (lines_in (bytes_of_parts (take n parts))) (Err f) → IsReading bytes (Err f)
refused bytes [] n f e some h = absurd (omega (arith, some))
refused bytes (p ∷ ps) n f e some h = refused_by bytes (p ∷ ps) n p f e some h

pub unended : (bytes : List ℕ) (parts : List (Bor (List ℕ))) (n : ℕ) (d : Bor (List ℕ)) (r : Reader) → bytes_of_parts parts ≡ slice_split (λ b. b == 10) bytes → length parts ≡ suc n → run initial_reader (lines_in (bytes_of_parts (take n parts))) ≡ run r [] → 0 < length (get_or parts n d).now → IsBadLine bytes (n + 1)
unended bytes parts n d r e some f h = cut_unended bytes (bytes_of_parts (take n parts)) (get_or parts n d).now (cut_at bytes parts n d e some) h (read_lines_begin (lines_in (bytes_of_parts (take n parts))) r f) (n + 1) (ap (λ k. k + 1) (seen_length parts n some))

pub finished : (bytes : List ℕ) (parts : List (Bor (List ℕ))) (n m : ℕ) (d : Bor (List ℕ)) (r : Reader) (result : Result RawTable TabFault) → bytes_of_parts parts ≡ slice_split (λ b. b == 10) bytes → length parts ≡ suc n → run initial_reader (lines_in (bytes_of_parts (take n parts))) ≡ run r [] → length (get_or parts n d).now ≤ 0 → m ≡ max 1 n → IsFinished (finish r) m result → IsReading bytes result
finished bytes parts n m d r result e some f h i g = end_reading result bytes (bytes_of_parts (take n parts)) (get_or parts n d).now r m (cut_at bytes parts n d e some) (omega (arith, h)) f (i ∙ ap (max 1) (seen_length parts n some)) g

-- Bytes have at least one part, and at most one part more than they have bytes.

short_by : {X : Type 0} (b : Bool) (x : X) (parts : List (List X)) (n : ℕ) → length parts ≤ n → length (cond b ([] ∷ parts) (onto_first x parts)) ≤ n + 1
short_by true x parts n h = omega (arith, h)
short_by false x [] n h = omega (arith, h)
short_by false x (part ∷ parts) n h = omega (arith, h)

short : {X : Type 0} (p : X → Bool) (xs : List X) → length (slice_split p xs) ≤ length xs + 1
short p [] = omega arith
short p (x ∷ xs) = omega (arith, short_by (p x) x (slice_split p xs) (length xs + 1) (short p xs))

pub parts_some : (bytes : List ℕ) (parts : List (Bor (List ℕ))) → bytes_of_parts parts ≡ slice_split (λ b. b == 10) bytes → 0 < length parts
parts_some bytes parts e = omega (arith, sym (length-map parts (λ x. x.now)) ∙ ap length e, some_length (slice_split (λ b. b == 10) bytes) (split_some (λ b. b == 10) bytes))

pub parts_few : (bytes : List ℕ) (parts : List (Bor (List ℕ))) → bytes_of_parts parts ≡ slice_split (λ b. b == 10) bytes → length parts ≤ length bytes + 1
parts_few bytes parts e = omega (arith, sym (length-map parts (λ x. x.now)) ∙ ap length e, short (λ b. b == 10) bytes)

-- The first line of a file of another version.

other_by : (o : Option ℕ) → is_other_number o ≡ true → (n : ℕ) × (o ≡ Some n) × (n ≢ 1) × (n ≢ 2)
other_by None e = absurd (true≢false (sym e))
other_by (Some n) e = let h = and_parts (not (n == 1)) (not (n == 2)) e in (n, refl, not_equal n 1 h.0, not_equal n 2 h.1)

mode_by : (o : Option Mode) → is_mode o ≡ true → (m : Mode) × (o ≡ Some m)
mode_by None e = absurd (true≢false (sym e))
mode_by (Some m) e = (m, refl)

record IsOtherHead (ws : Line) : Type 0 where
  version : ℕ
  mode : Mode
  number : IsNumber version
  not_one : version ≢ 1
  not_two : version ≢ 2
  are : ws ≡ codes "menhir-tables" ∷ decimal version ∷ mode_name mode ∷ []

other_head : (ws : Line) → is_other_head ws ≡ true → IsOtherHead ws
unfolding is_other_head
other_head [] e = absurd (true≢false (sym e))
other_head (w ∷ []) e = absurd (true≢false (sym e))
other_head (w ∷ v ∷ []) e = absurd (true≢false (sym e))
other_head (w ∷ v ∷ m ∷ []) e = elim (cond_cases (same_word w (codes "menhir-tables")) (cond (is_other_number (number_of v)) (is_mode (mode_of m)) false) false true e) [
  | inl (b, f) ↦ elim (cond_cases (is_other_number (number_of v)) (is_mode (mode_of m)) false true f) [
    | inl (c, g) ↦
        let (n, h, one, two) = other_by (number_of v) c in
        let (mode, k) = mode_by (mode_of m) g in
        let number = number_sound v n h in
        record {
          version = n;
          mode = mode;
          number = number.0;
          not_one = one;
          not_two = two;
          are = ap (λ x. x ∷ v ∷ m ∷ []) (same_text w (codes "menhir-tables") (sym b)) ∙ ap (λ x. codes "menhir-tables" ∷ x ∷ m ∷ []) number.1 ∙ ap (λ x. codes "menhir-tables" ∷ decimal n ∷ x ∷ []) (mode_sound m mode k);
        }
    | inr (c, g) ↦ absurd (true≢false (sym g))
  ]
  | inr (b, f) ↦ absurd (true≢false (sym f))
]
other_head (w ∷ v ∷ m ∷ x ∷ ws) e = absurd (true≢false (sym e))

first_part : (bytes first : List ℕ) (parts : List (List ℕ)) → first ∷ parts ≡ slice_split (λ b. b == 10) bytes → (rest : List ℕ) × ((rest ≡ []) ⊎ ((more : List ℕ) × (rest ≡ 10 ∷ more))) × (bytes ≡ first ++ rest)
first_part bytes first [] e = ([], inl refl, sym (join_with_byte-slice_split 10 bytes) ∙ ap (join_with_byte 10) (sym e) ∙ sym (append-nil first))
first_part bytes first (p ∷ ps) e = (10 ∷ join_with_byte 10 (p ∷ ps), inr (join_with_byte 10 (p ∷ ps), refl), sym (join_with_byte-slice_split 10 bytes) ∙ ap (join_with_byte 10) (sym e))

other_of : (bytes first : List ℕ) → IsOtherHead (words_of first) → (rest : List ℕ) × ((rest ≡ []) ⊎ ((more : List ℕ) × (rest ≡ 10 ∷ more))) × (bytes ≡ first ++ rest) → IsOtherVersion bytes
other_of bytes first h (rest, ends, whole) = record { version = h.version; mode = h.mode; number = h.number; not_one = h.not_one; not_two = h.not_two; rest = rest; ends = ends; first = whole ∙ ap (λ l. l ++ rest) (sym (join_with_byte-slice_split 32 first) ∙ ap (join_with_byte 32) h.are) }

pub other_version : (bytes : List ℕ) (parts : List (Bor (List ℕ))) (ws : Line) → bytes_of_parts parts ≡ slice_split (λ b. b == 10) bytes → 0 < length parts → ws ≡ words_of (first_line (bytes_of_parts parts)) → is_other_head ws ≡ true → IsOtherVersion bytes
other_version bytes [] ws e some i h = absurd (omega (arith, some))
other_version bytes (p ∷ ps) ws e some i h = other_of bytes p.now (subst IsOtherHead i (other_head ws h)) (first_part bytes p.now (bytes_of_parts ps) e)

-- The bytes after the last LF.

pub some_after : (xs : List ℕ) → (length xs == 0) ≡ false → 0 < length xs
some_after [] e = absurd (true≢false (sym (eq-eqb 0 0 refl) ∙ e))
some_after (x ∷ xs) e = omega arith

pub none_after : (xs : List ℕ) → (length xs == 0) ≡ true → length xs ≤ 0
none_after xs e = let none : length xs ≡ 0 = eqb-true (length xs) 0 e in omega (arith, none)
