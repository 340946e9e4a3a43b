-- Proves that the number of the first bad line of a file is unique.
use Rattle.std.proofs.Common.{inl, inr, ◌⊎◌, ◌≡◌, ◌≢◌, ◌+◌, ◌<◌, ◌≤◌, ◌==◌, ℕ, false, List, [], ◌∷◌, ◌++◌, length, map, refl, sym, ap, ◌∙◌, subst, arith, append_assoc, append-nil, length-append}
use Rattle.std.specs.Prelude.{max}
use Rattle.std.specs.List.{slice_split, join_with_byte}
use Rattle.std.proofs.lemmas.List.Elements.{All-from_recursion}
use Rattle.std.proofs.lemmas.List.Splits.{slice_split_none, join_with_byte-slice_split}
use Rattle.mh_tabfile_read.specs.Reading.{IsBadLine}
use Rattle.mh_tabfile_form.specs.Form.{Line, line_text, Spells, Begins}
use Rattle.mh_tabfile_read.specs.code.Lines.{words_of}
use Rattle.std.proofs.lemmas.Bool.{cases_lt}
use Rattle.std.proofs.lemmas.List.{same_from_push}
use Rattle.mh_grammar.proofs.Lists.{some_length, map_some}
use Rattle.mh_tabfile_read.proofs.SplitLines.{split_some}
use Rattle.mh_tabfile_read.proofs.ReadingUnique.{no_lf_bool, view, view_of_text, view_whole}

longer : {X : Type 0} (xs ys zs ts : List X) (x : X) → ys ++ x ∷ zs ≡ xs ++ ts → length ys < length xs → (more : List X) × (xs ≡ (ys ++ x ∷ []) ++ more)
longer [] ys zs ts x e lt = absurd (omega (arith, lt))
longer (a ∷ aa) [] zs ts x e lt = (aa, (let same : x ≡ a = cc in ap (λ k. k ∷ aa) (sym same)))
longer (a ∷ aa) (y ∷ ys) zs ts x e lt =
    let same : y ≡ a = cc in
    let rest : ys ++ x ∷ zs ≡ aa ++ ts = cc in
    let k = longer aa ys zs ts x rest (omega (arith, lt)) in
    (k.0, ap (λ l. l ∷ aa) (sym same) ∙ ap (λ l. y ∷ l) k.1)

begins_front : (ls more : List Line) → Begins (ls ++ more) → Begins ls
begins_front ls more (rest, raw, s) = (more ++ rest, raw, subst (λ l. Spells l raw) (append_assoc ls more rest) s)

-- The three ways in which a line can be the first bad one, stated by this line and the lines after it.
data Kind (before tail : List Line) (n : ℕ) : Type 0 where
  Blocked : (line : Line) (more : List Line) → tail ≡ line ∷ more → more ≢ [] → (Begins (before ++ line ∷ []) → ⊥) → n ≡ length before + 1 → Kind before tail n
  Unended : (words : Line) → tail ≡ words ∷ [] → words ≢ [] ∷ [] → n ≡ length before + 1 → Kind before tail n
  Early : tail ≡ ([] ∷ []) ∷ [] → n ≡ max 1 (length before) → Kind before tail n

record Bad (bytes : List ℕ) (n : ℕ) : Type 0 where
  before : List Line
  tail : List Line
  split : view bytes ≡ before ++ tail
  begins : Begins before
  kind : Kind before tail n

bad : (bytes : List ℕ) (n : ℕ) → IsBadLine bytes n → Bad bytes n
bad bytes n (IsBadLine.misplaced before line rest e hb hl b never k) =
    let here : view (line_text line ++ rest) ≡ line ∷ view rest = ap (λ l. view (l ++ rest)) (sym (append-nil (line_text line))) ∙ view_of_text (line ∷ []) rest (hl, tt) in
    record {
      before = before;
      tail = line ∷ view rest;
      split = ap view e ∙ view_of_text before (line_text line ++ rest) hb ∙ ap (λ l. before ++ l) here;
      begins = b;
      kind = Blocked line (view rest) refl (map_some words_of (slice_split (λ c. c == 10) rest) (split_some (λ c. c == 10) rest)) never k;
    }
bad bytes n (IsBadLine.unended before last e hb hl some b k) =
    let alone : view last ≡ words_of last ∷ [] = ap (map words_of) (slice_split_none (λ c. c == 10) last (All-from_recursion (λ c. (c == 10) ≡ false) last (no_lf_bool last hl))) in
    record {
      before = before;
      tail = words_of last ∷ [];
      split = ap view e ∙ view_of_text before last hb ∙ ap (λ l. before ++ l) alone;
      begins = b;
      kind = Unended (words_of last) refl (λ same. some (sym (join_with_byte-slice_split 32 last) ∙ ap (join_with_byte 32) same)) k;
    }
bad bytes n (IsBadLine.early lines e hl b never k) =
    record { before = lines; tail = ([] ∷ []) ∷ []; split = ap view e ∙ view_whole lines hl; begins = b; kind = Early refl k }

-- In each of the three cases at least one line remains.
tail_some : (before tail : List Line) (n : ℕ) → Kind before tail n → 0 < length tail
tail_some before tail n (Blocked line more e some never k) = rw e (omega arith)
tail_some before tail n (Unended words e some k) = rw e (omega arith)
tail_some before tail n (Early e k) = rw e (omega arith)

-- If only one line remains, the part before it is the longest proper prefix of the lines.
last_first : (before tail other behind : List Line) (x : Line) → tail ≡ x ∷ [] → before ++ tail ≡ other ++ behind → 0 < length behind → length other ≤ length before
last_first before tail other behind x e same some =
    let lengths = ap length same in
    let one : length tail ≡ 1 = ap length e in
    omega (arith, lengths, one, some, length-append before tail, length-append other behind)

not_longer : (before tail other behind : List Line) (n : ℕ) → Kind before tail n → before ++ tail ≡ other ++ behind → Begins other → 0 < length behind → length other ≤ length before
not_longer before tail other behind n (Blocked line more e some never k) same begins behind_some = elim (cases_lt (length before) (length other)) [
  | inl over ↦ (
      let k = longer other before more behind line (ap (λ l. before ++ l) (sym e) ∙ same) over in
      absurd (never (begins_front (before ++ line ∷ []) k.0 (subst Begins k.1 begins))))
  | inr within ↦ within
]
not_longer before tail other behind n (Unended words e some k) same begins behind_some = last_first before tail other behind words e same behind_some
not_longer before tail other behind n (Early e k) same begins behind_some = last_first before tail other behind ([] ∷ []) e same behind_some

-- A file that ends too early has no refused line and no unfinished line at the same position.
not_blocked : (before tail other behind : List Line) (line : Line) (more : List Line) → length before ≡ length other → tail ≡ ([] ∷ []) ∷ [] → before ++ tail ≡ other ++ behind → behind ≡ line ∷ more → more ≢ [] → ⊥
not_blocked before tail other behind line more len e same f some =
    let lengths = ap length same in
    let one : length tail ≡ 1 = ap length e in
    let two : length behind ≡ length (line ∷ more) = ap length f in
    let three = some_length more some in
    omega (arith, lengths, one, two, len, three, length-append before tail, length-append other behind)

not_unended : (before tail other behind : List Line) (words : Line) → tail ≡ ([] ∷ []) ∷ [] → before ++ tail ≡ other ++ behind → behind ≡ words ∷ [] → words ≢ [] ∷ [] → ⊥
not_unended before tail other behind words e same f some =
    some (sym (same_from_push before other ([] ∷ []) words (ap (λ l. before ++ l) (sym e) ∙ same ∙ ap (λ l. other ++ l) f)).1)

numbers : (before tail other behind : List Line) (n m : ℕ) → length before ≡ length other → before ++ tail ≡ other ++ behind → Kind before tail n → Kind other behind m → n ≡ m
numbers before tail other behind n m len same (Early e k) (Early f l) = k ∙ ap (λ c. max 1 c) len ∙ sym l
numbers before tail other behind n m len same (Early e k) (Blocked line more f some never l) = absurd (not_blocked before tail other behind line more len e same f some)
numbers before tail other behind n m len same (Early e k) (Unended words f some l) = absurd (not_unended before tail other behind words e same f some)
numbers before tail other behind n m len same (Blocked line more f some never k) (Early e l) = absurd (not_blocked other behind before tail line more (sym len) e (sym same) f some)
numbers before tail other behind n m len same (Unended words f some k) (Early e l) = absurd (not_unended other behind before tail words e (sym same) f some)
numbers before tail other behind n m len same (Blocked line more f some never k) (Blocked line' more' f' some' never' l) = k ∙ ap (λ c. c + 1) len ∙ sym l
numbers before tail other behind n m len same (Blocked line more f some never k) (Unended words' f' some' l) = k ∙ ap (λ c. c + 1) len ∙ sym l
numbers before tail other behind n m len same (Unended words f some k) (Blocked line' more' f' some' never' l) = k ∙ ap (λ c. c + 1) len ∙ sym l
numbers before tail other behind n m len same (Unended words f some k) (Unended words' f' some' l) = k ∙ ap (λ c. c + 1) len ∙ sym l

pub one_bad_line : (bytes : List ℕ) (n m : ℕ) → IsBadLine bytes n → IsBadLine bytes m → n ≡ m
one_bad_line bytes n m h k =
    let x = bad bytes n h in
    let y = bad bytes m k in
    let same : x.before ++ x.tail ≡ y.before ++ y.tail = sym x.split ∙ y.split in
    let up : length y.before ≤ length x.before = not_longer x.before x.tail y.before y.tail n x.kind same y.begins (tail_some y.before y.tail m y.kind) in
    let down : length x.before ≤ length y.before = not_longer y.before y.tail x.before x.tail m y.kind (sym same) x.begins (tail_some x.before x.tail n x.kind) in
    numbers x.before x.tail y.before y.tail n m (omega (arith, up, down)) same x.kind y.kind
