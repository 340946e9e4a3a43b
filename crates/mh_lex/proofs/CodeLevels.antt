-- Lemmas on how code is closed, level by level: the invariant of `code_length`.
use Rattle.std.proofs.Common.{◌≡◌, ℕ, zero, suc, ◌+◌, ◌<◌, ◌-◌, Bool, true, false, cond, List, [], ◌∷◌, Option, Some, None, drop, refl, sym, subst, ◌∙◌, arith, add-one}
use Rattle.std.specs.Prelude.{nat_lt}
use Rattle.std.proofs.lemmas.List.{drop-drop}
use Rattle.mh_lex.specs.declared.code.Delimiter.{Delimiter}
use Rattle.mh_lex.specs.declared.code.Delimiter.TheVariants.{Comment, Brace, Bracket, Header, Angle, Slash}
use Rattle.mh_lex.specs.declared.code.CodeStep.{CodeStep}
use Rattle.mh_lex.specs.declared.code.CodeStep.TheVariants.{Closes, Passes, Nests, Remark, Stuck}
use Rattle.mh_lex_bytes.specs.Bytes.{byte_at, has, is_at_end, is_word_start}
use Rattle.mh_lex.specs.LexemeLengths.{string_rest, literal, quoted_opening, quoted_id, quoted_rest}
use Rattle.mh_lex.specs.code.Scans.{innermost_of}
use Rattle.mh_lex.specs.CodeSteps.{step_past, begins_comment, step_over_one, closer_length, step}
use Rattle.mh_lex.specs.Bodies.{Body}
use Rattle.mh_lex.specs.Bodies.Body.{closes, passes, nests, remark}

-- A property of each closing delimiter is a property of all.
pub each_end : (P : Delimiter → Type 0) → P Comment → P Brace → P Bracket → P Header → P Angle → P Slash → (e : Delimiter) → P e
each_end P comment brace bracket header angle slash Comment = comment
each_end P comment brace bracket header angle slash Brace = brace
each_end P comment brace bracket header angle slash Bracket = bracket
each_end P comment brace bracket header angle slash Header = header
each_end P comment brace bracket header angle slash Angle = angle
each_end P comment brace bracket header angle slash Slash = slash

-- Each kind of step of the scan says how the rest of the code goes on.
pub Body-closes : {e : Delimiter} {bytes rest : List ℕ} {n : ℕ} → step e bytes ≡ Closes n → Body e bytes rest → rest ≡ drop n bytes
Body-closes s (closes t q) = cc
Body-closes s (passes t b) = cc
Body-closes s (nests t b c) = cc
Body-closes s (remark t b c) = cc

pub Body-passes : {e : Delimiter} {bytes rest : List ℕ} {n : ℕ} → step e bytes ≡ Passes n → Body e bytes rest → Body e (drop n bytes) rest
Body-passes s (closes t q) = cc
Body-passes {e} {bytes} {rest} {n} s (passes {n = m} t b) = let same : m ≡ n = cc in subst (λ k. Body e (drop k bytes) rest) same b
Body-passes s (nests t b c) = cc
Body-passes s (remark t b c) = cc

pub Body-nests : {e : Delimiter} {bytes rest : List ℕ} → step e bytes ≡ Nests → Body e bytes rest → (mid : List ℕ) × Body e (drop 1 bytes) mid × Body e mid rest
Body-nests s (closes t q) = cc
Body-nests s (passes t b) = cc
Body-nests s (nests {mid = mid} t b c) = (mid, b, c)
Body-nests s (remark t b c) = cc

pub Body-remark : {e : Delimiter} {bytes rest : List ℕ} → step e bytes ≡ Remark → Body e bytes rest → (mid : List ℕ) × Body Comment (drop 2 bytes) mid × Body e mid rest
Body-remark s (closes t q) = cc
Body-remark s (passes t b) = cc
Body-remark s (nests t b c) = cc
Body-remark s (remark {mid = mid} t b c) = (mid, b, c)

pub Body-stuck : {e : Delimiter} {bytes rest : List ℕ} → step e bytes ≡ Stuck → Body e bytes rest → ⊥
Body-stuck s (closes t q) = cc
Body-stuck s (passes t b) = cc
Body-stuck s (nests t b c) = cc
Body-stuck s (remark t b c) = cc

-- The end of the code is unique.
pub Body-unique : {e : Delimiter} {bytes one two : List ℕ} → Body e bytes one → Body e bytes two → two ≡ one
Body-unique {e} {bytes} {one} {two} (closes {n = n} s q) b = Body-closes s b ∙ sym q
Body-unique (passes s a) b = Body-unique a (Body-passes s b)
Body-unique {e} {bytes} {one} {two} (nests {mid = mid} s a c) b = let x = Body-nests s b in let same = Body-unique a x.1 in Body-unique c (subst (λ m. Body e m two) same x.2)
Body-unique {e} {bytes} {one} {two} (remark {mid = mid} s a c) b = let x = Body-remark s b in let same = Body-unique a x.1 in Body-unique c (subst (λ m. Body e m two) same x.2)

-- The open levels are closed one after the other, the innermost first.
abbrev pub Closing : List Delimiter → List ℕ → List ℕ → Type 0
Closing [] now rest = rest ≡ now
Closing (e ∷ es) now rest = (mid : List ℕ) × Body e now mid × Closing es mid rest

-- The invariant of scanning code: from `start` to `now` the bytes were passed over, and the levels `es` are open. The
-- code ends at `rest` exactly if the open levels do.
pub record Inside (e : Delimiter) (start now : List ℕ) (es : List Delimiter) : Type 0 where
  pub sound : (rest : List ℕ) → Closing es now rest → Body e start rest
  pub complete : (rest : List ℕ) → Body e start rest → Closing es now rest

pub Inside-start : (e : Delimiter) (start : List ℕ) → Inside e start start (e ∷ [])
Inside-start e start = record {
  sound = λ rest l. subst (λ m. Body e start m) (sym l.2) l.1;
  complete = λ rest b. (rest, b, refl);
}

Inside-done : {e : Delimiter} {start now : List ℕ} → Inside e start now [] → Body e start now
Inside-done {now = now} i = i.sound now refl

module _ {e top : Delimiter} {start now : List ℕ} {es : List Delimiter} (i : Inside e start now (top ∷ es)) where
  Inside-passes : {n : ℕ} → step top now ≡ Passes n → Inside e start (drop n now) (top ∷ es)
  Inside-passes s = record {
    sound = λ rest l. i.sound rest (l.0, passes s l.1, l.2);
    complete = λ rest b. let l = i.complete rest b in (l.0, Body-passes s l.1, l.2);
  }

  Inside-nests : step top now ≡ Nests → Inside e start (drop 1 now) (top ∷ top ∷ es)
  Inside-nests s = record {
    sound = λ rest l. i.sound rest (l.2.0, nests s l.1 l.2.1, l.2.2);
    complete = λ rest b. let l = i.complete rest b in let x = Body-nests s l.1 in (x.0, x.1, (l.0, x.2, l.2));
  }

  Inside-remark : step top now ≡ Remark → Inside e start (drop 2 now) (Comment ∷ top ∷ es)
  Inside-remark s = record {
    sound = λ rest l. i.sound rest (l.2.0, remark s l.1 l.2.1, l.2.2);
    complete = λ rest b. let l = i.complete rest b in let x = Body-remark s l.1 in (x.0, x.1, (l.0, x.2, l.2));
  }

  Inside-closes : {n : ℕ} → step top now ≡ Closes n → Inside e start (drop n now) es
  Inside-closes {n} s = record {
    sound = λ rest l. i.sound rest (drop n now, closes s refl, l);
    complete = λ rest b. let l = i.complete rest b in subst (λ m. Closing es m rest) (Body-closes s l.1) l.2;
  }

  Inside-stuck : step top now ≡ Stuck → (rest : List ℕ) → Body e start rest → ⊥
  Inside-stuck s rest b = Body-stuck s (i.complete rest b).1

-- In a comment no byte opens a level.
record IsFlat (f : CodeStep) : Type 0 where
  not_nesting : f ≡ Nests → ⊥

flat_cond : {x y : CodeStep} (b : Bool) → IsFlat x → IsFlat y → IsFlat (cond b x y)
flat_cond true f g = f
flat_cond false f g = g

flat_closes : {n : ℕ} → IsFlat (Closes n)
flat_closes = record { not_nesting = λ e. cc }

flat_passes : {n : ℕ} → IsFlat (Passes n)
flat_passes = record { not_nesting = λ e. cc }

flat_remark : IsFlat Remark
flat_remark = record { not_nesting = λ e. cc }

flat_stuck : IsFlat Stuck
flat_stuck = record { not_nesting = λ e. cc }

flat_passed : (opening : ℕ) (o : Option ℕ) → IsFlat (step_past opening o)
flat_passed opening None = flat_stuck
flat_passed opening (Some n) = flat_passes

flat_item : (s : List ℕ) → IsFlat (step_over_one Comment s)
unfolding step_over_one
flat_item s = flat_cond (has s 0 34) (flat_passed 1 (string_rest false (drop 1 s))) (flat_cond (nat_lt 0 (literal s)) flat_passes
    (flat_cond (is_word_start (byte_at s 0)) flat_passes
    (flat_cond (nat_lt 0 (quoted_opening s)) (flat_passed (quoted_opening s) (quoted_rest (quoted_id (quoted_opening s) s) (drop (quoted_opening s) s)))
    (flat_cond (is_at_end s) flat_stuck flat_passes))))

flat_comment : (s : List ℕ) → IsFlat (step Comment s)
unfolding step
flat_comment s = flat_cond (nat_lt 0 (closer_length Comment s)) flat_closes (flat_cond (begins_comment s) flat_remark (flat_item s))

-- Comments are the innermost levels.
pub innermost_code : (code : Delimiter) (remarks : ℕ) → remarks ≡ 0 → code ≡ innermost_of code remarks
innermost_code code zero h = refl
innermost_code code (suc remarks) h = absurd (omega arith)

pub innermost_comment : (code : Delimiter) (remarks : ℕ) → 0 < remarks → Comment ≡ innermost_of code remarks
innermost_comment code zero h = absurd (omega arith)
innermost_comment code (suc remarks) h = refl

-- The open levels, by their counts: the levels of the code itself, and inside them comments.
abbrev pub outers : Delimiter → ℕ → List Delimiter
outers code zero = code ∷ []
outers code (suc outer) = code ∷ outers code outer

abbrev pub levels : Delimiter → ℕ → ℕ → List Delimiter
levels code zero outer = outers code outer
levels code (suc remarks) outer = Comment ∷ levels code remarks outer

-- The open levels without the innermost.
abbrev pub around : Delimiter → ℕ → ℕ → List Delimiter
around code zero zero = []
around code zero (suc outer) = outers code outer
around code (suc remarks) outer = levels code remarks outer

levels_are : (code : Delimiter) (outer remarks : ℕ) → levels code remarks outer ≡ innermost_of code remarks ∷ around code remarks outer
levels_are code zero zero = refl
levels_are code (suc outer) zero = refl
levels_are code outer (suc remarks) = refl

-- The invariant at a position of the bytes, after each kind of step.
module _ (code : Delimiter) (start : List ℕ) (at outer remarks : ℕ) (i : Inside code start (drop at start) (levels code remarks outer)) where
  told : Inside code start (drop at start) (innermost_of code remarks ∷ around code remarks outer)
  told = subst (λ es. Inside code start (drop at start) es) (levels_are code outer remarks) i

  pub passes_at : (n : ℕ) → Passes n ≡ step (innermost_of code remarks) (drop at start) → Inside code start (drop (at + n) start) (levels code remarks outer)
  passes_at n s = subst (λ es. Inside code start (drop (at + n) start) es) (sym (levels_are code outer remarks))
      (subst (λ m. Inside code start m (innermost_of code remarks ∷ around code remarks outer)) (drop-drop n at start) (Inside-passes told (sym s)))

  pub closes_at : (n : ℕ) → Closes n ≡ step (innermost_of code remarks) (drop at start) → Inside code start (drop (at + n) start) (around code remarks outer)
  closes_at n s = subst (λ m. Inside code start m (around code remarks outer)) (drop-drop n at start) (Inside-closes told (sym s))

  pub remark_at : Remark ≡ step (innermost_of code remarks) (drop at start) → Inside code start (drop (at + 2) start) (levels code (remarks + 1) outer)
  remark_at s = rw (add-one remarks) (subst (λ es. Inside code start (drop (at + 2) start) (Comment ∷ es)) (sym (levels_are code outer remarks))
      (subst (λ m. Inside code start m (Comment ∷ innermost_of code remarks ∷ around code remarks outer)) (drop-drop 2 at start) (Inside-remark told (sym s))))

  pub stuck_at : Stuck ≡ step (innermost_of code remarks) (drop at start) → (rest : List ℕ) → Body code start rest → ⊥
  stuck_at s = Inside-stuck told (sym s)

pub nests_at : (code : Delimiter) (start : List ℕ) (at outer remarks : ℕ) → Inside code start (drop at start) (levels code remarks outer) → Nests ≡ step (innermost_of code remarks) (drop at start) →
    Inside code start (drop (at + 1) start) (levels code remarks (outer + 1))
nests_at code start at outer (suc remarks) i s = absurd ((flat_comment (drop at start)).not_nesting (sym s))
nests_at code start at zero zero i s = subst (λ m. Inside code start m (code ∷ code ∷ [])) (drop-drop 1 at start) (Inside-nests i (sym s))
nests_at code start at (suc outer) zero i s =
    rw (add-one (suc outer)) (subst (λ m. Inside code start m (code ∷ code ∷ outers code outer)) (drop-drop 1 at start) (Inside-nests i (sym s)))

-- After the innermost level is closed, the levels around it are the open ones.
pub around_comment : (code : Delimiter) (start now : List ℕ) (outer remarks : ℕ) → 0 < remarks → Inside code start now (around code remarks outer) → Inside code start now (levels code (remarks - 1) outer)
around_comment code start now outer zero h i = absurd (omega arith)
around_comment code start now outer (suc remarks) h i = let less : suc remarks - 1 ≡ remarks = omega arith in rw less i

pub around_level : (code : Delimiter) (start now : List ℕ) (outer remarks : ℕ) → remarks ≡ 0 → 0 < outer → Inside code start now (around code remarks outer) → Inside code start now (levels code remarks (outer - 1))
around_level code start now outer (suc remarks) none h i = absurd (omega arith)
around_level code start now zero zero none h i = absurd (omega arith)
around_level code start now (suc outer) zero none h i = let less : suc outer - 1 ≡ outer = omega arith in rw less i

pub around_all : (code : Delimiter) (start now : List ℕ) (outer remarks : ℕ) → remarks ≡ 0 → outer ≡ 0 → Inside code start now (around code remarks outer) → Body code start now
around_all code start now outer (suc remarks) none h i = absurd (omega arith)
around_all code start now (suc outer) zero none h i = absurd (omega arith)
around_all code start now zero zero none h i = Inside-done i
