-- Lemmas: a call that takes the bytes of a line takes exactly the first line of the bytes that are left.
use Rattle.std.proofs.Common.{◌≡◌, ◌≢◌, ◌<◌, ◌≤◌, ◌+◌, ℕ, suc, true, false, List, [], ◌∷◌, ◌++◌, length, drop, Option, None, Some, Result, Ok, Err, refl, sym, ◌∙◌, ap, arith, inl, inr, append-nil, append_assoc, length-append}
use Rattle.std.proofs.lemmas.List.{drop_at}
use Rattle.std.proofs.lemmas.Bool.Decides.{nat_tests}
use Rattle.std.specs.Prelude.{nat_le, ◌==◌, if◌then◌else◌, Vec}
use Rattle.std.specs.declared.alloc.Global.{Global}
use Rattle.mh_outside.specs.declared.lines.LineFault.{LineFault}
use Rattle.mh_outside.specs.declared.lines.LineFault.TheVariants.{Failed, TooBig, Memory}
use Rattle.mh_outside.specs.Lines.{HasNoLF, TakesLine, ReadsLine, FindsLine, first_line, after_line, first_line_within, line_within, Line, LongLine, NoLine}

-- The bytes after the first one of a line without LF have no LF.
pub HasNoLF-tail : (b : ℕ) (line : List ℕ) → HasNoLF (b ∷ line) → HasNoLF line
HasNoLF-tail b line h k d lt = h (suc k) d (omega arith)

pub not_lf : (b : ℕ) (line : List ℕ) → HasNoLF (b ∷ line) → (b == 10) ≡ false
not_lf b line h = let ne : b ≢ 10 = h 0 0 (omega arith) in grind (arith, nat_tests)

first_line-append : (got rest : List ℕ) → HasNoLF got → first_line (got ++ rest) ≡ got ++ first_line rest
first_line-append [] rest h = refl
first_line-append (b ∷ got) rest h = rw (not_lf b got h) (ap (λ l. b ∷ l) (first_line-append got rest (HasNoLF-tail b got h)))

after_line-append : (got rest : List ℕ) → HasNoLF got → after_line (got ++ rest) ≡ after_line rest
after_line-append [] rest h = refl
after_line-append (b ∷ got) rest h = rw (not_lf b got h) (after_line-append got rest (HasNoLF-tail b got h))

line_within-short : (limit : ℕ) (line : List ℕ) → length line ≤ limit → line_within limit line ≡ Line line
line_within-short limit line le = let fits : nat_le (length line) limit ≡ true = grind (arith, nat_tests) in rw fits

line_within-long : (limit : ℕ) (line : List ℕ) → limit < length line → line_within limit line ≡ LongLine
line_within-long limit line lt = let long : nat_le (length line) limit ≡ false = grind (arith, nat_tests) in rw long

first_line_within-short : (limit : ℕ) (bytes line : List ℕ) → 0 < length bytes → first_line bytes ≡ line → length line ≤ limit → first_line_within limit bytes ≡ Line line
first_line_within-short limit [] line some is le = absurd (omega arith)
first_line_within-short limit (b ∷ bytes) line some is le = ap (line_within limit) is ∙ line_within-short limit line le

first_line_within-long : (limit : ℕ) (bytes : List ℕ) → limit < length (first_line bytes) → first_line_within limit bytes ≡ LongLine
first_line_within-long limit [] lt = absurd (omega arith)
first_line_within-long limit (b ∷ bytes) lt = line_within-long limit (first_line (b ∷ bytes)) lt

first_line_within-some : (limit : ℕ) (bytes : List ℕ) → 0 < length bytes → first_line_within limit bytes ≢ NoLine
first_line_within-some limit [] some none = absurd (omega arith)
first_line_within-some limit (b ∷ bytes) some none =
    elim (nat_le (length (first_line (b ∷ bytes))) limit) as (λ t. (if t then Line (first_line (b ∷ bytes)) else LongLine) ≡ NoLine → ⊥) [ true ↦ λ bad. cc | false ↦ λ bad. cc ] none

takes_line : (limit : ℕ) (bytes left line : List ℕ) → TakesLine (Some bytes) (Some left) line → HasNoLF line → length line ≤ limit → (first_line_within limit bytes ≡ Line line) × (after_line bytes ≡ left)
takes_line limit bytes left line (inl taken) h le =
    let is : bytes ≡ line ++ 10 ∷ left = taken ∙ append_assoc line (10 ∷ []) left in
    let first : first_line bytes ≡ line = ap first_line is ∙ first_line-append line (10 ∷ left) h ∙ append-nil line in (
      first_line_within-short limit bytes line (omega (arith, ap length is, length-append line (10 ∷ left))) first le,
      ap after_line is ∙ after_line-append line (10 ∷ left) h,
    )
takes_line limit bytes left line (inr (taken, none, some)) h le =
    let is : bytes ≡ line ++ [] = taken ∙ ap (λ (l : List ℕ). line ++ l) none in
    let first : first_line bytes ≡ line = ap first_line is ∙ first_line-append line [] h ∙ append-nil line in (
      first_line_within-short limit bytes line (omega (arith, ap length is, length-append line [])) first le,
      ap after_line is ∙ after_line-append line [] h ∙ sym none,
    )

-- A call that takes a line by `ReadsLine` finds the first line of the bytes.
pub finds_line : (limit : ℕ) (old new : Option (List ℕ)) (r : Result (Option (Vec ℕ Global)) LineFault) → ReadsLine limit old new r → FindsLine limit old new r
finds_line limit None new r h = tt
finds_line limit (Some bytes) None (Ok None) h = absurd h.1
finds_line limit (Some bytes) None (Ok (Some line)) (inl bad, h, le) = absurd bad
finds_line limit (Some bytes) None (Ok (Some line)) (inr bad, h, le) = absurd bad.0
finds_line limit (Some bytes) None (Err TooBig) h = absurd h.1
finds_line limit (Some bytes) None (Err Failed) h = tt
finds_line limit (Some bytes) None (Err Memory) h = absurd h.1
finds_line limit (Some bytes) (Some left) (Ok None) h = (ap (first_line_within limit) h.0, ap (λ (l : List ℕ). Some l) (h.1 ∙ h.0))
finds_line limit (Some bytes) (Some left) (Ok (Some line)) h =
    let p = takes_line limit bytes left line.items h.0 h.1 h.2 in (p.0, ap (λ (l : List ℕ). Some l) (sym p.1))
finds_line limit (Some bytes) (Some left) (Err TooBig) (got, is, h, size) =
    let first : first_line bytes ≡ got ++ first_line left = ap first_line is ∙ first_line-append got left h in
    let long : limit < length (first_line bytes) = omega (arith, ap length first, length-append got (first_line left)) in
    (first_line_within-long limit bytes long, ap (λ (l : List ℕ). Some l) (sym (ap (drop (limit + 1)) is ∙ drop_at got left (limit + 1) size)))
finds_line limit (Some bytes) (Some left) (Err Failed) h = tt
finds_line limit (Some bytes) (Some left) (Err Memory) (got, is, h, size) =
    first_line_within-some limit bytes (omega (arith, size.0, ap length is, length-append got left))
