-- Lemmas on a line that is read byte by byte: one more byte, the end of the input, and the faults of a byte that is not
-- added.
use Rattle.std.proofs.Common.{◌≡◌, ◌≢◌, ◌<◌, ◌≤◌, ◌+◌, ℕ, List, [], ◌∷◌, ◌++◌, length, Option, None, Some, Ok, Err, MatchOption, sym, ◌∙◌, ap, arith, inl, inr, length-append, subst}
use Rattle.std.specs.Io.KnownBytes.{Consumes, Keeps, IsAtEnd}
use Rattle.std.specs.Prelude.{Vec, ⊤}
use Rattle.std.specs.declared.alloc.Global.{Global}
use Rattle.std.proofs.lemmas.List.{nil_from_length}
use Rattle.mh_outside.specs.declared.lines.LineFault.{LineFault}
use Rattle.mh_outside.specs.declared.lines.LineFault.TheVariants.{Failed, TooBig, Memory}
use Rattle.mh_outside.specs.code.Bytes.{AddsByte}
use Rattle.mh_outside.specs.Lines.{HasNoLF, TakesLine, ReadsLine, CountsLineFault}
use Rattle.mh_outside.proofs.Consumes.{Consumes-append, HasNoLF-push, loses_byte}

pub Consumes-push : (a b c : Option (List ℕ)) (line more : List ℕ) (byte : ℕ) → Consumes a b line → Consumes b c (byte ∷ []) → more ≡ line ++ byte ∷ [] → Consumes a c more
Consumes-push a b c line more byte taken next is = subst (Consumes a c) (sym is) (Consumes-append a b c line (byte ∷ []) taken next)

pub HasNoLF-more : (line more : List ℕ) (byte : ℕ) → HasNoLF line → byte ≢ 10 → more ≡ line ++ byte ∷ [] → HasNoLF more
HasNoLF-more line more byte none other is = subst HasNoLF (sym is) (HasNoLF-push line byte none other)

pub length-push : (line more : List ℕ) (byte : ℕ) → more ≡ line ++ byte ∷ [] → length more ≡ length line + 1
length-push line more byte is = ap length is ∙ length-append line (byte ∷ [])

Consumes-keep : (a b c : List ℕ) (line : List ℕ) → Consumes (Some a) (Some b) line → Keeps (Some b) (Some c) → Consumes (Some a) (Some c) line
Consumes-keep a b c line taken same = taken ∙ ap (λ (l : List ℕ). line ++ l) (sym same)

ends : (a b c : Option (List ℕ)) (line : List ℕ) → Consumes a b line → IsAtEnd b → Keeps b c → line ≡ [] → IsAtEnd a × Keeps a c
ends None b c line taken none same is = (tt, tt)
ends (Some a) None c line taken none same is = absurd taken
ends (Some a) (Some b) None line taken none same is = absurd same
ends (Some a) (Some b) (Some c) line taken none same is =
    let at_end : a ≡ [] = taken ∙ ap (λ (l : List ℕ). l ++ b) is ∙ none in (at_end, same ∙ none ∙ sym at_end)

takes : (a b c : Option (List ℕ)) (line : List ℕ) → Consumes a b line → IsAtEnd b → Keeps b c → 0 < length line → TakesLine a c line
takes None b c line taken none same some = inl tt
takes (Some a) None c line taken none same some = absurd taken
takes (Some a) (Some b) None line taken none same some = absurd same
takes (Some a) (Some b) (Some c) line taken none same some = inr (Consumes-keep a b c line taken same, same ∙ none, some)

-- At the end of the input the bytes read so far are the last line, if there are any.
pub reads_last : (limit : ℕ) (a b c : Option (List ℕ)) (line : List ℕ) (r : Option (Vec ℕ Global)) → Consumes a b line → HasNoLF line → length line ≤ limit → IsAtEnd b → Keeps b c
    → MatchOption r (length line ≡ 0) (λ last. (last.items ≡ line) × (0 < length last.items)) → ReadsLine limit a c (Ok r)
reads_last limit a b c line None taken no_end fits none same is = ends a b c line taken none same (nil_from_length line is)
reads_last limit a b c line (Some last) taken no_end fits none same (is, some) =
    let taken_so : Consumes a b last.items = subst (Consumes a b) (sym is) taken in
    (takes a b c last.items taken_so none same some, subst HasNoLF (sym is) no_end, subst (λ l. length l ≤ limit) (sym is) fits)

-- If a byte was taken and could not be added, the result is a fault that `ReadsLine` allows, and the bytes taken are
-- lost.
pub reads_fault : (limit : ℕ) (a b c : Option (List ℕ)) (line more : List ℕ) (byte : ℕ) (fault : LineFault) → Consumes a b line → HasNoLF line → length line ≤ limit → Consumes b c (byte ∷ []) → byte ≢ 10
    → AddsByte {T = ⊤} limit line more byte (Err fault) → ReadsLine limit a c (Err fault)
reads_fault limit a b c line more byte TooBig taken no_end fits next other full = loses_byte a b c line byte (λ n. n ≡ limit + 1) taken no_end next other (omega arith)
reads_fault limit a b c line more byte Memory taken no_end fits next other short = loses_byte a b c line byte (λ n. (0 < n) × (n ≤ limit)) taken no_end next other (omega arith, omega arith)
reads_fault limit a b c line more byte Failed taken no_end fits next other bad = absurd bad

pub counts_fault : (limit before now : ℕ) (line more : List ℕ) (byte : ℕ) (fault : LineFault) → now ≡ before → AddsByte {T = ⊤} limit line more byte (Err fault) → CountsLineFault {T = Option (Vec ℕ Global)} before now (Err fault)
counts_fault limit before now line more byte TooBig same full = same
counts_fault limit before now line more byte Memory same short = same
counts_fault limit before now line more byte Failed same bad = absurd bad
