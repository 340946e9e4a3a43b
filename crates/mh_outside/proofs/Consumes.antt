-- Lemmas on bytes that are taken or appended in two steps.
use Rattle.std.proofs.Common.{zero, suc, ◌<◌, min, get_or, false, ◌≡◌, ◌≢◌, ℕ, ◌+◌, ◌-◌, ◌≤◌, List, [], ◌∷◌, ◌++◌, length, take, drop, Option, None, Some, sym, ◌∙◌, ap, arith, append_assoc, length-append, length-drop, take-append-drop, subst}
use Rattle.std.proofs.lemmas.List.{length-take-le, take_all, take_at, drop_all, drop-drop}
use Rattle.std.proofs.lemmas.List.Elements.{All-append}
use Rattle.std.specs.Io.KnownBytes.{Appends, Consumes}
use Rattle.std.specs.Prelude.{Vec}
use Rattle.std.specs.Str.{bytes_eq}
use Rattle.std.specs.declared.alloc.Global.{Global}
use Rattle.mh_outside.specs.Shelf.{files_of, file_at}
use Rattle.mh_outside.specs.Lines.{HasNoLF, LosesBytes}

pub Appends-append : (a b c : Option (List ℕ)) (xs ys : List ℕ) → Appends a b xs → Appends b c ys → Appends a c (xs ++ ys)
Appends-append None b c xs ys p q = tt
Appends-append (Some a) None c xs ys p q = absurd p
Appends-append (Some a) (Some b) None xs ys p q = absurd q
Appends-append (Some a) (Some b) (Some c) xs ys p q = q ∙ ap (λ (l : List ℕ). l ++ ys) p ∙ append_assoc a xs ys

pub Consumes-append : (a b c : Option (List ℕ)) (xs ys : List ℕ) → Consumes a b xs → Consumes b c ys → Consumes a c (xs ++ ys)
Consumes-append None b c xs ys p q = tt
Consumes-append (Some a) None c xs ys p q = absurd p
Consumes-append (Some a) (Some b) None xs ys p q = absurd q
Consumes-append (Some a) (Some b) (Some c) xs ys p q = p ∙ ap (λ (l : List ℕ). xs ++ l) q ∙ sym (append_assoc xs ys c)

-- After one more write, the bytes appended so far and the rest are still the whole piece.
pub appends_more : (a b c : Option (List ℕ)) (piece front rest : List ℕ) (n m : ℕ) → Appends a b front → piece ≡ front ++ rest → Appends b c (take n rest) → length rest ≤ m
    → (x : List ℕ) × Appends a c x × (piece ≡ x ++ take (m - n) (drop n rest))
appends_more a b c piece front rest n m p is q long =
    let whole : take (m - n) (drop n rest) ≡ drop n rest = take_all _ _ (omega (arith, length-drop n rest)) in (
      front ++ take n rest,
      Appends-append a b c front (take n rest) p q,
      is ∙ ap (λ (l : List ℕ). front ++ l) (sym (take-append-drop n rest)) ∙ sym (append_assoc front (take n rest) (drop n rest))
          ∙ ap (λ (l : List ℕ). (front ++ take n rest) ++ l) (sym whole),
    )

HasNoLF-one : (byte : ℕ) → byte ≢ 10 → HasNoLF (byte ∷ [])
HasNoLF-one byte ne zero d lt = ne
HasNoLF-one byte ne (suc k) d lt = absurd (omega arith)

pub HasNoLF-push : (line : List ℕ) (byte : ℕ) → HasNoLF line → byte ≢ 10 → HasNoLF (line ++ byte ∷ [])
HasNoLF-push line byte p q = All-append (λ b. b ≢ 10) line (byte ∷ []) p (HasNoLF-one byte q)

-- If bytes without an LF were taken, and then one byte that is not an LF, then bytes without an LF were taken in all
-- (`LosesBytes`), one more in number.
pub loses_byte : (a b c : Option (List ℕ)) (line : List ℕ) (byte : ℕ) (Size : ℕ → Type 0) → Consumes a b line → HasNoLF line → Consumes b c (byte ∷ []) → byte ≢ 10 → Size (length line + 1) → LosesBytes a c Size
loses_byte a b c line byte Size p q r ne size =
    let is : length (line ++ byte ∷ []) ≡ length line + 1 = length-append line (byte ∷ []) in
    (line ++ byte ∷ [], Consumes-append a b c line (byte ∷ []) p r, HasNoLF-push line byte q ne, subst Size (sym is) size)

-- The bytes that a read of n bytes at a position gives, and those that it leaves.
pub reads_at : (bytes buf copied : List ℕ) (at n m : ℕ) → copied ≡ take (at + n - at) (drop at bytes) → length copied ≡ length (take n buf) → n ≡ min (length buf) (m - at) → at ≤ m → m ≡ length bytes
    → (drop at bytes ≡ take n (copied ++ drop n buf) ++ drop (at + n) bytes) × (n ≡ 0 → 0 < length (copied ++ drop n buf) → drop (at + n) bytes ≡ [])
reads_at bytes buf copied at n m is size count le len =
    let short : n ≤ length buf = omega arith in
    let copied_size : length copied ≡ n = size ∙ length-take-le n buf short in
    let steps : at + n - at ≡ n = omega arith in
    let front : take n (copied ++ drop n buf) ≡ take n (drop at bytes) = take_at copied (drop n buf) n copied_size ∙ is ∙ ap (λ (k : ℕ). take k (drop at bytes)) steps in
    let back : drop n (drop at bytes) ≡ drop (at + n) bytes = drop-drop n at bytes in (
      sym (take-append-drop n (drop at bytes)) ∙ ap (λ (l : List ℕ). l ++ drop n (drop at bytes)) (sym front) ∙ ap (λ (l : List ℕ). take n (copied ++ drop n buf) ++ l) back,
      λ none some. drop_all (at + n) bytes (let longer : 0 < length buf = omega (arith, some, length-append copied (drop n buf), length-drop n buf) in omega arith),
    )

-- A file of another name does not change which file is found.
pub file_skip : (files : List (Vec ℕ Global × Vec ℕ Global)) (name : List ℕ) (m : ℕ) (file : Vec ℕ Global × Vec ℕ Global) → length files ≤ m → 1 ≤ length files → file ≡ get_or files 0 file → bytes_eq name file.0.items ≡ false
    → file_at (files_of (take (m - 1) (drop 1 files))) name ≡ file_at (files_of files) name
file_skip [] name m file long some is other_name = absurd (omega arith)
file_skip (f ∷ fs) name m file long some is other_name =
    let other : bytes_eq name f.0.items ≡ false = ap (λ (v : Vec ℕ Global × Vec ℕ Global). bytes_eq name v.0.items) (sym is) ∙ other_name in
    let whole : take (m - 1) fs ≡ fs = take_all _ _ (omega arith) in
    rw (whole, other)
