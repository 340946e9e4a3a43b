-- Lemmas on the numbers of the start states, which come first.
use Rattle.std.proofs.Common.{◌≡◌, ◌+◌, ◌<◌, ℕ, zero, suc, [], ◌∷◌, ◌++◌, Some, length, sym, ap, ◌∙◌, arith}
use Rattle.std.specs.List.{slice_get, range_with_len}
use Rattle.std.proofs.lemmas.List.FromFn.{length-range_with_len, get_or-range_with_len}
use Rattle.std.proofs.lemmas.Option.{slice_get_within, slice_get-get_or}

range_longer : (a n m : ℕ) → a + n ≡ m → range_with_len a n ++ m ∷ [] ≡ range_with_len a (suc n)
range_longer a zero m e = let same : m ≡ a = omega arith in ap (λ x. x ∷ []) same
range_longer a (suc n) m e = ap (λ xs. a ∷ xs) (range_longer (a + 1) n m (omega arith))

pub range_push : (n : ℕ) → range_with_len 0 n ++ n ∷ [] ≡ range_with_len 0 (n + 1)
range_push n = let e : suc n ≡ n + 1 = omega arith in range_longer 0 n n (omega arith) ∙ ap (range_with_len 0) e

pub range_at : (count i : ℕ) → i < count → slice_get (range_with_len 0 count) i ≡ Some i
range_at count i l =
    let m : i < length (range_with_len 0 count) = rw (length-range_with_len 0 count) l in
    let e : 0 + i ≡ i = omega arith in
    slice_get-get_or (range_with_len 0 count) i i m ∙ ap Some (get_or-range_with_len 0 count i i l ∙ e)

pub range_from : (count i n : ℕ) → slice_get (range_with_len 0 count) i ≡ Some n → (n ≡ i) × (i < count)
range_from count i n e =
    let l : i < count = rw (← length-range_with_len 0 count) (slice_get_within (range_with_len 0 count) i n e) in
    let one : Some n ≡ Some i = sym e ∙ range_at count i l in
    let same : n ≡ i = cc in
    (same, l)
