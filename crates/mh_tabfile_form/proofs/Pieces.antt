-- Lemmas on lists that are pieces of one list.
use Rattle.std.proofs.Common.{◌≡◌, ◌<◌, ◌≤◌, ◌+◌, ◌-◌, ℕ, zero, suc, List, [], ◌∷◌, ◌++◌, length, take, drop, get_or, map, refl, sym, ap, ◌∙◌, append_assoc, append-nil, arith}
use Rattle.std.proofs.lemmas.List.{drop_all, drop-drop, take-append-drop, length-drop, length-take-le, length-append, map_more, take_all}
use Rattle.mh_tabfile_form.specs.code.Pieces.{joined, ends_from, pieces, AreEnds, AreBounds}

pub length_pieces : (numbers : List ℕ) (start : ℕ) (ends : List ℕ) → length (pieces numbers start ends) ≡ length ends
length_pieces numbers start [] = refl
length_pieces numbers start (end ∷ ends) = ap suc (length_pieces numbers end ends)

-- A piece is between two bounds that are next to each other.
pub piece_between : (numbers : List ℕ) (start : ℕ) (ends : List ℕ) (i a b : ℕ) (xs : List ℕ) → AreEnds (length numbers) start ends → i < length ends → a ≡ get_or (start ∷ ends) i a → b ≡ get_or ends i b
    → (a ≤ b) × (b ≤ length numbers) × (take (b - a) (drop a numbers) ≡ get_or (pieces numbers start ends) i xs)
piece_between numbers start [] i a b xs h lt p q = absurd (omega (arith, lt))
piece_between numbers start (end ∷ ends) zero a b xs h lt p q = rw (p, q) (h.0, h.1, refl)
piece_between numbers start (end ∷ ends) (suc i) a b xs h lt p q = piece_between numbers end ends i a b xs h.2 (omega (arith, lt)) p q

pub count_bounds : (numbers bounds : List ℕ) → AreBounds (length numbers) bounds → length bounds ≡ length (pieces numbers 0 (drop 1 bounds)) + 1
count_bounds numbers bounds h = let n = length_pieces numbers 0 (drop 1 bounds) in let m : length bounds ≡ length (drop 1 bounds) + 1 = ap length h.first ∙ omega arith in omega (arith, m, n)

pub piece_at : (numbers bounds : List ℕ) (i a b : ℕ) (xs : List ℕ) → AreBounds (length numbers) bounds → i < length (pieces numbers 0 (drop 1 bounds)) → a ≡ get_or bounds i a → b ≡ get_or bounds (i + 1) b
    → (a ≤ b) × (b ≤ length numbers) × (take (b - a) (drop a numbers) ≡ get_or (pieces numbers 0 (drop 1 bounds)) i xs)
piece_at numbers bounds i a b xs h lt p q =
    let next : i + 1 ≡ suc i = omega arith in
    let p' : a ≡ get_or (0 ∷ drop 1 bounds) i a = p ∙ ap (λ (ns : List ℕ). get_or ns i a) h.first in
    let q' : b ≡ get_or (0 ∷ drop 1 bounds) (suc i) b = q ∙ ap (λ (ns : List ℕ). get_or ns (i + 1) b) h.first ∙ ap (λ n. get_or (0 ∷ drop 1 bounds) n b) next in
    piece_between numbers 0 (drop 1 bounds) i a b xs h.ends (rw (length_pieces numbers 0 (drop 1 bounds)) at lt) p' q'

pub joined_push : (xss : List (List ℕ)) (xs : List ℕ) → joined (xss ++ xs ∷ []) ≡ joined xss ++ xs
joined_push [] xs = append-nil xs
joined_push (ys ∷ xss) xs = ap (λ (zs : List ℕ). ys ++ zs) (joined_push xss xs) ∙ sym (append_assoc ys (joined xss) xs)

pub ends_push : (start : ℕ) (xss : List (List ℕ)) (xs : List ℕ) → ends_from start (xss ++ xs ∷ []) ≡ ends_from start xss ++ (start + length (joined xss) + length xs) ∷ []
ends_push start [] xs = let none : start + length xs ≡ start + 0 + length xs = omega arith in ap (λ n. n ∷ []) none
ends_push start (ys ∷ xss) xs =
    let count : start + length ys + length (joined xss) + length xs ≡ start + length (ys ++ joined xss) + length xs = omega (arith, length-append ys (joined xss)) in
    ap (λ (ns : List ℕ). (start + length ys) ∷ ns) (ends_push (start + length ys) xss xs ∙ ap (λ n. ends_from (start + length ys) xss ++ n ∷ []) count)

drop_front : (front xs : List ℕ) → drop (length front) (front ++ xs) ≡ xs
drop_front [] xs = refl
drop_front (x ∷ front) xs = drop_front front xs

take_front : (front xs : List ℕ) → take (length front) (front ++ xs) ≡ front
take_front [] xs = refl
take_front (x ∷ front) xs = ap (λ (ys : List ℕ). x ∷ ys) (take_front front xs)

-- The pieces of joined lists that end where these lists end are these lists.
pub pieces_joined : (front : List ℕ) (xss : List (List ℕ)) → pieces (front ++ joined xss) (length front) (ends_from (length front) xss) ≡ xss
pieces_joined front [] = refl
pieces_joined front (xs ∷ xss) =
    let size : length front + length xs - length front ≡ length xs = omega arith in
    let here : take (length front + length xs - length front) (drop (length front) (front ++ (xs ++ joined xss))) ≡ xs = ap (λ n. take n (drop (length front) (front ++ (xs ++ joined xss)))) size ∙ ap (take (length xs)) (drop_front front (xs ++ joined xss)) ∙ take_front xs (joined xss) in
    let longer : length (front ++ xs) ≡ length front + length xs = length-append front xs in
    let rest : pieces (front ++ (xs ++ joined xss)) (length front + length xs) (ends_from (length front + length xs) xss) ≡ xss = rw (append_assoc front xs (joined xss), longer) at (pieces_joined (front ++ xs) xss) in
    (λ k. here k ∷ rest k)

pub ends_are : (count start : ℕ) (xss : List (List ℕ)) → start + length (joined xss) ≡ count → AreEnds count start (ends_from start xss)
ends_are count start [] le = omega (arith, le)
ends_are count start (xs ∷ xss) le = let n = length-append xs (joined xss) in (omega arith, omega (arith, le, n), ends_are count (start + length xs) xss (omega (arith, le, n)))

joined_pieces : (numbers : List ℕ) (start : ℕ) (ends : List ℕ) → AreEnds (length numbers) start ends → joined (pieces numbers start ends) ≡ drop start numbers
joined_pieces numbers start [] h = sym (drop_all start numbers (omega (arith, h)))
joined_pieces numbers start (end ∷ ends) h =
    let size : start + (end - start) ≡ end = omega (arith, h.0) in
    let after : drop end numbers ≡ drop (end - start) (drop start numbers) = ap (λ n. drop n numbers) (sym size) ∙ sym (drop-drop (end - start) start numbers) in
    ap (λ (ns : List ℕ). take (end - start) (drop start numbers) ++ ns) (joined_pieces numbers end ends h.2 ∙ after) ∙ take-append-drop (end - start) (drop start numbers)

ends_pieces : (numbers : List ℕ) (start : ℕ) (ends : List ℕ) → AreEnds (length numbers) start ends → ends_from start (pieces numbers start ends) ≡ ends
ends_pieces numbers start [] h = refl
ends_pieces numbers start (end ∷ ends) h =
    let left = length-drop start numbers in
    let size = length-take-le (end - start) (drop start numbers) (omega (arith, h.1, left)) in
    let here : start + length (take (end - start) (drop start numbers)) ≡ end = omega (arith, size, h.0) in
    (λ k. here k ∷ ends_from (here k) (pieces numbers end ends)) ∙ ap (λ (ns : List ℕ). end ∷ ns) (ends_pieces numbers end ends h.2)

-- Equal pieces have equal numbers and equal bounds.
pub same_pieces : (numbers others bounds limits : List ℕ) → AreBounds (length numbers) bounds → AreBounds (length others) limits → pieces numbers 0 (drop 1 bounds) ≡ pieces others 0 (drop 1 limits) → (numbers ≡ others) × (bounds ≡ limits)
same_pieces numbers others bounds limits h k e = (
  sym (joined_pieces numbers 0 (drop 1 bounds) h.ends) ∙ ap joined e ∙ joined_pieces others 0 (drop 1 limits) k.ends,
  h.first ∙ ap (λ (ns : List ℕ). 0 ∷ ns) (sym (ends_pieces numbers 0 (drop 1 bounds) h.ends) ∙ ap (ends_from 0) e ∙ ends_pieces others 0 (drop 1 limits) k.ends) ∙ sym k.first,
)

-- Lists that are joined one after another, in a loop.
module _ {A : Type 0} (f : A → List ℕ) (xs : List A) (i : ℕ) where
  pub joined_step : (d : A) (old new : List ℕ) → i < length xs → old ≡ joined (map f (take i xs)) → new ≡ old ++ f (get_or xs i d) → new ≡ joined (map f (take (i + 1) xs))
  joined_step d old new lt before is = is ∙ ap (λ (ns : List ℕ). ns ++ f (get_or xs i d)) before ∙ sym (joined_push (map f (take i xs)) (f (get_or xs i d))) ∙ ap joined (sym (map_more f xs i d lt))

  pub bounds_step : (d : A) (front old new : List ℕ) (n : ℕ) → i < length xs → front ≡ joined (map f (take i xs)) → old ≡ 0 ∷ ends_from 0 (map f (take i xs)) → n ≡ length (front ++ f (get_or xs i d)) → new ≡ old ++ n ∷ []
      → new ≡ 0 ∷ ends_from 0 (map f (take (i + 1) xs))
  bounds_step d front old new n lt joint before count is =
      let here : n ≡ length (joined (map f (take i xs))) + length (f (get_or xs i d)) = count ∙ length-append front (f (get_or xs i d)) ∙ ap (λ (ns : List ℕ). length ns + length (f (get_or xs i d))) joint in
      let size : n ≡ 0 + length (joined (map f (take i xs))) + length (f (get_or xs i d)) = omega (arith, here) in
      is ∙ (λ k. before k ++ size k ∷ []) ∙ ap (λ (ns : List ℕ). 0 ∷ ns) (sym (ends_push 0 (map f (take i xs)) (f (get_or xs i d))) ∙ ap (ends_from 0) (sym (map_more f xs i d lt)))

  pub pieces_all : (numbers bounds : List ℕ) → length xs ≤ i → numbers ≡ joined (map f (take i xs)) → bounds ≡ 0 ∷ ends_from 0 (map f (take i xs)) → pieces numbers 0 (drop 1 bounds) ≡ map f xs
  pieces_all numbers bounds all p q = (λ k. pieces (p k) 0 (drop 1 (q k))) ∙ pieces_joined [] (map f (take i xs)) ∙ ap (map f) (take_all i xs all)

  pub bounds_all : (numbers bounds : List ℕ) → numbers ≡ joined (map f (take i xs)) → bounds ≡ 0 ∷ ends_from 0 (map f (take i xs)) → AreBounds (length numbers) bounds
  bounds_all numbers bounds p q =
      let within : AreEnds (length (joined (map f (take i xs)))) 0 (ends_from 0 (map f (take i xs))) = ends_are (length (joined (map f (take i xs)))) 0 (map f (take i xs)) (omega arith) in
      record { first = q ∙ ap (λ (ns : List ℕ). 0 ∷ drop 1 ns) (sym q); ends = rw (p, q) within }
