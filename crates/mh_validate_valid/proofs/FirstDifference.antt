-- Lemmas on two lists that are compared element by element, up to the first difference.
use Rattle.std.proofs.Common.{◌≡◌, ◌↔◌, ◌<◌, ◌≤◌, ◌+◌, ℕ, suc, Bool, true, false, true≢false, IsTrue, List, [], ◌∷◌, length, drop, drop_of_length-le, get_or, refl, sym, ◌∙◌, subst, arith}
use Rattle.std.specs.List.{AllZip}
use Rattle.mh_validate_valid.proofs.CellLines.{row_from}

module _ {A B : Type 0} (R : A → B → Type 0) (xs : List A) (ys : List B) (i : ℕ) where
  pub zip_all : length xs ≤ i → length xs ≡ length ys → (AllZip R (drop i xs) (drop i ys) ↔ AllZip R xs ys) → IsTrue true ↔ AllZip R xs ys
  zip_all past same rest =
      let left : drop i xs ≡ [] = drop_of_length-le xs past in
      let right : drop i ys ≡ [] = drop_of_length-le ys (omega (arith, past, same)) in
      let whole : AllZip R [] [] ↔ AllZip R xs ys = subst (λ r. AllZip R [] r ↔ AllZip R xs ys) right (subst (λ l. AllZip R l (drop i ys) ↔ AllZip R xs ys) left rest) in
      (λ t. whole.0 tt, λ z. refl)

  module _ (x : A) (y : B) (lt : i < length xs) (same : length xs ≡ length ys) (left : x ≡ get_or xs i x) (right : y ≡ get_or ys i y) (rest : AllZip R (drop i xs) (drop i ys) ↔ AllZip R xs ys) where
    here : (R x y × AllZip R (drop (suc i) xs) (drop (suc i) ys)) ↔ AllZip R xs ys
    here =
        let first = row_from xs i x lt left in
        let second = row_from ys i y (omega (arith, lt, same)) right in
        subst (λ r. AllZip R (x ∷ drop (suc i) xs) r ↔ AllZip R xs ys) second (subst (λ l. AllZip R l (drop i ys) ↔ AllZip R xs ys) first rest)

    pub zip_next : (result : Bool) → (IsTrue result ↔ R x y) → result ≡ true → AllZip R (drop (i + 1) xs) (drop (i + 1) ys) ↔ AllZip R xs ys
    zip_next result told is =
        let next : suc i ≡ i + 1 = omega arith in
        subst (λ n. AllZip R (drop n xs) (drop n ys) ↔ AllZip R xs ys) next (λ z. here.0 (told.0 is, z), λ z. (here.1 z).1)

    pub zip_differs : (result : Bool) → (IsTrue result ↔ R x y) → result ≡ false → IsTrue false ↔ AllZip R xs ys
    zip_differs result told is = (λ t. absurd (true≢false (sym t)), λ z. sym is ∙ told.1 (here.1 z).0)
