-- Lemmas on values that are read one after another and must rise.
use Rattle.std.proofs.Common.{◌⊎◌, ◌↔◌, IsTrue, Bool, false, true≢false, ◌≡◌, ◌<◌, ◌≤◌, ◌+◌, ◌-◌, ℕ, zero, suc, List, [], ◌∷◌, ◌++◌, map, take, drop, length, Option, Some, None, get_or, refl, sym, ap, ◌∙◌, subst, arith, inl, inr}
use Rattle.std.specs.List.{AllByRecursion, Contains, slice_get}
use Rattle.std.proofs.lemmas.List.{map-append, length-append}
use Rattle.std.proofs.lemmas.Option.{slice_get_within}
use Rattle.std.proofs.lemmas.Bool.{cases_lt}
use Rattle.mh_grammar.specs.Edges.{IsRising}
use Rattle.mh_grammar.proofs.Lists.{contains_here, contains_there, contains_cases, contains_none, at_contains, contains_at, get_last, get_unique, take_step, split_at, recursion_contains, recursion-push, rising-push, rising_at, first_same}
use Rattle.mh_validate_valid.proofs.KernelUnique.{tail_equal, nil_not_cons}
use Rattle.mh_validate.specs.code.LooksAndItems.{AreSpelledValues, IsLast}

module _ {X N : Type 0} (raw_of : X → N) (Is : X → Type 0) (R : X → X → Type 0) where
  pub read-none : AreSpelledValues raw_of Is R [] []
  read-none = record { spelled = refl; each = tt; rising = tt }

  pub read-more : (raws : List N) (i : ℕ) (raw : N) (xs : List X) (x : X) → i < length raws → raw ≡ get_or raws i raw → AreSpelledValues raw_of Is R (take i raws) xs → raw ≡ raw_of x → Is x → ((y : X) → Contains xs y → R y x) → AreSpelledValues raw_of Is R (take (i + 1) raws) (xs ++ x ∷ [])
  read-more raws i raw xs x lt e h s is behind = record {
    spelled = take_step raws i raw lt e ∙ ap (λ front. front ++ raw ∷ []) h.spelled ∙ ap (λ r. map raw_of xs ++ r ∷ []) s ∙ sym (map-append raw_of xs (x ∷ []));
    each = recursion-push Is xs x h.each is;
    rising = rising-push R xs x h.rising behind;
  }

  module _ (one : (x y : X) → Is x → Is y → raw_of x ≡ raw_of y → x ≡ y) where
    -- If a rising list begins with these values, its next value is greater than them.
    ahead : (front ys : List X) (raw : N) (rest : List N) → AllByRecursion Is front → AllByRecursion Is ys → IsRising R ys → map raw_of front ++ raw ∷ rest ≡ map raw_of ys
        → (y : X) × Contains ys y × Is y × (raw ≡ raw_of y) × ((z : X) → Contains front z → R z y)
    ahead [] [] raw rest f a r e = absurd (nil_not_cons raw rest (sym e))
    ahead [] (y ∷ ys) raw rest f a r e = (y, contains_here y ys, a.0, first_same raw (raw_of y) rest (map raw_of ys) e, λ z c. absurd (contains_none z c))
    ahead (x ∷ front) [] raw rest f a r e = absurd (nil_not_cons (raw_of x) (map raw_of front ++ raw ∷ rest) (sym e))
    ahead (x ∷ front) (y ∷ ys) raw rest f a r e =
        let same : x ≡ y = one x y f.0 a.0 (first_same (raw_of x) (raw_of y) (map raw_of front ++ raw ∷ rest) (map raw_of ys) e) in
        let (w, c, is, s, behind) = ahead front ys raw rest f.1 a.1 r.1 (tail_equal (raw_of x) (raw_of y) (map raw_of front ++ raw ∷ rest) (map raw_of ys) e) in
        let first : R x w = subst (λ k. R k w) (sym same) (recursion_contains (R y) ys r.0 w c) in
        (w, contains_there y ys w c, is, s, λ z d. elim (contains_cases x front z d) [ inl at ↦ subst (λ k. R k w) at first | inr there ↦ behind z there ])

    -- If the next value cannot be read, no list of values is spelled.
    pub read-never : (raws : List N) (i : ℕ) (raw : N) (xs ys : List X) → i < length raws → raw ≡ get_or raws i raw → AreSpelledValues raw_of Is R (take i raws) xs
        → ((y : X) → Is y → raw ≡ raw_of y → ((z : X) → Contains xs z → R z y) → ⊥) → AreSpelledValues raw_of Is R raws ys → ⊥
    read-never raws i raw xs ys lt e h none k =
        let split : map raw_of xs ++ raw ∷ drop (suc i) raws ≡ map raw_of ys = ap (λ front. front ++ raw ∷ drop (suc i) raws) (sym h.spelled) ∙ sym (split_at raws i raw lt e) ∙ k.spelled in
        let (y, c, is, s, behind) = ahead xs ys raw (drop (suc i) raws) h.each k.each k.rising split in
        none y is s behind

  pub read-all : (raws : List N) (xs : List X) (i : ℕ) → length raws ≤ i → AreSpelledValues raw_of Is R (take i raws) xs → AreSpelledValues raw_of Is R raws xs
  read-all raws xs i past h = rw (← take_all raws i past) h
    where
      take_all : (raws : List N) (i : ℕ) → length raws ≤ i → take i raws ≡ raws
      take_all [] zero l = refl
      take_all [] (suc i) l = refl
      take_all (r ∷ raws) zero l = absurd (omega (arith, l))
      take_all (r ∷ raws) (suc i) l = ap (λ rs. r ∷ rs) (take_all raws i (omega (arith, l)))

-- A value after the last one of a rising list is after all of them.
module _ {X : Type 0} (R : X → X → Type 0) (along : (x y z : X) → R x y → R y z → R x z) where
  pub all_before_next : (xs : List X) (last x : X) → IsRising R xs → slice_get xs (length xs - 1) ≡ Some last → R last x → (z : X) → Contains xs z → R z x
  all_before_next xs last x r at before z c =
      let (k, there) = at_contains xs z c in
      elim (cases_last k (slice_get_within xs k z there)) [
        | inl e ↦ subst (λ y. R y x) (same_place xs last z k e at there) before
        | inr lt ↦ along z last x (rising_at R xs r k (length xs - 1) z last lt there at) before
      ]
    where
      same_place : (ys : List X) (l y : X) (k : ℕ) → k ≡ length ys - 1 → slice_get ys (length ys - 1) ≡ Some l → slice_get ys k ≡ Some y → l ≡ y
      same_place ys l y k e f g = get_unique ys k l y (subst (λ n. slice_get ys n ≡ Some l) (sym e) f) g

      cases_last : (k : ℕ) → k < length xs → (k ≡ length xs - 1) ⊎ (k < length xs - 1)
      cases_last k lt = elim (cases_lt k (length xs - 1)) [ inl h ↦ inr h | inr h ↦ inl (omega (arith, lt, h)) ]

  pub all_before_new_last : (o : Option X) (xs : List X) (x : X) → IsRising R xs → IsLast o xs → ((last : X) → o ≡ Some last → R last x) → (z : X) → Contains xs z → R z x
  all_before_new_last None xs x r is h z c = absurd (contains_none z (subst (λ ys. Contains ys z) is c))
  all_before_new_last (Some last) xs x r is h z c = all_before_next xs last x r is.1 (h last refl) z c

pub last_pushed : {X : Type 0} (xs : List X) (x : X) → IsLast (Some x) (xs ++ x ∷ [])
last_pushed xs x =
    let n : length (xs ++ x ∷ []) ≡ length xs + 1 = length-append xs (x ∷ []) in
    (omega (arith, n), get_last xs x (length (xs ++ x ∷ []) - 1) (omega (arith, n)))

pub last_contained : {X : Type 0} (xs : List X) (x : X) → IsLast (Some x) xs → Contains xs x
last_contained xs x h = contains_at xs (length xs - 1) x h.1

all_index : {X : Type 0} (P : X → Type 0) (xs : List X) (k : ℕ) (d : X) → k < length xs → AllByRecursion P xs → P (get_or xs k d)
all_index P [] k d l h = absurd (omega (arith, l))
all_index P (x ∷ xs) zero d l h = h.0
all_index P (x ∷ xs) (suc k) d l h = all_index P xs k d (omega (arith, l)) h.1

-- If one element fails the test, then not all elements pass it.
pub failing : {X : Type 0} (P : X → Type 0) (xs : List X) (k : ℕ) (d : X) (result : Bool) → k < length xs → (IsTrue result ↔ P (get_or xs k d)) → result ≡ false → IsTrue false ↔ AllByRecursion P xs
failing P xs k d result l e f = (λ t. absurd (true≢false (sym t)), λ h. sym f ∙ e.1 (all_index P xs k d l h))
