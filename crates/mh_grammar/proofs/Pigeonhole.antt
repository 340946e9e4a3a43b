-- Proves that distinct elements of a list are no more than the list has elements.
use Rattle.std.proofs.Common.{◌≡◌, ℕ, zero, suc, ◌<◌, ◌≤◌, ◌||◌, Bool, true, false, eqb, List, [], ◌∷◌, Some, length, refl, ap, ◌∙◌, sym, arith}
use Rattle.std.specs.List.{slice_get, list_any, All, AllByRecursion, IsDistinct, Contains}
use Rattle.std.proofs.lemmas.Bool.Decides.{Decides-eqb}
use Rattle.std.proofs.lemmas.Option.{slice_get_within}
use Rattle.std.proofs.lemmas.Map.Steps.{length-le_from_distinct_below}
use Rattle.std.proofs.lemmas.Bool.{ne_eqb}
use Rattle.mh_grammar.specs.Numbering.{AreDistinct, AreNumbersOf, Reached, IsNumbering, ReachesMoreThan}
use Rattle.mh_grammar.proofs.NumberingInvariant.{contains_at, at_contains}

apart : (x : ℕ) (xs : List ℕ) → ((j y : ℕ) → slice_get xs j ≡ Some y → x ≡ y → ⊥) → AllByRecursion (λ y. eqb x y ≡ false) xs
apart x [] f = tt
apart x (y ∷ xs) f = (ne_eqb x y (f 0 y refl), apart x xs (λ j z e. f (suc j) z e))

distinct_numbers : (xs : List ℕ) → ((i j x : ℕ) → slice_get xs i ≡ Some x → slice_get xs j ≡ Some x → i ≡ j) → IsDistinct eqb xs
unfolding IsDistinct
distinct_numbers [] d = tt
distinct_numbers (x ∷ xs) d = (apart x xs (λ j y e same. let z : 0 ≡ suc j = d 0 (suc j) x refl (e ∙ ap Some (sym same)) in omega arith), distinct_numbers xs (λ i j y e f. let z : suc i ≡ suc j = d (suc i) (suc j) y e f in omega arith))

find_next : (x q : ℕ) (xs : List ℕ) (b : Bool) → eqb q x ≡ b → (b || list_any (eqb q) xs) ≡ true → (list_any (eqb q) xs ≡ true → (j : ℕ) × (slice_get xs j ≡ Some q)) → (j : ℕ) × (slice_get (x ∷ xs) j ≡ Some q)
find_next x q xs true f g r = (0, ap Some (sym ((Decides-eqb q x).0 f)))
find_next x q xs false f g r = let at = r g in (suc at.0, at.1)

found : (xs : List ℕ) (q : ℕ) → list_any (eqb q) xs ≡ true → (j : ℕ) × (slice_get xs j ≡ Some q)
found [] q e = cc
found (x ∷ xs) q e = find_next x q xs (eqb q x) refl e (found xs q)

module _ {X : Type 0} (states : List X) where
  -- If each element of a list is in the list of states, each has an index there.
  places : (xs : List X) → ((x : X) → Contains xs x → Contains states x) → (ps : List ℕ) × AreNumbersOf states ps xs
  places [] h = ([], tt)
  places (x ∷ xs) h =
      let p = at_contains states x (h x (contains_at (x ∷ xs) 0 x refl)) in
      let r = places xs (λ y c. let at = at_contains xs y c in h y (contains_at (x ∷ xs) (suc at.0) y at.1)) in
      (p.0 ∷ r.0, (p.1, r.1))

  names_len : (ps : List ℕ) (xs : List X) → AreNumbersOf states ps xs → length ps ≡ length xs
  names_len [] [] n = refl
  names_len [] (x ∷ xs) n = absurd n
  names_len (p ∷ ps) [] n = absurd n
  names_len (p ∷ ps) (x ∷ xs) n = ap suc (names_len ps xs n.1)

  named : (ps : List ℕ) (xs : List X) → AreNumbersOf states ps xs → (i p : ℕ) → slice_get ps i ≡ Some p → (x : X) × (slice_get xs i ≡ Some x) × (slice_get states p ≡ Some x)
  named [] xs n i p e = cc
  named (q ∷ ps) [] n i p e = absurd n
  named (q ∷ ps) (x ∷ xs) n zero p e = (x, refl, (let same : q ≡ p = cc in rw same at n.0))
  named (q ∷ ps) (x ∷ xs) n (suc i) p e = named ps xs n.1 i p e

  pub length-distinct_in : (xs : List X) → AreDistinct xs → ((x : X) → Contains xs x → Contains states x) → length xs ≤ length states
  length-distinct_in xs d h =
      let r = places xs h in
      let apart = distinct_numbers r.0 (λ i j p e f. let a = named r.0 xs r.1 i p e in let b = named r.0 xs r.1 j p f in let same : b.0 ≡ a.0 = cc in d.same i j a.0 a.1 (b.1 ∙ ap Some same)) in
      let below = length-le_from_distinct_below r.0 (length states) apart (λ q t. let at = found r.0 q t in slice_get_within states q (named r.0 xs r.1 at.0 q at.1).0 (named r.0 xs r.1 at.0 q at.1).2) in
      omega (arith, below, names_len r.0 xs r.1)

-- If more items than a limit are reached, no numbering has at most as many items as the limit.
pub IsNumbering-few : {X : Type 0} (Next : X → List X → Type 0) (starts states : List X) (targets : List (List ℕ)) (limit : ℕ) → IsNumbering Next starts states targets → length states ≤ limit → ReachesMoreThan Next starts limit → ⊥
IsNumbering-few Next starts states targets limit n l o =
    let le = length-distinct_in states o.items o.distinct (λ x c. (n.reached x).1 (rw c.2 at (o.reached c.0 x c.1))) in
    omega (arith, o.exceeds)

-- A list of more distinct reached items than the limit proves that more are reached.
pub ReachesMoreThan-walk : {X : Type 0} (Next : X → List X → Type 0) (starts states : List X) (limit : ℕ) → All (Reached Next starts) states → AreDistinct states → limit < length states → ReachesMoreThan Next starts limit
ReachesMoreThan-walk Next starts states limit r d o = record { items = states; reached = r; distinct = d; exceeds = o }
