-- Lemmas on the loop that finds the first item with the farthest dot.
use Rattle.std.proofs.Common.{◌≡◌, ◌⊎◌, inl, inr, ℕ, zero, suc, ◌+◌, ◌<◌, ◌≤◌, List, [], ◌∷◌, length, get_or, refl, sym, ◌∙◌, ap, subst, arith}
use Rattle.std.specs.List.{All}
use Rattle.std.proofs.lemmas.Bool.{cases_lt}
use Rattle.std.proofs.lemmas.List.{get_or_default}
use Rattle.mh_items_kernels.specs.KernelTypes.{KernelItem}
use Rattle.mh_report.specs.Comments.{HasFarthestDot}

-- The invariant of the loop: `best` is the first of the first n items whose dot is the farthest.
pub record FarthestSoFar (items : List KernelItem) (n : ℕ) (best : KernelItem) : Type 0 where
  pub place : ℕ
  pub within : place < length items
  pub item_is : get_or items place best ≡ best
  pub first : (k : ℕ) (d : KernelItem) → k < place → (get_or items k d).dot < best.dot
  pub each : (k : ℕ) (d : KernelItem) → k < n → (get_or items k d).dot ≤ best.dot

each_more : (items : List KernelItem) (i : ℕ) (item old new : KernelItem) → ((k : ℕ) (d : KernelItem) → k < i → (get_or items k d).dot ≤ old.dot) → i < length items → item ≡ get_or items i item → old.dot ≤ new.dot → item.dot ≤ new.dot
    → (k : ℕ) (d : KernelItem) → k < i + 1 → (get_or items k d).dot ≤ new.dot
each_more items i item old new all lt is above here k d within =
    elim (cases_lt k i) [
      | inl less ↦ (let le = all k d less in omega arith)
      | inr more ↦ (
          let e : k ≡ i = omega arith in
          let same : get_or items k d ≡ item = ap (λ (j : ℕ). get_or items j d) e ∙ get_or_default items i d item lt ∙ sym is in
          rw same here)
    ]

-- The comparison with one more item keeps the invariant.
pub so_far_more : (items : List KernelItem) (i : ℕ) (item old new : KernelItem) → FarthestSoFar items i old → i < length items → item ≡ get_or items i item → ((new ≡ item) × (old.dot < item.dot)) ⊎ ((new ≡ old) × (item.dot ≤ old.dot)) → FarthestSoFar items (i + 1) new
so_far_more items i item old new h lt is (inl (same, farther)) =
    subst (FarthestSoFar items (i + 1)) (sym same) (record {
      place = i;
      within = lt;
      item_is = sym is;
      first = λ k d less. let le = h.each k d less in omega arith;
      each = each_more items i item old item h.each lt is (omega arith) (omega arith);
    })
so_far_more items i item old new h lt is (inr (same, nearer)) =
    subst (FarthestSoFar items (i + 1)) (sym same) (record { place = h.place; within = h.within; item_is = h.item_is; first = h.first; each = each_more items i item old old h.each lt is (omega arith) nearer })

pub so_far_all : (items : List KernelItem) (n : ℕ) (best : KernelItem) → FarthestSoFar items n best → length items ≤ n → HasFarthestDot items best
so_far_all items n best h all = record { place = h.place; within = h.within; item_is = h.item_is; first = λ k less. h.first k best less; farthest = λ k less. h.each k best (omega arith) }

-- The item with the farthest dot has every property that all items have.
pub farthest_among : (P : KernelItem → Type 0) (items : List KernelItem) (item : KernelItem) → All P items → HasFarthestDot items item → P item
farthest_among P items item all far = subst P far.item_is (all far.place item far.within)

-- The first item with the farthest dot is unique.
pub farthest_once : (items : List KernelItem) (x y : KernelItem) → HasFarthestDot items x → HasFarthestDot items y → x ≡ y
farthest_once items x y p q =
    let at_x : get_or items p.place y ≡ x = get_or_default items p.place y x p.within ∙ p.item_is in
    let at_y : get_or items q.place x ≡ y = get_or_default items q.place x y q.within ∙ q.item_is in
    let x_far : x.dot ≤ y.dot = rw at_x at (q.farthest p.place p.within) in
    let y_far : y.dot ≤ x.dot = rw at_y at (p.farthest q.place q.within) in
    elim (cases_lt p.place q.place) [
      | inl less ↦ (let lower : x.dot < y.dot = rw at_x at (q.first p.place less) in absurd (omega arith))
      | inr more ↦ elim (cases_lt q.place p.place) [
        | inl less ↦ (let lower : y.dot < x.dot = rw at_y at (p.first q.place less) in absurd (omega arith))
        | inr other ↦ (let same : p.place ≡ q.place = omega arith in sym p.item_is ∙ get_or_default items p.place x y p.within ∙ ap (λ (k : ℕ). get_or items k y) same ∙ q.item_is)
      ]
    ]

-- The invariant holds at the first item.
begins : (item : KernelItem) (items : List KernelItem) → FarthestSoFar (item ∷ items) 1 item
begins item items = record {
  place = 0;
  within = omega arith;
  item_is = refl;
  first = λ k d less. absurd (let l : ⊥ = omega (arith, less) in l);
  each = λ k d less. (let zero_is : k ≡ 0 = omega arith in rw zero_is (omega arith));
}

goes_on : (items : List KernelItem) (m n : ℕ) (best : KernelItem) → FarthestSoFar items n best → n + m ≡ length items → (found : KernelItem) × FarthestSoFar items (length items) found
goes_on items zero n best h e = (best, (let all : n ≡ length items = omega arith in subst (λ (k : ℕ). FarthestSoFar items k best) all h))
goes_on items (suc m) n best h e =
    let item = get_or items n best in
    let lt : n < length items = omega arith in
    let is : item ≡ get_or items n item = get_or_default items n best item lt in
    elim (cases_lt best.dot item.dot) [
      | inl less ↦ goes_on items m (n + 1) item (so_far_more items n item best item h lt is (inl (refl, less))) (omega arith)
      | inr le ↦ goes_on items m (n + 1) best (so_far_more items n item best best h lt is (inr (refl, le))) (omega arith)
    ]

pub some_farthest : (items : List KernelItem) → 0 < length items → (best : KernelItem) × HasFarthestDot items best
some_farthest [] lt = absurd (omega arith)
some_farthest (item ∷ items) lt =
    let r = goes_on (item ∷ items) (length items) 1 item (begins item items) (omega arith) in
    (r.0, so_far_all (item ∷ items) (length (item ∷ items)) r.0 r.1 (omega arith))
