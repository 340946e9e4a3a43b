-- Proves that two breadth-first numberings are equal, if each item leads to one list of items.
use Rattle.std.proofs.Common.{◌≡◌, ℕ, zero, suc, ◌+◌, ◌<◌, ◌≤◌, List, [], ◌∷◌, ◌++◌, Some, length, take, drop, refl, sym, ap, ◌∙◌, append_assoc, arith, inl, inr}
use Rattle.std.specs.List.{slice_get, Contains, concat}
use Rattle.std.proofs.lemmas.Bool.{cases_lt}
use Rattle.std.proofs.lemmas.List.{take_all, append-nil}
use Rattle.std.proofs.lemmas.List.Elements.{Contains-append_left, Contains-append_right}
use Rattle.std.proofs.lemmas.Option.{slice_get_within}
use Rattle.mh_grammar.specs.Numbering as numbering
use Rattle.mh_grammar.specs.Numbering.{Reached, AreDistinct, InFirstSightOrder, AreNumbersOf, IsNumbering}
use Rattle.mh_grammar.proofs.NumberingInvariant.{contains_at, at_contains, InFirstSightOrder-append}

-- Numbers in order of first sight: the next new number never decreases, and each number is below the final next new
-- number.
InFirstSightOrder-up : (n : ℕ) (ts : List ℕ) (m : ℕ) → InFirstSightOrder n ts m → n ≤ m
InFirstSightOrder-up n [] m o = omega (arith, o)
InFirstSightOrder-up n (t ∷ ts) m (inl o) = InFirstSightOrder-up n ts m o.1
InFirstSightOrder-up n (t ∷ ts) m (inr o) = omega (arith, InFirstSightOrder-up (n + 1) ts m o.1)

InFirstSightOrder-below : (n : ℕ) (ts : List ℕ) (m i t : ℕ) → InFirstSightOrder n ts m → slice_get ts i ≡ Some t → t < m
InFirstSightOrder-below n [] m i t o e = cc
InFirstSightOrder-below n (u ∷ ts) m zero t (inl o) e = let same : u ≡ t = cc in omega (arith, InFirstSightOrder-up n ts m o.1, o.0)
InFirstSightOrder-below n (u ∷ ts) m zero t (inr o) e = let same : u ≡ t = cc in omega (arith, InFirstSightOrder-up (n + 1) ts m o.1, o.0)
InFirstSightOrder-below n (u ∷ ts) m (suc i) t (inl o) e = InFirstSightOrder-below n ts m i t o.1 e
InFirstSightOrder-below n (u ∷ ts) m (suc i) t (inr o) e = InFirstSightOrder-below (n + 1) ts m i t o.1 e

InFirstSightOrder-split : (n : ℕ) (a b : List ℕ) (m : ℕ) → InFirstSightOrder n (a ++ b) m → (k : ℕ) × InFirstSightOrder n a k × InFirstSightOrder k b m
InFirstSightOrder-split n [] b m o = (n, refl, o)
InFirstSightOrder-split n (t ∷ a) b m (inl o) = let r = InFirstSightOrder-split n a b m o.1 in (r.0, inl (o.0, r.1), r.2)
InFirstSightOrder-split n (t ∷ a) b m (inr o) = let r = InFirstSightOrder-split (n + 1) a b m o.1 in (r.0, inr (o.0, r.1), r.2)

InFirstSightOrder-one : (n : ℕ) (ts : List ℕ) (k m : ℕ) → InFirstSightOrder n ts k → InFirstSightOrder n ts m → k ≡ m
InFirstSightOrder-one n [] k m o p = sym o ∙ p
InFirstSightOrder-one n (t ∷ ts) k m (inl o) (inl p) = InFirstSightOrder-one n ts k m o.1 p.1
InFirstSightOrder-one n (t ∷ ts) k m (inl o) (inr p) = absurd (omega (arith, o.0, p.0))
InFirstSightOrder-one n (t ∷ ts) k m (inr o) (inl p) = absurd (omega (arith, o.0, p.0))
InFirstSightOrder-one n (t ∷ ts) k m (inr o) (inr p) = InFirstSightOrder-one (n + 1) ts k m o.1 p.1

from : (k m : ℕ) (ts : List ℕ) (n : ℕ) → k ≡ m → InFirstSightOrder k ts n → InFirstSightOrder m ts n
from k m ts n e o = rw (← e) o

-- The numbers of a row are numbers of the concatenated rows.
in_rows : (ts : List (List ℕ)) (s i : ℕ) (row : List ℕ) (t : ℕ) → i < s → slice_get ts i ≡ Some row → Contains row t → Contains (concat (take s ts)) t
in_rows [] s i row t l e c = cc
in_rows (r ∷ ts) zero i row t l e c = absurd (omega arith)
in_rows (r ∷ ts) (suc s) zero row t l e c = let same : r ≡ row = cc in Contains-append_left r (concat (take s ts)) t (rw same c)
in_rows (r ∷ ts) (suc s) (suc i) row t l e c = Contains-append_right r (concat (take s ts)) t (in_rows ts s i row t (omega arith) e c)

take_next : {X : Type 0} (xs : List X) (s : ℕ) (x : X) → slice_get xs s ≡ Some x → take (suc s) xs ≡ take s xs ++ x ∷ []
take_next [] s x e = cc
take_next (y ∷ xs) zero x e = let same : y ≡ x = cc in ap (λ z. z ∷ []) same
take_next (y ∷ xs) (suc s) x e = ap (λ zs. y ∷ zs) (take_next xs s x e)

concat_next : (ts : List (List ℕ)) (s : ℕ) (row : List ℕ) → slice_get ts s ≡ Some row → concat ts ≡ concat (take s ts) ++ (row ++ concat (drop (suc s) ts))
concat_next [] s row e = cc
concat_next (r ∷ ts) zero row e = let same : r ≡ row = cc in ap (λ z. z ++ concat ts) same
concat_next (r ∷ ts) (suc s) row e = ap (λ z. r ++ z) (concat_next ts s row e) ∙ sym (append_assoc r (concat (take s ts)) (row ++ concat (drop (suc s) ts)))

concat_take_next : (ts : List (List ℕ)) (s : ℕ) (row : List ℕ) → slice_get ts s ≡ Some row → concat (take (suc s) ts) ≡ concat (take s ts) ++ row
concat_take_next [] s row e = cc
concat_take_next (r ∷ ts) zero row e = let same : r ≡ row = cc in ap (λ z. z ++ []) same ∙ append-nil row
concat_take_next (r ∷ ts) (suc s) row e = ap (λ z. r ++ z) (concat_take_next ts s row e) ∙ sym (append_assoc r (concat (take s ts)) row)

-- Two lists with the same element at each index are equal.
pub equal_by_elements : {X : Type 0} (xs ys : List X) → length xs ≡ length ys → ((i : ℕ) → i < length xs → slice_get xs i ≡ slice_get ys i) → xs ≡ ys
equal_by_elements [] [] l h = refl
equal_by_elements [] (y ∷ ys) l h = absurd (omega (arith, l))
equal_by_elements (x ∷ xs) [] l h = absurd (omega (arith, l))
equal_by_elements (x ∷ xs) (y ∷ ys) l h =
    let e : Some x ≡ Some y = h 0 (omega arith) in
    let same : x ≡ y = cc in
    let rest = equal_by_elements xs ys (omega (arith, l)) (λ i m. h (suc i) (omega arith)) in
    λ i. same i ∷ rest i

at_place : {X : Type 0} (xs : List X) (i : ℕ) → i < length xs → (x : X) × (slice_get xs i ≡ Some x)
at_place [] i l = absurd (omega arith)
at_place (x ∷ xs) zero l = (x, refl)
at_place (x ∷ xs) (suc i) l = at_place xs i (omega arith)

pub take_get : {X : Type 0} (n : ℕ) (xs : List X) (i : ℕ) (x : X) → slice_get (take n xs) i ≡ Some x → slice_get xs i ≡ Some x
take_get zero xs i x e = cc
take_get (suc n) [] i x e = cc
take_get (suc n) (y ∷ xs) zero x e = e
take_get (suc n) (y ∷ xs) (suc i) x e = take_get n xs i x e

-- A row has a number for each of its items, and the state with this number is the item.
number_at : {X : Type 0} (states : List X) (row : List ℕ) (xs : List X) (j : ℕ) (y : X) → AreNumbersOf states row xs → slice_get xs j ≡ Some y → (t : ℕ) × (slice_get row j ≡ Some t) × (slice_get states t ≡ Some y)
number_at states [] [] j y n e = cc
number_at states [] (x ∷ xs) j y n e = absurd n
number_at states (t ∷ row) [] j y n e = absurd n
number_at states (t ∷ row) (x ∷ xs) zero y n e = (t, refl, n.0 ∙ e)
number_at states (t ∷ row) (x ∷ xs) (suc j) y n e = number_at states row xs j y n.1 e

-- If two lists of states agree on the part that was numbered so far, their rows of numbers for the same items are
-- equal.
row_same : {X : Type 0} (xs ys : List X) → AreDistinct xs → AreDistinct ys → (m : ℕ) → ((i : ℕ) → i < m → slice_get xs i ≡ slice_get ys i) → (items : List X) (a b : List ℕ) → AreNumbersOf xs a items → AreNumbersOf ys b items → (k l : ℕ) → InFirstSightOrder m a k → InFirstSightOrder m b l → (a ≡ b) × ((i : ℕ) → i < k → slice_get xs i ≡ slice_get ys i)
row_same xs ys dx dy m h [] [] [] n q k l o p = (refl, λ i j. h i (omega (arith, o)))
row_same xs ys dx dy m h [] [] (u ∷ b) n q k l o p = absurd q
row_same xs ys dx dy m h [] (t ∷ a) b n q k l o p = absurd n
row_same xs ys dx dy m h (x ∷ items) [] b n q k l o p = absurd n
row_same xs ys dx dy m h (x ∷ items) (t ∷ a) [] n q k l o p = absurd q
row_same xs ys dx dy m h (x ∷ items) (t ∷ a) (u ∷ b) n q k l (inl o) (inl p) =
    let same : t ≡ u = dy.same t u x (sym (h t o.0) ∙ n.0) q.0 in
    let rest = row_same xs ys dx dy m h items a b n.1 q.1 k l o.1 p.1 in
    ((λ i. same i ∷ rest.0 i), rest.1)
row_same xs ys dx dy m h (x ∷ items) (t ∷ a) (u ∷ b) n q k l (inl o) (inr p) =
    let same : t ≡ u = dy.same t u x (sym (h t o.0) ∙ n.0) q.0 in
    absurd (omega (arith, o.0, p.0, same))
row_same xs ys dx dy m h (x ∷ items) (t ∷ a) (u ∷ b) n q k l (inr o) (inl p) =
    let same : t ≡ u = dx.same t u x n.0 (h u p.0 ∙ q.0) in
    absurd (omega (arith, o.0, p.0, same))
row_same xs ys dx dy m h (x ∷ items) (t ∷ a) (u ∷ b) n q k l (inr o) (inr p) =
    let same : t ≡ u = omega (arith, o.0, p.0) in
    let here : slice_get xs m ≡ slice_get ys m = ap (slice_get xs) (sym o.0) ∙ n.0 ∙ sym q.0 ∙ ap (slice_get ys) p.0 in
    let more : (i : ℕ) → i < m + 1 → slice_get xs i ≡ slice_get ys i = λ i j. elim (cases_lt i m) [
      | inl below ↦ h i below
      | inr above ↦ (let last : i ≡ m = omega arith in ap (slice_get xs) last ∙ here ∙ ap (slice_get ys) (sym last))
    ] in
    let rest = row_same xs ys dx dy (m + 1) more items a b n.1 q.1 k l o.1 p.1 in
    ((λ i. same i ∷ rest.0 i), rest.1)

module _ {X : Type 0} (Next : X → List X → Type 0) (one : (x : X) (a b : List X) → Next x a → Next x b → a ≡ b) (starts : List X) where
  -- If the first s rows name no item outside the first m, with m at most s, the first m items are all that is reached.
  low : (xs : List X) (ts : List (List ℕ)) (w : IsNumbering Next starts xs ts) (s m : ℕ) → m ≤ s → InFirstSightOrder (length starts) (concat (take s ts)) m → (x : X) → Reached Next starts x → (i : ℕ) × (i < m) × (slice_get xs i ≡ Some x)
  low xs ts w s m le o x (numbering.Reached.start c) =
      let found = at_contains starts x c in
      let up = InFirstSightOrder-up (length starts) (concat (take s ts)) m o in
      (found.0, omega (arith, slice_get_within starts found.0 x found.1, up), take_get (length starts) xs found.0 x (rw w.begins found.1))
  low xs ts w s m le o x (numbering.Reached.step {x = y} {ys = zs} r n c) =
      let before = low xs ts w s m le o y r in
      let l : before.0 < length ts = omega (arith, w.len, slice_get_within xs before.0 y before.2) in
      let row = at_place ts before.0 l in
      let behind = w.rows before.0 y row.0 before.2 row.1 in
      let same : zs ≡ behind.items = one y zs behind.items n behind.next in
      let found = at_contains behind.items x (rw same at c) in
      let number = number_at xs row.0 behind.items found.0 x behind.numbers found.1 in
      let inside = in_rows ts s before.0 row.0 number.0 (omega (arith, before.1)) row.1 (contains_at row.0 found.0 number.0 number.1) in
      let place = at_contains (concat (take s ts)) number.0 inside in
      (number.0, InFirstSightOrder-below (length starts) (concat (take s ts)) m place.0 number.0 o place.1, number.2)

  -- Each item was named before its own row comes.
  seen : (xs : List X) (ts : List (List ℕ)) (w : IsNumbering Next starts xs ts) (s m : ℕ) → s < length xs → InFirstSightOrder (length starts) (concat (take s ts)) m → s < m
  seen xs ts w s m l o = elim (cases_lt s m) [
    | inl below ↦ below
    | inr above ↦ absurd (
        let here = at_place xs s l in
        let found = low xs ts w s m above o here.0 ((w.reached here.0).0 (contains_at xs s here.0 here.1)) in
        let same = w.distinct.same found.0 s here.0 found.2 here.1 in
        omega (arith, same, found.1))
  ]

  module _ (xs ys : List X) (ts us : List (List ℕ)) (w : IsNumbering Next starts xs ts) (v : IsNumbering Next starts ys us) where
    record Agreed (s : ℕ) : Type 0 where
      found : ℕ
      first : InFirstSightOrder (length starts) (concat (take s ts)) found
      rows : take s ts ≡ take s us
      same : (i : ℕ) → i < found → slice_get xs i ≡ slice_get ys i

    -- The numbers of a row continue the order of first sight.
    row_order : (zs : List X) (ps : List (List ℕ)) (z : IsNumbering Next starts zs ps) (s m : ℕ) (row : List ℕ) → slice_get ps s ≡ Some row → InFirstSightOrder (length starts) (concat (take s ps)) m → (k : ℕ) × InFirstSightOrder m row k
    row_order zs ps z s m row e o =
        let whole = rw (concat_next ps s row e) at z.order in
        let parts = InFirstSightOrder-split (length starts) (concat (take s ps)) (row ++ concat (drop (suc s) ps)) (length zs) whole in
        let same : parts.0 ≡ m = InFirstSightOrder-one (length starts) (concat (take s ps)) parts.0 m parts.1 o in
        let rest = InFirstSightOrder-split m row (concat (drop (suc s) ps)) (length zs) (from parts.0 m (row ++ concat (drop (suc s) ps)) (length zs) same parts.2) in
        (rest.0, rest.1)

    agree : (s : ℕ) → s ≤ length xs → Agreed s
    agree zero l = record {
      found = length starts;
      first = refl;
      rows = refl;
      same = λ i j.
          let x = at_place starts i j in
          let a = take_get (length starts) xs i x.0 (rw w.begins x.1) in
          let b = take_get (length starts) ys i x.0 (rw v.begins x.1) in
          a ∙ sym b;
    }
    agree (suc s) l =
        let before = agree s (omega arith) in
        let m = before.found in
        let below : s < m = seen xs ts w s m (omega arith) before.first in
        let x = at_place xs s (omega arith) in
        let there : slice_get ys s ≡ Some x.0 = sym (before.same s below) ∙ x.1 in
        let row = at_place ts s (omega (arith, w.len)) in
        let other = at_place us s (omega (arith, v.len, slice_get_within ys s x.0 there)) in
        let behind = w.rows s x.0 row.0 x.1 row.1 in
        let behind_other = v.rows s x.0 other.0 there other.1 in
        let items : behind_other.items ≡ behind.items = one x.0 behind_other.items behind.items behind_other.next behind.next in
        let order = row_order xs ts w s m row.0 row.1 before.first in
        let order_other = row_order ys us v s m other.0 other.1 (rw before.rows at before.first) in
        let step = row_same xs ys w.distinct v.distinct m before.same behind.items row.0 other.0 behind.numbers (rw items at behind_other.numbers) order.0 order_other.0 order.1 order_other.1 in
        record {
          found = order.0;
          first = rw (concat_take_next ts s row.0 row.1) (InFirstSightOrder-append (length starts) (concat (take s ts)) row.0 m order.0 before.first order.1);
          rows = take_next ts s row.0 row.1 ∙ ap (λ z. z ++ row.0 ∷ []) before.rows ∙ ap (λ z. take s us ++ z ∷ []) step.0 ∙ sym (take_next us s other.0 other.1);
          same = step.1;
        }

    whole : (i : ℕ) → i < length xs → slice_get xs i ≡ slice_get ys i
    whole i l =
        let all = agree (length xs) (omega arith) in
        let full = rw (take_all (length xs) ts (omega (arith, w.len))) at all.first in
        let end : all.found ≡ length xs = InFirstSightOrder-one (length starts) (concat ts) all.found (length xs) full w.order in
        all.same i (omega (arith, end))

    no_longer : length xs ≤ length ys
    no_longer = elim (cases_lt (length ys) (length xs)) [
      | inl l ↦ absurd (let x = at_place xs (length ys) l in let m = slice_get_within ys (length ys) x.0 (sym (whole (length ys) l) ∙ x.1) in omega arith)
      | inr l ↦ l
    ]

    rows_same : length xs ≡ length ys → ts ≡ us
    rows_same e =
        let all = agree (length xs) (omega arith) in
        sym (take_all (length xs) ts (omega (arith, w.len))) ∙ all.rows ∙ take_all (length xs) us (omega (arith, v.len, e))

  pub numbering_unique : (xs ys : List X) (ts us : List (List ℕ)) → IsNumbering Next starts xs ts → IsNumbering Next starts ys us → (xs ≡ ys) × (ts ≡ us)
  numbering_unique xs ys ts us w v =
      let len : length xs ≡ length ys = omega (arith, no_longer xs ys ts us w v, no_longer ys xs us ts v w) in
      (equal_by_elements xs ys len (whole xs ys ts us w v), rows_same xs ys ts us w v len)
