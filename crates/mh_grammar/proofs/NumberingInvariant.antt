-- Lemmas on items that are placed in a list, and on the invariant of a breadth-first numbering.
use Rattle.std.proofs.Common.{◌≡◌, ℕ, zero, suc, ◌+◌, ◌<◌, ◌≤◌, Bool, true, false, cond, Decides, List, [], ◌∷◌, ◌++◌, Some, length, get_or, refl, sym, ap, ◌∙◌, arith, inl, inr, append_assoc}
use Rattle.std.specs.List.{slice_get, list_any, All, Contains, concat}
use Rattle.std.proofs.lemmas.List.{length_push, append-nil, length-append}
use Rattle.std.proofs.Math.Seq.{take-append_seam}
use Rattle.std.proofs.lemmas.List.Elements.{All-push, Contains-append_left}
use Rattle.std.proofs.lemmas.List.Folds.{concat-append}
use Rattle.std.proofs.lemmas.Option.{slice_get-get_or, get_or_from_slice_get, slice_get_within}
use Rattle.std.proofs.lemmas.Map.Keys.{any_passes_from_place}
use Rattle.mh_grammar.specs.Numbering as numbering
use Rattle.mh_grammar.specs.Numbering.{Reached, AreDistinct, InFirstSightOrder, AreNumbersOf, IsTargetRow, IsNumbering}
use Rattle.mh_grammar.specs.Placed.{Placed, AllPlaced}
pub use Rattle.mh_grammar.proofs.Lists.{get_left, get_last, get_cases, contains_at, at_contains}

module _ {X : Type 0} where
  pub Placed-kept : (old new : List X) (x : X) (n : ℕ) → Placed old new x n → (i : ℕ) (y : X) → slice_get old i ≡ Some y → slice_get new i ≡ Some y
  Placed-kept old new x n p i y e = elim p.grown [ inl g ↦ rw g.0 e | inr g ↦ rw g.0 (get_left old (x ∷ []) i y e) ]

  pub AllPlaced-kept : (old new xs : List X) (ns : List ℕ) → AllPlaced old new xs ns → (i : ℕ) (y : X) → slice_get old i ≡ Some y → slice_get new i ≡ Some y
  AllPlaced-kept old new [] [] p i y e = rw p e
  AllPlaced-kept old new [] (n ∷ ns) p i y e = absurd p
  AllPlaced-kept old new (x ∷ xs) [] p i y e = absurd p
  AllPlaced-kept old new (x ∷ xs) (n ∷ ns) p i y e = AllPlaced-kept p.0 new xs ns p.2 i y (Placed-kept old p.0 x n p.1 i y e)

  pub AllPlaced-numbers : (old new xs : List X) (ns : List ℕ) → AllPlaced old new xs ns → AreNumbersOf new ns xs
  AllPlaced-numbers old new [] [] p = tt
  AllPlaced-numbers old new [] (n ∷ ns) p = absurd p
  AllPlaced-numbers old new (x ∷ xs) [] p = absurd p
  AllPlaced-numbers old new (x ∷ xs) (n ∷ ns) p = (AllPlaced-kept p.0 new xs ns p.2 n x p.1.at, AllPlaced-numbers p.0 new xs ns p.2)

  pub AllPlaced-push : (old mid new xs : List X) (ns : List ℕ) (x : X) (n : ℕ) → AllPlaced old mid xs ns → Placed mid new x n → AllPlaced old new (xs ++ x ∷ []) (ns ++ n ∷ [])
  AllPlaced-push old mid new [] [] x n p q = (new, rw p at q, refl)
  AllPlaced-push old mid new [] (m ∷ ns) x n p q = absurd p
  AllPlaced-push old mid new (y ∷ xs) [] x n p q = absurd p
  AllPlaced-push old mid new (y ∷ xs) (m ∷ ns) x n p q = (p.0, p.1, AllPlaced-push p.0 mid new xs ns x n p.2 q)

  pub AreDistinct-push : (xs : List X) (y : X) → AreDistinct xs → (Contains xs y → ⊥) → AreDistinct (xs ++ y ∷ [])
  AreDistinct-push xs y d new = record {
    same = λ i j x e f. elim (get_cases xs y i x e) [
      | inl a ↦ elim (get_cases xs y j x f) [ inl b ↦ d.same i j x a b | inr b ↦ absurd (new (contains_at xs i y (rw b.1 at a))) ]
      | inr a ↦ elim (get_cases xs y j x f) [ inl b ↦ absurd (new (contains_at xs j y (rw a.1 at b))) | inr b ↦ a.0 ∙ sym b.0 ]
    ];
  }

  pub AllPlaced-distinct : (old new xs : List X) (ns : List ℕ) → AllPlaced old new xs ns → AreDistinct old → AreDistinct new
  AllPlaced-distinct old new [] [] p d = rw p d
  AllPlaced-distinct old new [] (n ∷ ns) p d = absurd p
  AllPlaced-distinct old new (x ∷ xs) [] p d = absurd p
  AllPlaced-distinct old new (x ∷ xs) (n ∷ ns) p d = AllPlaced-distinct p.0 new xs ns p.2 (elim p.1.grown [ inl g ↦ rw g.0 d | inr g ↦ rw g.0 (AreDistinct-push old x d g.2) ])

  pub AllPlaced-each : (P : X → Type 0) (old new xs : List X) (ns : List ℕ) → AllPlaced old new xs ns → All P old → ((y : X) → Contains xs y → P y) → All P new
  AllPlaced-each P old new [] [] p d h = rw p d
  AllPlaced-each P old new [] (n ∷ ns) p d h = absurd p
  AllPlaced-each P old new (x ∷ xs) [] p d h = absurd p
  AllPlaced-each P old new (x ∷ xs) (n ∷ ns) p d h = AllPlaced-each P p.0 new xs ns p.2 (elim p.1.grown [ inl g ↦ rw g.0 d | inr g ↦ rw g.0 (All-push P old x d (h x (contains_at (x ∷ xs) 0 x refl))) ])
      (λ y c. let at = at_contains xs y c in h y (contains_at (x ∷ xs) (suc at.0) y at.1))

  pub AllPlaced-grows : (old new xs : List X) (ns : List ℕ) → AllPlaced old new xs ns → (more : List X) × (new ≡ old ++ more)
  AllPlaced-grows old new [] [] p = ([], p ∙ sym (append-nil old))
  AllPlaced-grows old new [] (n ∷ ns) p = absurd p
  AllPlaced-grows old new (x ∷ xs) [] p = absurd p
  AllPlaced-grows old new (x ∷ xs) (n ∷ ns) p = let m = AllPlaced-grows p.0 new xs ns p.2 in elim p.1.grown [
    | inl g ↦ (m.0, rw (← g.0) m.1)
    | inr g ↦ (x ∷ m.0, m.1 ∙ ap (λ l. l ++ m.0) g.0 ∙ append_assoc old (x ∷ []) m.0)
  ]

  pub AllPlaced-order : (old new xs : List X) (ns : List ℕ) → AllPlaced old new xs ns → InFirstSightOrder (length old) ns (length new)
  AllPlaced-order old new [] [] p = ap length (sym p)
  AllPlaced-order old new [] (n ∷ ns) p = absurd p
  AllPlaced-order old new (x ∷ xs) [] p = absurd p
  AllPlaced-order old new (x ∷ xs) (n ∷ ns) p = let rest = AllPlaced-order p.0 new xs ns p.2 in elim p.1.grown [
    | inl g ↦ inl (g.1, rw (ap length g.0) at rest)
    | inr g ↦ inr (g.1, rw (ap length g.0 ∙ length_push old x) at rest)
  ]

-- Inserting an item into a set that keeps the order of insertion places it.
pub Placed-insert : {X : Type 0} (E : X → X → Bool) → (old new : List X) (x : X) (n : ℕ) → new ≡ cond (list_any (E x) old) old (old ++ x ∷ []) → ((a b : X) → Decides (E a b) (a ≡ b)) → (k : X) → slice_get new n ≡ Some k → E x k ≡ true → Placed old new x n
Placed-insert E old new x n e d k at same = go (list_any (E x) old) refl e
  where
    one : x ≡ k
    one = (d x k).0 same

    here : slice_get new n ≡ Some x
    here = at ∙ ap Some (sym one)

    go : (b : Bool) → list_any (E x) old ≡ b → new ≡ cond b old (old ++ x ∷ []) → Placed old new x n
    go true f g = record { at = here; grown = inl (g, rw g at (slice_get_within new n x here)) }
    go false f g = record {
      at = here;
      grown = inr (
        g,
        (elim (get_cases old x n x (rw g at here)) [ inl before ↦ absurd (let t = any_passes_from_place (E x) old n x before ((d x x).1 refl) in let u : true ≡ false = sym t ∙ f in cc) | inr last ↦ last.0 ]),
        λ c. let p = at_contains old x c in let t = any_passes_from_place (E x) old p.0 x p.1 ((d x x).1 refl) in let u : true ≡ false = sym t ∙ f in cc,
      );
    }

pub InFirstSightOrder-append : (k : ℕ) (a b : List ℕ) (m n : ℕ) → InFirstSightOrder k a m → InFirstSightOrder m b n → InFirstSightOrder k (a ++ b) n
InFirstSightOrder-append k [] b m n p q = rw p q
InFirstSightOrder-append k (t ∷ a) b m n (inl p) q = inl (p.0, InFirstSightOrder-append k a b m n p.1 q)
InFirstSightOrder-append k (t ∷ a) b m n (inr p) q = inr (p.0, InFirstSightOrder-append (k + 1) a b m n p.1 q)

-- An item that a row names is an element of the list.
pub AreNumbersOf-contains : {X : Type 0} (states : List X) (row : List ℕ) (xs : List X) (j : ℕ) (y : X) → AreNumbersOf states row xs → slice_get xs j ≡ Some y → Contains states y
AreNumbersOf-contains states [] [] j y n e = cc
AreNumbersOf-contains states [] (x ∷ xs) j y n e = absurd n
AreNumbersOf-contains states (m ∷ row) [] j y n e = absurd n
AreNumbersOf-contains states (m ∷ row) (x ∷ xs) zero y n e = contains_at states m y (n.0 ∙ e)
AreNumbersOf-contains states (m ∷ row) (x ∷ xs) (suc j) y n e = AreNumbersOf-contains states row xs j y n.1 e

-- A row names the same items in a list that only grew.
pub AreNumbersOf-kept : {X : Type 0} (old new : List X) → ((i : ℕ) (y : X) → slice_get old i ≡ Some y → slice_get new i ≡ Some y) → (row : List ℕ) (xs : List X) → AreNumbersOf old row xs → AreNumbersOf new row xs
AreNumbersOf-kept old new k [] [] n = tt
AreNumbersOf-kept old new k [] (x ∷ xs) n = absurd n
AreNumbersOf-kept old new k (m ∷ row) [] n = absurd n
AreNumbersOf-kept old new k (m ∷ row) (x ∷ xs) n = (k m x n.0, AreNumbersOf-kept old new k row xs n.1)

-- A property of each item and its row is kept if the list of items grows and the next item gets its row.
pub rows_pushed : {X Y : Type 0} (Old New : X → Y → Type 0) (states new : List X) (rows : List Y) (x : X) (row : Y) → length rows ≤ length states → ((i : ℕ) (y : X) → slice_get states i ≡ Some y → slice_get new i ≡ Some y)
    → slice_get states (length rows) ≡ Some x → ((y : X) (r : Y) → Old y r → New y r) → New x row → ((i : ℕ) (y : X) (r : Y) → slice_get states i ≡ Some y → slice_get rows i ≡ Some r → Old y r)
    → (i : ℕ) (y : X) (r : Y) → slice_get new i ≡ Some y → slice_get (rows ++ row ∷ []) i ≡ Some r → New y r
rows_pushed Old New states new rows x row short kept at weaker here before i y r e f = elim (get_cases rows row i r f) [
  | inl was ↦ (let m : i < length states = omega (arith, slice_get_within rows i r was, short) in
      let old = slice_get-get_or states i y m in
      let both = kept i (get_or states i y) old in
      let same : get_or states i y ≡ y = cc in
      weaker y r (before i y r (old ∙ ap Some same) was))
  | inr last ↦ (let both = kept (length rows) x at in
      let again = rw last.0 at e in
      let same : y ≡ x = cc in
      rw (last.1, same) here)
]

-- The invariant of a breadth-first numbering: the first items have their rows.
pub record NumberingSoFar {X : Type 0} (Next : X → List X → Type 0) (starts states : List X) (targets : List (List ℕ)) : Type 0 where
  pub begins : (more : List X) × (states ≡ starts ++ more)
  pub reached : All (Reached Next starts) states
  pub distinct : AreDistinct states
  pub short : length targets ≤ length states
  pub rows : (i : ℕ) (x : X) (row : List ℕ) → slice_get states i ≡ Some x → slice_get targets i ≡ Some row → IsTargetRow Next states x row
  pub order : InFirstSightOrder (length starts) (concat targets) (length states)

pub NumberingSoFar-start : {X : Type 0} (Next : X → List X → Type 0) (starts : List X) → AreDistinct starts → NumberingSoFar Next starts starts []
NumberingSoFar-start Next starts d = record {
  begins = ([], sym (append-nil starts));
  reached = λ k e l. numbering.Reached.start (k, l, get_or_from_slice_get starts k (get_or starts k e) (get_or starts k e) (slice_get-get_or starts k e l));
  distinct = d;
  short = omega arith;
  rows = λ i x row e f. cc;
  order = refl;
}

module _ {X : Type 0} (Next : X → List X → Type 0) (starts states : List X) (targets : List (List ℕ)) (w : NumberingSoFar Next starts states targets) where
  pub NumberingSoFar-step : (new : List X) (x : X) (xs : List X) (row : List ℕ) → slice_get states (length targets) ≡ Some x → Next x xs → AllPlaced states new xs row → NumberingSoFar Next starts new (targets ++ row ∷ [])
  NumberingSoFar-step new x xs row at next p =
      let grows = AllPlaced-grows states new xs row p in
      let kept = AllPlaced-kept states new xs row p in
      let here = get_or_from_slice_get states (length targets) x x at in
      let within = slice_get_within states (length targets) x at in
      let r : Reached Next starts x = rw here at (w.reached (length targets) x within) in
      record {
        begins = (w.begins.0 ++ grows.0, grows.1 ∙ ap (λ l. l ++ grows.0) w.begins.1 ∙ append_assoc starts w.begins.0 grows.0);
        reached = AllPlaced-each (Reached Next starts) states new xs row p w.reached (λ y c. numbering.Reached.step r next c);
        distinct = AllPlaced-distinct states new xs row p w.distinct;
        short = omega (arith, length_push targets row, within, ap length grows.1, length-append states grows.0);
        rows = rows_pushed (IsTargetRow Next states) (IsTargetRow Next new) states new targets x row w.short kept at
            (λ y s was. record { items = was.items; next = was.next; numbers = AreNumbersOf-kept states new kept s was.items was.numbers })
            (record { items = xs; next = next; numbers = AllPlaced-numbers states new xs row p }) w.rows;
        order = rw (concat-append, append-nil row) (InFirstSightOrder-append (length starts) (concat targets) row (length states) (length new) w.order (AllPlaced-order states new xs row p));
      }

  -- If each item has its row, all reached items are in the list, provided that each item leads to one set of items.
  module _ (one : (x y : X) (ys zs : List X) → Next x ys → Next x zs → Contains ys y → Contains zs y) (done : length targets ≡ length states) where
    pub reached_in : (x : X) → Reached Next starts x → Contains states x
    reached_in x (numbering.Reached.start c) = rw w.begins.1 (Contains-append_left starts w.begins.0 x c)
    reached_in x (numbering.Reached.step {x = y} {ys = ys} r n c) =
        let at = at_contains states y (reached_in y r) in
        let m : at.0 < length targets = omega (arith, slice_get_within states at.0 y at.1) in
        let row = get_or targets at.0 [] in
        let behind = w.rows at.0 y row at.1 (slice_get-get_or targets at.0 [] m) in
        let to = at_contains behind.items x (one y x ys behind.items n behind.next c) in
        AreNumbersOf-contains states row behind.items to.0 x behind.numbers to.1

    pub IsNumbering-done : IsNumbering Next starts states targets
    IsNumbering-done = record {
      begins = rw (w.begins.1, take-append_seam starts w.begins.0) refl;
      reached = λ x. (λ c. rw c.2 at (w.reached c.0 x c.1), reached_in x);
      distinct = w.distinct;
      len = done;
      rows = w.rows;
      order = w.order;
    }
