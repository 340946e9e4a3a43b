-- Lemmas on items that are put into rows, one after another.
use Rattle.std.proofs.Common.{◌≡◌, ℕ, ◌+◌, ◌<◌, ◌≤◌, ◌⊎◌, ◌↔◌, List, [], ◌∷◌, ◌++◌, None, Some, length, get_or, set, vec_len, sym, ap, ◌∙◌, arith, inl, inr, get_or-set_same, eqb, nat_cmp}
use Rattle.std.specs.List.{slice_get, All, Contains, dedup}
use Rattle.std.proofs.lemmas.Bool.{cases_eq, cases_lt}
use Rattle.std.proofs.lemmas.List.{get_or-set_other, get_or_past, length-set, length_push}
use Rattle.std.proofs.lemmas.List.Elements.{Contains-push, Contains-push_cases, Contains-append_left}
use Rattle.std.specs.List.Sorted.{IsPermutation, IsSorted}
use Rattle.std.proofs.lemmas.List.Kept.{Contains-dedup_nat, Contains-from_dedup}
use Rattle.std.proofs.lemmas.List.Sorted.{Contains-permutation, IsPermutation-sym}
use Rattle.std.proofs.lemmas.Map.Keys.{IsStrictlyIncreasing-dedup}
use Rattle.std.proofs.lemmas.Option.{slice_get_within, get_or_from_slice_get}
use Rattle.mh_grammar.specs.declared.types.Symbol.{Symbol}
use Rattle.mh_grammar.specs.declared.types.Symbol.TheVariants.{T, N}
use Rattle.mh_grammar.specs.Plain.{PlainGrammar, IsInRange, IsSymbolBelow, production_count, rhs_of}
use Rattle.mh_items_kernels.specs.KernelTypes.{KernelItem, Kernel}
use Rattle.mh_items_kernels.specs.Kernels.{IsItemList, IsKernelItem}
use Rattle.mh_items_kernels.proofs.RhsInRange.{side_below}
use Rattle.mh_grammar.proofs.Lists.{all_at, recursion_at}
use Rattle.mh_items_kernels.proofs.IsMove.{MovedSoFar, MovedSoFar-start, MovedSoFar-push, MovedSoFar-skip, moved_of}
use Rattle.mh_items.specs.declared.rows.SymbolRows.{SymbolRows}
use Rattle.mh_items.specs.code.SymbolRows.{row_index, row_at, AreRowsEmpty, AreFilled, AreRowsOfMoves, AreRowsSorted}

abbrev of_items : List KernelItem → Kernel
of_items items = record { items = items }

-- The symbol at a dot is in the grammar's range.
pub symbol_below : (g : PlainGrammar) → IsInRange g → (p d : ℕ) (X : Symbol) → p < production_count g → slice_get (rhs_of g p) d ≡ Some X → IsSymbolBelow g.tokens g.nonterminals X
symbol_below g r p d X l e = all_at (IsSymbolBelow g.tokens g.nonterminals) (rhs_of g p) d X (side_below g r p l) (slice_get_within (rhs_of g p) d X e) (sym (get_or_from_slice_get (rhs_of g p) d X X e))

-- Two symbols with the same row index are equal.
pub row_index_injective : (tokens n : ℕ) (X Y : Symbol) → IsSymbolBelow tokens n X → IsSymbolBelow tokens n Y → row_index tokens X ≡ row_index tokens Y → X ≡ Y
row_index_injective tokens n (T a) (T b) x y e = ap T e
row_index_injective tokens n (T a) (N b) x y e = absurd (omega arith)
row_index_injective tokens n (N a) (T b) x y e = absurd (omega arith)
row_index_injective tokens n (N a) (N b) x y e = let same : a ≡ b = omega arith in ap N same

pub place_within : (tokens n : ℕ) (X : Symbol) → IsSymbolBelow tokens n X → row_index tokens X < tokens + n
place_within tokens n (T a) l = omega arith
place_within tokens n (N a) l = omega arith

-- Each row of a list of empty rows is empty.
pub empty_row : (rows : List (List KernelItem)) → All (λ row. row ≡ []) rows → (n : ℕ) → get_or rows n [] ≡ []
empty_row rows all n = elim (cases_lt n (length rows)) [
  | inl l ↦ all n [] l
  | inr o ↦ get_or_past rows n [] (omega arith)
]

-- Lemmas on one row that gets an item.

module _ {W : ℕ} (old new : SymbolRows W) (n : ℕ) (item : KernelItem) (within : n < length old.rows.items) (rows : new.rows.items ≡ set old.rows.items n (row_at old n ++ item ∷ [])) where
  pub row_here : row_at new n ≡ row_at old n ++ item ∷ []
  row_here = ap (λ rs. get_or rs n []) rows ∙ get_or-set_same old.rows.items n (row_at old n ++ item ∷ []) [] within

  pub row_there : (m : ℕ) → (m ≡ n → ⊥) → row_at new m ≡ row_at old m
  row_there m o = ap (λ rs. get_or rs m []) rows ∙ get_or-set_other old.rows.items n m (row_at old n ++ item ∷ []) [] o

  pub same_size : length new.rows.items ≡ length old.rows.items
  same_size = ap length rows ∙ length-set old.rows.items n (row_at old n ++ item ∷ [])

  filled_by : AreFilled old → ((m : ℕ) → Contains new.filled.items m ↔ (Contains old.filled.items m ⊎ (m ≡ n))) → AreFilled new
  filled_by h list = record {
    listed = λ m. (
      (λ c. elim ((list m).0 c) [
        | inl k ↦ (let was = (h.listed m).0 k in elim (cases_eq m n) [
          | inl e ↦ (let l = ap length (row_here) in rw e (omega (arith, was.0, same_size, new.rows.ok.0, old.rows.ok.0), omega (arith, l, length_push (row_at old n) item)))
          | inr o ↦ (omega (arith, was.0, same_size, new.rows.ok.0, old.rows.ok.0), rw (row_there m o) was.1)
        ])
        | inr e ↦ (let l = ap length (row_here) in rw e (omega (arith, within, same_size, new.rows.ok.0), omega (arith, l, length_push (row_at old n) item)))
      ]),
      (λ p. elim (cases_eq m n) [
        | inl e ↦ (list m).1 (inr e)
        | inr o ↦ (list m).1 (inl ((h.listed m).1 (omega (arith, p.0, same_size, new.rows.ok.0, old.rows.ok.0), rw (row_there m o) at p.1)))
      ]),
    );
  }

  -- The row was empty, and its index is appended to the list of filled rows.
  pub filled_first : AreFilled old → new.filled.items ≡ old.filled.items ++ n ∷ [] → AreFilled new
  filled_first h list = filled_by h (λ m. (
    (λ c. elim (Contains-push_cases old.filled.items n m (rw list at c)) [ inl k ↦ inl k | inr e ↦ inr (sym e) ]),
    (λ s. rw list (elim s [ inl k ↦ Contains-append_left old.filled.items (n ∷ []) m k | inr e ↦ rw e (Contains-push old.filled.items n) ])),
  ))

  -- The row had items already, and the list of filled rows is unchanged.
  pub filled_more : AreFilled old → 0 < length (row_at old n) → new.filled.items ≡ old.filled.items → AreFilled new
  filled_more h some list = filled_by h (λ m. (
    (λ c. inl (rw list at c)),
    (λ s. rw list (elim s [ inl k ↦ k | inr e ↦ rw e ((h.listed n).1 (omega (arith, within, old.rows.ok.0), some)) ])),
  ))

-- The loop invariant: the first i items are in the rows of their symbols.

pub record GatheredSoFar {W : ℕ} (g : PlainGrammar) (items : List KernelItem) (i : ℕ) (r : SymbolRows W) : Type 0 where
  pub size : vec_len r.rows ≡ g.tokens + g.nonterminals
  pub filled : AreFilled r
  pub rows : (X : Symbol) → IsSymbolBelow g.tokens g.nonterminals X → MovedSoFar g X items (row_at r (row_index g.tokens X)) i

pub GatheredSoFar-start : {W : ℕ} (g : PlainGrammar) (items : List KernelItem) (r : SymbolRows W) → AreRowsEmpty g r → GatheredSoFar g items 0 r
GatheredSoFar-start g items r h = record {
  size = h.size;
  filled = record {
    listed = λ n. (
      (λ c. absurd (let d = rw h.unlisted at c in omega (arith, d.1))),
      (λ p. absurd (let l = ap length (h.none n) in omega (arith, l, p.1))),
    );
  };
  rows = λ X b. rw (h.none (row_index g.tokens X)) (MovedSoFar-start g X items);
}

module _ {W : ℕ} (g : PlainGrammar) (items : List KernelItem) (i : ℕ) (y : KernelItem) (old new : SymbolRows W) (kernel : IsItemList g (of_items items)) (h : GatheredSoFar g items i old) (at : slice_get items i ≡ Some y) where
  pub GatheredSoFar-push : (X : Symbol) (item : KernelItem) → IsInRange g → slice_get (rhs_of g y.production) y.dot ≡ Some X → item ≡ record { production = y.production; dot = y.dot + 1; looks = y.looks }
      → new.rows.items ≡ set old.rows.items (row_index g.tokens X) (row_at old (row_index g.tokens X) ++ item ∷ []) → (AreFilled old → AreFilled new) → GatheredSoFar g items (i + 1) new
  GatheredSoFar-push X item range m is rows filled =
      let of_y = (recursion_at (IsKernelItem g) items kernel.items i y at).production in
      let below = symbol_below g range y.production y.dot X of_y m in
      let within : row_index g.tokens X < length old.rows.items = omega (arith, place_within g.tokens g.nonterminals X below, h.size, old.rows.ok.0) in
      record {
        size = omega (arith, same_size old new (row_index g.tokens X) item within rows, h.size, old.rows.ok.0, new.rows.ok.0);
        filled = filled h.filled;
        rows = λ Y b. elim (cases_eq (row_index g.tokens Y) (row_index g.tokens X)) [
          | inl e ↦ (let one = row_index_injective g.tokens g.nonterminals Y X b below e in
              rw (one, row_here old new (row_index g.tokens X) item within rows, is) (MovedSoFar-push g X items (row_at old (row_index g.tokens X)) i y kernel (h.rows X below) at m))
          | inr o ↦ rw (row_there old new (row_index g.tokens X) item within rows (row_index g.tokens Y) o)
              (MovedSoFar-skip g Y items (row_at old (row_index g.tokens Y)) i y kernel (h.rows Y b) at (λ e. o (let both : Some Y ≡ Some X = sym e ∙ m in let same : Y ≡ X = cc in ap (row_index g.tokens) same)))
        ];
      }

  pub GatheredSoFar-skip : slice_get (rhs_of g y.production) y.dot ≡ None → GatheredSoFar g items (i + 1) old
  GatheredSoFar-skip none = record {
    size = h.size;
    filled = h.filled;
    rows = λ Y b. MovedSoFar-skip g Y items (row_at old (row_index g.tokens Y)) i y kernel (h.rows Y b) at (λ e. (let both : Some Y ≡ None = sym e ∙ none in cc));
  }

pub GatheredSoFar-all : {W : ℕ} (g : PlainGrammar) (items : List KernelItem) (i : ℕ) (r : SymbolRows W) → length items ≤ i → GatheredSoFar g items i r → AreRowsOfMoves g items r
GatheredSoFar-all g items i r all h = record {
  size = h.size;
  filled = h.filled;
  rows = λ X b. record { kernel = (h.rows X b).kernel; same = moved_of g X (of_items items) (row_at r (row_index g.tokens X)) i all (h.rows X b) };
}

-- The indices are sorted, without duplicates.
pub gathered-ready : {W : ℕ} (g : PlainGrammar) (items : List KernelItem) (r new : SymbolRows W) (sorted : List ℕ) → AreRowsOfMoves g items r → new.rows ≡ r.rows → IsPermutation r.filled.items sorted → IsSorted nat_cmp sorted → new.filled.items ≡ dedup eqb sorted → AreRowsSorted g new
gathered-ready g items r new sorted h rows permuted rises once = record {
  size = ap vec_len rows ∙ h.size;
  filled = record {
    listed = λ n. (
      (λ c. rw rows ((h.filled.listed n).0 (Contains-permutation _ _ n (IsPermutation-sym _ _ permuted) (Contains-from_dedup _ _ n (rw once at c))))),
      (λ p. rw once (Contains-dedup_nat _ n (Contains-permutation _ _ n permuted ((h.filled.listed n).1 (rw rows at p))))),
    );
  };
  rising = rw once (IsStrictlyIncreasing-dedup sorted rises);
}
