-- Lemmas on the states during their renumbering.
use Rattle.std.proofs.Common.{◌≡◌, ◌⊎◌, ◌↔◌, ◌+◌, ◌<◌, ◌≤◌, ℕ, zero, suc, List, [], ◌∷◌, ◌++◌, Some, map, length, get_or, refl, sym, ap, ◌∙◌, arith, inl, inr}
use Rattle.std.specs.List.{slice_get, Contains, All, AllZip, range_with_len}
use Rattle.std.specs.Option.{option_map}
use Rattle.std.proofs.lemmas.List.{map-append, length-map}
use Rattle.std.proofs.lemmas.List.Elements.{All-contains}
use Rattle.std.proofs.lemmas.List.FromFn.{length-range_with_len, get_or-range_with_len}
use Rattle.std.proofs.lemmas.Option.{slice_get_within, slice_get-get_or, slice_get-map}
use Rattle.mh_grammar.specs.declared.types.Look.{Look}
use Rattle.mh_grammar.specs.declared.edges.Edge.{Edge}
use Rattle.mh_grammar.specs.Plain.{PlainGrammar}
use Rattle.mh_grammar.specs.Placed.{Placed, AllPlaced}
use Rattle.mh_grammar.proofs.Lists.{get_cases, contains_at}
use Rattle.mh_grammar.proofs.NumberingInvariant.{AllPlaced-push, AllPlaced-distinct, AllPlaced-each, AllPlaced-kept, NumberingSoFar, NumberingSoFar-start, NumberingSoFar-step, IsNumbering-done}
use Rattle.mh_grammar.proofs.Pigeonhole.{length-distinct_in}
use Rattle.mh_items_kernels.specs.KernelTypes.{Kernel}
use Rattle.mh_items_kernels.specs.Kernels.{Holds, IsItemList}
use Rattle.mh_items_kernels.proofs.UniqueItemList.{kernel_same}
use Rattle.mh_items_kernels.specs.Collection.{targets_of, edge_symbols}
use Rattle.mh_pager.specs.code.Renumbering.{AreDistinctBelow, IsRenumbered, AreReachedStates}
use Rattle.mh_pager.specs.MergeSteps.{HasTargets, HasSymbolsOfRow}
use Rattle.mh_pager.proofs.StartNumbers.{range_at, range_from}

-- Different numbers below an upper bound are no more than the bound.
pub below_few : (count : ℕ) (states : List ℕ) → AreDistinctBelow count states → length states ≤ count
below_few count states b =
    let few = length-distinct_in (range_with_len 0 count) states b.distinct (λ n c. contains_at (range_with_len 0 count) n n (range_at count n (All-contains (λ n. n < count) states n b.below c))) in
    let len = length-range_with_len 0 count in
    omega arith

pub placed_below : (count : ℕ) (old new targets ns : List ℕ) → AllPlaced old new targets ns → AreDistinctBelow count old → All (λ t. t < count) targets → AreDistinctBelow count new
placed_below count old new targets ns p b t = record {
  distinct = AllPlaced-distinct old new targets ns p b.distinct;
  below = AllPlaced-each (λ n. n < count) old new targets ns p b.below (λ y c. All-contains (λ t. t < count) targets y t c);
}

pub one_placed : (old new : List ℕ) (x n : ℕ) → Placed old new x n → AllPlaced old new (x ∷ []) (n ∷ [])
one_placed old new x n p = (new, p, refl)

pub one_below : (count x : ℕ) → x < count → All (λ t. t < count) (x ∷ [])
one_below count x l zero d m = l
one_below count x l (suc k) d m = absurd (omega arith)

pub starts_below : (starts count : ℕ) → starts ≤ count → AreDistinctBelow count (range_with_len 0 starts)
starts_below starts count l = record {
  distinct = record { same = λ i j x e f. let a = range_from starts i x e in let b = range_from starts j x f in sym a.0 ∙ b.0 };
  below = λ k d m. (let n : k < starts = rw (← length-range_with_len 0 starts) m in let e = get_or-range_with_len 0 starts k d n in omega arith);
}

pub IsRenumbered-none : (old : List ℕ) → IsRenumbered [] [] old old
IsRenumbered-none old = record { symbols_are = refl; placed = refl }

pub IsRenumbered-push : (row new : List Edge) (old mid states : List ℕ) (e : Edge) (n : ℕ) → IsRenumbered row new old mid → Placed mid states e.target n → IsRenumbered (row ++ e ∷ []) (new ++ record { symbol = e.symbol; target = n } ∷ []) old states
IsRenumbered-push row new old mid states e n r p = record {
  symbols_are = map-append (λ (x : Edge). x.symbol) new (record { symbol = e.symbol; target = n } ∷ []) ∙ ap (λ xs. xs ++ e.symbol ∷ []) r.symbols_are ∙ sym (map-append (λ (x : Edge). x.symbol) row (e ∷ []));
  placed = rw (map-append (λ (x : Edge). x.target) new (record { symbol = e.symbol; target = n } ∷ []), map-append (λ (x : Edge). x.target) row (e ∷ [])) (AllPlaced-push old mid states (targets_of row) (targets_of new) e.target n r.placed p);
}

-- The loop invariant of the renumbering.
pub record RenumberingInvariant (starts : ℕ) (rows : List (List Edge)) (states : List ℕ) (edges : List (List Edge)) : Type 0 where
  pub walking : NumberingSoFar (HasTargets rows) (range_with_len 0 starts) states (map targets_of edges)
  pub below : AreDistinctBelow (length rows) states
  pub symbols : (i n : ℕ) (row : List Edge) → slice_get states i ≡ Some n → slice_get edges i ≡ Some row → HasSymbolsOfRow rows n row

pub RenumberingInvariant-start : (starts : ℕ) (rows : List (List Edge)) → starts ≤ length rows → RenumberingInvariant starts rows (range_with_len 0 starts) []
RenumberingInvariant-start starts rows l =
    let b = starts_below starts (length rows) l in
    record { walking = NumberingSoFar-start (HasTargets rows) (range_with_len 0 starts) b.distinct; below = b; symbols = λ i n row e f. cc }

module _ (starts : ℕ) (rows : List (List Edge)) (states : List ℕ) (edges : List (List Edge)) (r : RenumberingInvariant starts rows states edges) where
  pub RenumberingInvariant-step : (new : List ℕ) (n : ℕ) (row made : List Edge) → slice_get states (length edges) ≡ Some n → slice_get rows n ≡ Some row → All (λ t. t < length rows) (targets_of row) → IsRenumbered row made states new → RenumberingInvariant starts rows new (edges ++ made ∷ [])
  RenumberingInvariant-step new n row made at here targets is =
      let count : length (map targets_of edges) ≡ length edges = length-map edges targets_of in
      record {
        walking = rw (map-append targets_of edges (made ∷ [])) (NumberingSoFar-step (HasTargets rows) (range_with_len 0 starts) states (map targets_of edges) r.walking new n (targets_of row) (targets_of made) (rw count at) (record { row = row; at = here; targets_are = refl }) is.placed);
        below = placed_below (length rows) states new (targets_of row) (targets_of made) is.placed r.below targets;
        symbols = λ i m e a f. elim (get_cases edges made i e f) [
          | inl before ↦ (
              let l : i < length states = omega (arith, r.walking.short, count, slice_get_within edges i e before) in
              let old = slice_get-get_or states i m l in
              let kept = AllPlaced-kept states new (targets_of row) (targets_of made) is.placed i (get_or states i m) old in
              let one : Some (get_or states i m) ≡ Some m = sym kept ∙ a in
              r.symbols i m e (old ∙ one) before)
          | inr last ↦ (
              let kept = AllPlaced-kept states new (targets_of row) (targets_of made) is.placed (length edges) n at in
              let one : Some n ≡ Some m = sym kept ∙ ap (slice_get new) (sym last.0) ∙ a in
              let same : n ≡ m = cc in
              record { row = row; at = rw (← same) here; same = ap edge_symbols last.1 ∙ is.symbols_are })
        ];
      }

  zip_places : (xs : List ℕ) (ys : List (List Edge)) → length xs ≡ length ys → ((i n : ℕ) (row : List Edge) → slice_get xs i ≡ Some n → slice_get ys i ≡ Some row → HasSymbolsOfRow rows n row) → AllZip (HasSymbolsOfRow rows) xs ys
  zip_places [] [] e h = tt
  zip_places [] (y ∷ ys) e h = absurd (omega arith)
  zip_places (x ∷ xs) [] e h = absurd (omega arith)
  zip_places (x ∷ xs) (y ∷ ys) e h = (h 0 x y refl refl, zip_places xs ys (omega arith) (λ i n row a b. h (suc i) n row a b))

  pub AreReachedStates-done : length states ≤ length edges → AreReachedStates starts rows states edges
  AreReachedStates-done l =
      let count : length (map targets_of edges) ≡ length edges = length-map edges targets_of in
      let done : length (map targets_of edges) ≡ length states = omega (arith, r.walking.short, count) in
      record {
        numbering = IsNumbering-done (HasTargets rows) (range_with_len 0 starts) states (map targets_of edges) r.walking (λ x y ys zs a b c. leads_one x y ys zs a b c) done;
        symbols = zip_places states edges (sym done ∙ count) r.symbols;
        below = r.below.below;
      }
    where
      leads_one : (x y : ℕ) (ys zs : List ℕ) → HasTargets rows x ys → HasTargets rows x zs → Contains ys y → Contains zs y
      leads_one x y ys zs a b c =
          let one : Some a.row ≡ Some b.row = sym a.at ∙ b.at in
          let same : a.row ≡ b.row = cc in
          let all : ys ≡ zs = sym a.targets_are ∙ ap targets_of same ∙ b.targets_are in
          rw all at c

-- The join of a kernel with itself is the kernel.
pub join_itself : (g : PlainGrammar) (k j : Kernel) → IsItemList g k → IsItemList g j → ((p d : ℕ) (a : Look) → Holds j p d a ↔ (Holds k p d a ⊎ Holds k p d a)) → j ≡ k
join_itself g k j of_k of_j h = kernel_same g j k of_j of_k (λ p d a. ((λ x. elim ((h p d a).0 x) [ inl y ↦ y | inr y ↦ y ]), (λ x. (h p d a).1 (inl x))))

pub target_below : (count : ℕ) (row : List Edge) (i : ℕ) (d : Edge) → i < length row → All (λ t. t < count) (targets_of row) → (get_or row i d).target < count
target_below count row i d l h =
    let at : slice_get (targets_of row) i ≡ Some (get_or row i d).target = slice_get-map (λ (e : Edge). e.target) row i ∙ ap (option_map (λ (e : Edge). e.target)) (slice_get-get_or row i d l) in
    All-contains (λ t. t < count) (targets_of row) (get_or row i d).target h (contains_at (targets_of row) i (get_or row i d).target at)

pub placed_small : (count : ℕ) (old new : List ℕ) (x n : ℕ) → AreDistinctBelow count old → x < count → Placed old new x n → n < count
placed_small count old new x n b l p =
    let few = below_few count new (placed_below count old new (x ∷ []) (n ∷ []) (one_placed old new x n p) b (one_below count x l)) in
    let within = slice_get_within new n x p.at in
    omega arith

pub next_state : (states slice : List ℕ) (edges : List (List Edge)) (i : ℕ) → slice ≡ states → i ≡ length edges → i < length states → slice_get states (length edges) ≡ Some (get_or slice i 0)
next_state states slice edges i same e l = rw (same, ← e) (slice_get-get_or states i 0 l)

pub next_row : (starts : ℕ) (rows : List (List Edge)) (states : List ℕ) (edges : List (List Edge)) → RenumberingInvariant starts rows states edges → (n : ℕ) (row : List Edge) → slice_get states (length edges) ≡ Some n → row ≡ get_or rows n row → slice_get rows n ≡ Some row
next_row starts rows states edges r n row at is =
    let l : n < length rows = All-contains (λ m. m < length rows) states n r.below.below (contains_at states (length edges) n at) in
    slice_get-get_or rows n row l ∙ ap Some (sym is)
