-- Lemmas on the limit of depth.
use Rattle.std.proofs.Common.{◌≡◌, ℕ, zero, suc, ◌+◌, ◌<◌, ◌≤◌, inl, inr, List, [], ◌∷◌, ◌++◌, length, take, drop, true, false, nat_lt, arith, lt-ltb, length-append}
use Rattle.std.specs.List.{All}
use Rattle.std.proofs.lemmas.Bool.{cases_lt, ltb-false, le-ltb, or_from, or_left, or_parts, or_right}
use Rattle.std.proofs.lemmas.List.{length-take}
use Rattle.std.proofs.lemmas.List.Elements.{All-nil, All-head, All-tail, All-cons}
use Rattle.mh_grammar.specs.Limits.{max_height}
use Rattle.mh_grammar.specs.Trees.{SyntaxTree, Leaf, Node, height_of, forest_height, forest_of}
use Rattle.mh_grammar.proofs.Heights.{heights_append}
use Rattle.mh_tables_core.specs.TooDeep.{too_deep}

abbrev heights : List SyntaxTree → ℕ
heights ts = forest_height (forest_of ts)

fits_heights : (ts : List SyntaxTree) → too_deep ts ≡ false → heights ts ≤ max_height
fits_heights ts e = ltb-false max_height (heights ts) ((or_parts (nat_lt max_height (length ts)) (nat_lt max_height (heights ts)) e).1)

fits_from : (ts : List SyntaxTree) → length ts ≤ max_height → heights ts ≤ max_height → too_deep ts ≡ false
fits_from ts l h = or_from (nat_lt max_height (length ts)) (nat_lt max_height (heights ts)) (le-ltb max_height (length ts) l) (le-ltb max_height (heights ts) h)

pub deep_pairs : (ts : List SyntaxTree) → max_height < length ts → too_deep ts ≡ true
deep_pairs ts l = or_left (nat_lt max_height (length ts)) (nat_lt max_height (heights ts)) (lt-ltb max_height (length ts) l)

deep_heights : (ts : List SyntaxTree) → max_height < heights ts → too_deep ts ≡ true
deep_heights ts h = or_right (nat_lt max_height (length ts)) (nat_lt max_height (heights ts)) (lt-ltb max_height (heights ts) h)

heights_take : (n : ℕ) (ts : List SyntaxTree) → heights (take n ts) ≤ heights ts
heights_take zero [] = omega arith
heights_take (suc n) [] = omega arith
heights_take zero (x ∷ ts) = omega arith
heights_take (suc n) (x ∷ ts) = omega (arith, heights_take n ts)

below_limit : (ts : List SyntaxTree) → All (λ t. height_of t < max_height) ts → heights ts < max_height
below_limit [] h = omega arith
below_limit (x ∷ ts) h = let first = All-head (λ t. height_of t < max_height) x ts h in let rest = below_limit ts (All-tail (λ t. height_of t < max_height) x ts h) in omega arith

all_below : (ts : List SyntaxTree) → heights ts < max_height → All (λ t. height_of t < max_height) ts
all_below [] h = All-nil (λ t. height_of t < max_height)
all_below (x ∷ ts) h = All-cons (λ t. height_of t < max_height) x ts (omega arith) (all_below ts (omega arith))

-- A shift does not exceed the limit if the number of trees is below it.
pub shift_fits : (ts : List SyntaxTree) (z : ℕ) → too_deep ts ≡ false → length ts < max_height → too_deep (ts ++ Leaf z ∷ []) ≡ false
shift_fits ts z e lt =
    let l = length-append ts (Leaf z ∷ []) in
    let a = heights_append ts (Leaf z ∷ []) in
    let h = fits_heights ts e in
    fits_from (ts ++ Leaf z ∷ []) (omega arith) (omega arith)

-- A reduction replaces the last trees by a node over them.
module _ (ts : List SyntaxTree) (n p : ℕ) (le : n ≤ length ts) where
  abbrev after_node : List SyntaxTree
  after_node = take n ts ++ Node p (forest_of (drop n ts)) ∷ []

  pairs : length after_node ≡ n + 1
  pairs = let l = length-append (take n ts) (Node p (forest_of (drop n ts)) ∷ []) in let k = length-take n ts in omega arith

  pub reduce_fits : too_deep ts ≡ false → n < max_height → All (λ t. height_of t < max_height) (drop n ts) → too_deep after_node ≡ false
  reduce_fits e lt all =
      let l = pairs in
      let a = heights_append (take n ts) (Node p (forest_of (drop n ts)) ∷ []) in
      let t = heights_take n ts in
      let h = fits_heights ts e in
      let b = below_limit (drop n ts) all in
      fits_from after_node (omega arith) (omega arith)

  pub reduce_many : max_height ≤ n → too_deep after_node ≡ true
  reduce_many le' = let l = pairs in deep_pairs after_node (omega arith)

  pub reduce_high : (All (λ t. height_of t < max_height) (drop n ts) → ⊥) → too_deep after_node ≡ true
  reduce_high none =
      let a = heights_append (take n ts) (Node p (forest_of (drop n ts)) ∷ []) in
      elim (cases_lt (heights (drop n ts)) max_height) [
        | inl low ↦ absurd (none (all_below (drop n ts) low))
        | inr high ↦ deep_heights after_node (omega arith)
      ]
