-- Lemmas on right sides: their length is bounded and their symbols are in range.
use Rattle.std.proofs.Common.{◌≡◌, ℕ, suc, ◌+◌, ◌-◌, ◌*◌, ◌^◌, ◌<◌, ◌≤◌, List, [], None, Some, length, get_or, drop, sym, ap, arith, inl, inr}
use Rattle.std.specs.List.{slice_get, All}
use Rattle.std.proofs.lemmas.Bool.{cases_lt}
use Rattle.std.proofs.lemmas.List.Elements.{All-weaker, All-drop, All-cons, All-nil}
use Rattle.std.proofs.lemmas.Option.{slice_get-get_or, get_or_from_slice_get, slice_get_within}
use Rattle.mh_grammar.specs.declared.types.Symbol.{Symbol}
use Rattle.mh_grammar.specs.declared.types.Symbol.TheVariants.{T, N}
use Rattle.mh_grammar.specs.declared.types.Production.{Production}
use Rattle.mh_grammar.specs.Plain.{PlainGrammar, IsInRange, IsSymbolBelow, production_count, rhs_of}
use Rattle.mh_grammar.proofs.ProductionNumbers.{rhs_of-start, rhs_of-ordinary}
use Rattle.mh_grammar.proofs.Lists.{all_at}

-- The symbols of a right side are in range.
pub side_below : (g : PlainGrammar) → IsInRange g → (p : ℕ) → p < production_count g → All (IsSymbolBelow g.tokens g.nonterminals) (rhs_of g p)
side_below g r p l = elim (cases_lt p (length g.starts)) [
  | inl s ↦ rw (rhs_of-start g p s) (All-cons (IsSymbolBelow g.tokens g.nonterminals) (N (get_or g.starts p 0)) [] (r.starts p 0 s) (All-nil (IsSymbolBelow g.tokens g.nonterminals)))
  | inr o ↦ (let k : ℕ = p - length g.starts in let number : p ≡ length g.starts + k = omega arith in let within : k < length g.productions = omega arith in
      let none : Production = record { lhs = 0; rhs = []; level = None } in
      let q = get_or g.productions k none in
      let rhs = rhs_of-ordinary g k q (slice_get-get_or g.productions k none within) in
      rw (number, rhs) (r.productions k none within).rhs)
]

below_wider : (a b m n : ℕ) → a ≤ b → m ≤ n → (xs : List Symbol) → All (IsSymbolBelow a m) xs → All (IsSymbolBelow b n) xs
below_wider a b m n k l xs h = All-weaker (IsSymbolBelow a m) (IsSymbolBelow b n) (λ X s. wider X s) xs h
  where
    wider : (X : Symbol) → IsSymbolBelow a m X → IsSymbolBelow b n X
    wider (T x) s = omega arith
    wider (N x) s = omega arith

pub rest_below : (g : PlainGrammar) → IsInRange g → (p d : ℕ) → p < production_count g → All (IsSymbolBelow g.tokens g.nonterminals) (drop (suc d) (rhs_of g p))
rest_below g r p d l = All-drop (IsSymbolBelow g.tokens g.nonterminals) (suc d) (rhs_of g p) (side_below g r p l)

pub rest_fits : (W : ℕ) (g : PlainGrammar) (count : ℕ) (xs : List Symbol) → IsInRange g → g.tokens ≤ 64 * W → count ≡ g.nonterminals → (p d : ℕ) → p < production_count g → xs ≡ drop (suc d) (rhs_of g p) → All (IsSymbolBelow (64 * W) count) xs
rest_fits W g count xs r w e p d l at = rw at (below_wider g.tokens (64 * W) g.nonterminals count w (omega arith) (drop (suc d) (rhs_of g p)) (rest_below g r p d l))

pub target_below : (g : PlainGrammar) → IsInRange g → (p d n : ℕ) → p < production_count g → slice_get (rhs_of g p) d ≡ Some (N n) → n < g.nonterminals
target_below g r p d n l e = all_at (IsSymbolBelow g.tokens g.nonterminals) (rhs_of g p) d (N n) (side_below g r p l) (slice_get_within (rhs_of g p) d (N n) e) (sym (get_or_from_slice_get (rhs_of g p) d (N n) (N n) e))

-- The length of a right side is below 2^32.
pub short_rhs : (g : PlainGrammar) → IsInRange g → (p : ℕ) → p < production_count g → length (rhs_of g p) < 2 ^ 32
short_rhs g r p l = elim (cases_lt p (length g.starts)) [
  | inl s ↦ (let e = ap length (rhs_of-start g p s) in omega arith)
  | inr o ↦ (let k : ℕ = p - length g.starts in let number : p ≡ length g.starts + k = omega arith in let within : k < length g.productions = omega arith in
      let none : Production = record { lhs = 0; rhs = []; level = None } in
      let e = ap length (rhs_of-ordinary g k (get_or g.productions k none) (slice_get-get_or g.productions k none within)) in
      let short = r.short k none within in
      rw number (omega arith))
]
