-- Lemmas on right sides by the number of their production, and on the symbol at a dot.
use Rattle.std.proofs.Common.{◌≡◌, ℕ, zero, suc, ◌+◌, ◌-◌, ◌<◌, ◌≤◌, List, [], ◌∷◌, Some, length, get_or, drop, refl, sym, ap, ◌∙◌, arith}
use Rattle.std.specs.List.{slice_get}
use Rattle.std.proofs.lemmas.Option.{slice_get_read, get_or_from_slice_get}
use Rattle.mh_grammar.specs.declared.types.Symbol.TheVariants.{N}
use Rattle.mh_grammar.specs.declared.types.Production.{Production}
use Rattle.mh_grammar.specs.Plain.{PlainGrammar, production_count, rhs_of}
use Rattle.mh_grammar.proofs.ProductionNumbers.{rhs_of-start, rhs_of-ordinary}
use Rattle.mh_grammar.proofs.Lists.{get_from_drop}

pub start_rhs : (g : PlainGrammar) (p s start : ℕ) → s ≡ length g.starts → p < s → start ≡ get_or g.starts p start → rhs_of g p ≡ N start ∷ []
start_rhs g p s start e l at =
    let within : p < length g.starts = omega arith in
    rhs_of-start g p within ∙ ap (λ n. N n ∷ []) (get_or_from_slice_get g.starts p start 0 (slice_get_read g.starts (length g.starts) p start refl within at))

pub ordinary_rhs : (g : PlainGrammar) (p s : ℕ) (q : Production) → s ≡ length g.starts → s ≤ p → p < production_count g → q ≡ get_or g.productions (p - s) q → rhs_of g p ≡ q.rhs
ordinary_rhs g p s q e l known at =
    let within : p - s < length g.productions = omega arith in
    let number : p ≡ length g.starts + (p - s) = omega arith in
    ap (rhs_of g) number ∙ rhs_of-ordinary g (p - s) q (slice_get_read g.productions (length g.productions) (p - s) q refl within at)

-- Lemmas on the symbol at an index of a list and the symbols after it.
module _ {X : Type 0} where
  pub drop_from-slice_get : (xs : List X) (d : ℕ) (x : X) → slice_get xs d ≡ Some x → drop d xs ≡ x ∷ drop (suc d) xs
  drop_from-slice_get [] d x e = cc
  drop_from-slice_get (y ∷ ys) zero x e = let s : y ≡ x = cc in ap (λ z. z ∷ ys) s
  drop_from-slice_get (y ∷ ys) (suc d) x e = drop_from-slice_get ys d x e

  pub drop_tail : (xs : List X) (d : ℕ) (x : X) (ys : List X) → drop d xs ≡ x ∷ ys → drop (suc d) xs ≡ ys
  drop_tail xs d x ys e = let f = drop_from-slice_get xs d x (get_from_drop xs d x ys e) in let g : x ∷ drop (suc d) xs ≡ x ∷ ys = sym f ∙ e in cc

pub nil_drop : {X : Type 0} (d : ℕ) → ◌≡◌ {A = List X} [] (drop d [])
nil_drop zero = refl
nil_drop (suc d) = refl

-- No symbol follows the symbol of a start production.
pub short_start : (g : PlainGrammar) (p d s : ℕ) → s ≡ length g.starts → p < s → [] ≡ drop (suc d) (rhs_of g p)
short_start g p d s e l =
    let within : p < length g.starts = omega arith in
    let rhs = rhs_of-start g p within in
    rw rhs (nil_drop d)
