-- The least word of a symbol and the answer for a nonterminal are unique.
use Rattle.std.proofs.Common.{◌≡◌, ℕ, suc, List, [], ◌∷◌, Some, length, refl, ap, arith}
use Rattle.std.specs.List.{slice_get}
use Rattle.mh_grammar.specs.declared.types.Symbol.{Symbol}
use Rattle.mh_grammar.specs.declared.types.Symbol.TheVariants.{N}
use Rattle.mh_grammar.specs.Plain.{PlainGrammar}
use Rattle.mh_sample.specs.declared.word.Shortest.{Shortest}
use Rattle.mh_sample.specs.declared.word.Shortest.TheVariants.{None, Longer, Word}
use Rattle.mh_sample.specs.Shortest.{IsLeast, IsShortest}
use Rattle.mh_sample.proofs.ShortLex.{shortlex_one}

pub least_one : (g : PlainGrammar) (X : Symbol) (u v : List ℕ) → IsLeast g X u → IsLeast g X v → u ≡ v
least_one g X u v a b = shortlex_one u v (a.first v b.derived) (b.first u a.derived)

pub shortest_one : (g : PlainGrammar) (n : ℕ) (s t : Shortest) → IsShortest g n s → IsShortest g n t → s ≡ t
shortest_one g n None None a b = refl
shortest_one g n None Longer a b = absurd (a b.0.0 b.0.1)
shortest_one g n None (Word v) a b = absurd (a v b.0.derived)
shortest_one g n Longer None a b = absurd (b a.0.0 a.0.1)
shortest_one g n Longer Longer a b = refl
shortest_one g n Longer (Word v) a b = absurd (omega (arith, a.1 v b.0.derived, b.1))
shortest_one g n (Word u) None a b = absurd (b u a.0.derived)
shortest_one g n (Word u) Longer a b = absurd (omega (arith, b.1 u a.0.derived, a.1))
shortest_one g n (Word u) (Word v) a b = ap Word (least_one g (N n) u v a.0 b.0)

-- Two lists of one length with equal elements at each index are equal.
pub lists_one : {X : Type 0} (xs ys : List X) → length xs ≡ length ys → ((n : ℕ) (x y : X) → slice_get xs n ≡ Some x → slice_get ys n ≡ Some y → x ≡ y) → xs ≡ ys
lists_one [] [] l same = refl
lists_one [] (y ∷ ys) l same = absurd (omega (arith, l))
lists_one (x ∷ xs) [] l same = absurd (omega (arith, l))
lists_one (x ∷ xs) (y ∷ ys) l same =
    let first = same 0 x y refl refl in
    let rest = lists_one xs ys (omega (arith, l)) (λ n a b p q. same (suc n) a b p q) in
    λ i. first i ∷ rest i
