-- The random sentence of a seed is unique.
use Rattle.std.proofs.Common.{◌≡◌, ◌<◌, ◌%◌, ◌++◌, ℕ, suc, List, [], ◌∷◌, Some, length, refl, arith, subst}
use Rattle.std.specs.List.{slice_get}
use Rattle.mh_grammar.specs.declared.types.Symbol.{Symbol}
use Rattle.mh_grammar.specs.declared.types.Symbol.TheVariants.{N}
use Rattle.mh_grammar.specs.Plain.{PlainGrammar, rhs_of}
use Rattle.mh_grammar.proofs.Lists.{rising_same, get_unique}
use Rattle.mh_sample.proofs.ShortestUnique.{least_one}
use Rattle.mh_sample.specs.Random as random
use Rattle.mh_sample.specs.Random.{IsChosen, Writes}

chosen_one : (g : PlainGrammar) (n written x : ℕ) (rest : List Symbol) (number p q : ℕ) → IsChosen g n written x rest number p → IsChosen g n written x rest number q → p ≡ q
chosen_one g n written x rest number p q a b =
    let same : a.0 ≡ b.0 = rising_same (λ i j. i < j) (λ i j l m. omega (arith, l, m)) a.0 b.0 a.1.rising b.1.rising (λ i. ((λ c. (b.1.exact i).1 ((a.1.exact i).0 c)), (λ c. (a.1.exact i).1 ((b.1.exact i).0 c)))) in
    get_unique b.0 (number % length b.0) p q (subst (λ ps. slice_get ps (number % length ps) ≡ Some p) same a.2) b.2

pub written_once : (g : PlainGrammar) (seed n d : ℕ) (w : List ℕ) (pending : List Symbol) (s t : List ℕ) → Writes g seed n d w pending s → Writes g seed n d w pending t → s ≡ t
written_once g seed n d w pending s t random.Writes.ended random.Writes.ended = refl
written_once g seed n d w pending s t (random.Writes.token {z = z} {rest = rest} h) (random.Writes.token k) = written_once g seed n d (w ++ z ∷ []) rest s t h k
written_once g seed n d w pending s t (random.Writes.drawn {x = x} {rest = rest} p l a h) (random.Writes.drawn q m b k) =
    let same = chosen_one g n (length w) x rest _ p q a b in
    written_once g seed n (suc d) w (rhs_of g q ++ rest) s t (subst (λ i. Writes g seed n (suc d) w (rhs_of g i ++ rest) s) same h) k
written_once g seed n d w pending s t (random.Writes.drawn p l a h) (random.Writes.least v m b k) = absurd (omega (arith, l, m))
written_once g seed n d w pending s t (random.Writes.least u l a h) (random.Writes.drawn q m b k) = absurd (omega (arith, l, m))
written_once g seed n d w pending s t (random.Writes.least {x = x} {rest = rest} u l a h) (random.Writes.least v m b k) =
    let same = least_one g (N x) u v a b in
    written_once g seed n d (w ++ v) rest s t (subst (λ i. Writes g seed n d (w ++ i) rest s) same h) k
