-- Proves that sentences of one cost are compared by start and then by tokens.
use Rattle.std.proofs.Common.{◌≡◌, ◌<◌, ℕ, inl, inr, List, [], ◌∷◌, subst, sym, refl, arith}
use Rattle.std.specs.Prelude.{MatchBool}
use Rattle.std.specs.Bool.{◌==◌}
use Rattle.std.specs.Cmp.{ranks}
use Rattle.std.specs.Cmp.Lexicographic.{slice_cmp}
use Rattle.std.specs.Ordering.{MatchOrdering, ordering_index, ordering_then, nat_cmp}
use Rattle.std.specs.declared.cmp.Ordering.{Ordering}
use Rattle.std.specs.declared.cmp.Ordering.TheVariants.{Less, Equal, Greater}
use Rattle.mh_grammar.specs.declared.types.Sentence.{Sentence}
use Rattle.mh_grammar.specs.WordOrder.{LexLe}
use Rattle.mh_grammar.proofs.WordOrder.{lex_refl}
use Rattle.mh_explain.specs.declared.first_sentence.FoundSentence.TheVariants.{First}
use Rattle.mh_explain.specs.code.Searched.{IsNoSooner, IsSentenceOrder, IsSooner, numbers_of}

-- The order of two lists of numbers.
abbrev pub IsListOrder : List ℕ → List ℕ → Ordering → Type 0
IsListOrder u v Less = LexLe u v × (u ≡ v → ⊥)
IsListOrder u v Equal = u ≡ v
IsListOrder u v Greater = LexLe v u

-- Lists with equal first numbers are ordered by their rests.
after_same : (x y : ℕ) (u v : List ℕ) (r : Ordering) → x ≡ y → IsListOrder u v r → IsListOrder (x ∷ u) (y ∷ v) r
after_same x y u v Less e h = (inr (e, h.0), λ s. (let rest : u ≡ v = cc in h.1 rest))
after_same x y u v Equal e h = λ i. e i ∷ h i
after_same x y u v Greater e h = inr (sym e, h)

by_first : (x y : ℕ) (u v : List ℕ) (o r : Ordering) → MatchOrdering o (x < y) (x ≡ y) (y < x) → IsListOrder u v r → IsListOrder (x ∷ u) (y ∷ v) (ordering_then o r)
by_first x y u v Less r lt h = (inl lt, λ s. (let same : x ≡ y = cc in omega (arith, lt, same)))
by_first x y u v Equal r e h = after_same x y u v r e h
by_first x y u v Greater r gt h = inl gt

list_order : (u v : List ℕ) → IsListOrder u v (slice_cmp nat_cmp u v)
list_order [] [] = refl
list_order [] (y ∷ v) = (tt, λ s. cc)
list_order (x ∷ u) [] = tt
list_order (x ∷ u) (y ∷ v) = by_first x y u v (nat_cmp x y) (slice_cmp nat_cmp u v) (ranks x y) (list_order u v)

of_numbers : (x y : Sentence) (r : Ordering) → IsListOrder (numbers_of x) (numbers_of y) r → IsSentenceOrder x y r
of_numbers x y Less h = h
of_numbers x y Equal h = h
of_numbers x y Greater h = h

-- Two numbers that compare as equal are equal.
pub same_number : (x y : ℕ) → Equal ≡ nat_cmp x y → x ≡ y
same_number x y is = subst (λ (o : Ordering). MatchOrdering o (x < y) (x ≡ y) (y < x)) (sym is) (ranks x y)

-- The starts are equal, and the tokens are compared.
pub by_tokens : (x y : Sentence) (r : Ordering) → x.start ≡ y.start → r ≡ slice_cmp nat_cmp x.tokens y.tokens → IsSentenceOrder x y r
by_tokens x y r e is = of_numbers x y r (after_same x.start y.start x.tokens y.tokens r e (subst (IsListOrder x.tokens y.tokens) (sym is) (list_order x.tokens y.tokens)))

-- The starts differ.
pub by_start : (x y : Sentence) (o : Ordering) → MatchOrdering o (x.start < y.start) (x.start ≡ y.start) (y.start < x.start) → (o ≡ Equal → ⊥) → IsSentenceOrder x y o
by_start x y Less lt differ = (inl lt, λ s. (let same : x.start ≡ y.start = cc in omega (arith, lt, same)))
by_start x y Equal e differ = absurd (differ refl)
by_start x y Greater gt differ = inl gt

-- A sentence that costs as much as the best one so far comes before the best one exactly if its start and tokens do
-- (the order `IsSentenceOrder`).
pub sooner_by_order : (cost least : ℕ) (x y : Sentence) (z : ℕ) (r : Ordering) → cost ≡ least → IsSentenceOrder x y r → MatchBool (ordering_index r == 0) (IsSooner cost x (First least y z)) (IsNoSooner cost x (First least y z))
sooner_by_order cost least x y z Less e h = inr (e, h)
sooner_by_order cost least x y z Equal e h = inr (sym e, subst (LexLe (numbers_of y)) (sym h) (lex_refl (numbers_of y)))
sooner_by_order cost least x y z Greater e h = inr (sym e, h)
