-- Proves, as a double negation, that a property that holds for some number has a least number for which it holds. The
-- same is proved for properties of words of bounded length.
use Rattle.std.proofs.Common.{◌≡◌, ℕ, zero, suc, ◌≤◌, inl, inr, List, [], ◌∷◌, length, sym, subst, arith}
use Rattle.std.proofs.lemmas.Bool.{cases_lt}
use Rattle.mh_grammar.specs.WordOrder.{LexLe}
use Rattle.mh_grammar.specs.NotLacking.{NotLacking}
use Rattle.mh_grammar.proofs.NotLacking.{given, chain, decided, Lacks, lacks_or}

-- The lowest number with the property.
pub record Least (P : ℕ → Type 0) : Type 0 where
  pub number : ℕ
  pub holds : P number
  pub first : (k : ℕ) → P k → number ≤ k

module _ (P : ℕ → Type 0) where
  lowest : (m : ℕ) (l : Lacks (λ k. P k → ⊥) m) → P l.at → Least P
  lowest m l holds = record { number = l.at; holds = holds; first = λ k p. elim (cases_lt k l.at) [ inl lt ↦ absurd (l.before k lt p) | inr le ↦ le ] }

  pub least_number : (n : ℕ) → P n → NotLacking (Least P)
  least_number n holds = chain (lacks_or (λ k. P k → ⊥) (suc n)) (λ r. elim r [
    | inl l ↦ chain (decided (P l.at)) (λ d. elim d [ inl h ↦ given (lowest (suc n) l h) | inr not ↦ absurd (l.not not) ])
    | inr none ↦ absurd (none n (omega arith) holds)
  ])

-- The first word with the property, in lexicographic order.
pub record LeastWord (P : List ℕ → Type 0) : Type 0 where
  pub word : List ℕ
  pub holds : P word
  pub first : (v : List ℕ) → P v → LexLe word v

module _ (P : List ℕ → Type 0) where
  empty_least : P [] → LeastWord P
  empty_least holds = record { word = []; holds = holds; first = λ v p. tt }

  module _ (none : P [] → ⊥) where
    abbrev BeginsWith : ℕ → Type 0
    BeginsWith k = (v : List ℕ) × P (k ∷ v)

    joined : (k : Least BeginsWith) → LeastWord (λ v. P (k.number ∷ v)) → LeastWord P
    joined k rest = record { word = k.number ∷ rest.word; holds = rest.holds; first = first }
      where
        first : (v : List ℕ) → P v → LexLe (k.number ∷ rest.word) v
        first [] p = absurd (none p)
        first (y ∷ v) p = elim (cases_lt k.number y) [
          | inl lt ↦ inl lt
          | inr le ↦ (
              let most = k.first y (v, p) in
              let same : k.number ≡ y = omega (arith, le, most) in
              inr (same, rest.first v (subst (λ (z : ℕ). P (z ∷ v)) (sym same) p)))
        ]

    longer : ((k : ℕ) → BeginsWith k → NotLacking (LeastWord (λ v. P (k ∷ v)))) → (w : List ℕ) → P w → NotLacking (LeastWord P)
    longer next [] holds = absurd (none holds)
    longer next (z ∷ w) holds = chain (least_number BeginsWith z (w, holds)) (λ k. chain (next k.number k.holds) (λ rest. given (joined k rest)))

pub least_word : (n : ℕ) (P : List ℕ → Type 0) → ((v : List ℕ) → P v → length v ≤ n) → (w : List ℕ) → P w → NotLacking (LeastWord P)
least_word zero P short [] holds = given (empty_least P holds)
least_word zero P short (z ∷ w) holds = absurd (let l = short (z ∷ w) holds in omega arith)
least_word (suc n) P short w holds = chain (decided (P [])) (λ d. elim d [
  | inl empty ↦ given (empty_least P empty)
  | inr none ↦ longer P none (λ k b. least_word n (λ v. P (k ∷ v)) (λ v p. let l = short (k ∷ v) p in omega arith) b.0 b.1) w holds
])
