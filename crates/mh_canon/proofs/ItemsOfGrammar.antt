-- Rising lists of all looks, all pairs of a production and a dot, and all symbols of a grammar.
use Rattle.std.proofs.Common.{◌≡◌, ℕ, zero, suc, ◌+◌, ◌<◌, ◌≤◌, List, [], ◌∷◌, length, refl, sym, ap, subst, arith, inl, inr}
use Rattle.std.specs.List.{Contains, AllByRecursion}
use Rattle.std.proofs.lemmas.Bool.{cases_eq}
use Rattle.mh_grammar.specs.declared.types.Look.{Look}
use Rattle.mh_grammar.specs.declared.types.Look.TheVariants.{Token, End}
use Rattle.mh_grammar.specs.declared.types.Symbol.{Symbol}
use Rattle.mh_grammar.specs.declared.types.Symbol.TheVariants.{T, N}
use Rattle.mh_grammar.specs.Plain.{PlainGrammar, rhs_of, IsLookBelow, IsSymbolBelow}
use Rattle.mh_grammar.specs.Edges.{IsRising, IsLookBefore, IsSymbolBefore}
use Rattle.mh_grammar.proofs.Lists.{contains_here, contains_there}
use Rattle.mh_items_kernels.specs.KernelTypes.{KernelItem}
use Rattle.mh_items_kernels.specs.Kernels.{IsItemBefore}

-- Looks.

pub looks_from : ℕ → ℕ → List Look
looks_from z zero = End ∷ []
looks_from z (suc n) = Token z ∷ looks_from (suc z) n

looks_token : (z n y : ℕ) → z ≤ y → y < z + n → Contains (looks_from z n) (Token y)
unfolding looks_from
looks_token z zero y le lt = absurd (omega arith)
looks_token z (suc n) y le lt = elim (cases_eq z y) [
  | inl e ↦ subst (λ (k : ℕ). Contains (Token z ∷ looks_from (suc z) n) (Token k)) e (contains_here (Token z) (looks_from (suc z) n))
  | inr d ↦ contains_there (Token z) (looks_from (suc z) n) (Token y) (looks_token (suc z) n y (omega (arith, d)) (omega arith))
]

looks_end : (z n : ℕ) → Contains (looks_from z n) End
unfolding looks_from
looks_end z zero = contains_here End []
looks_end z (suc n) = contains_there (Token z) (looks_from (suc z) n) End (looks_end (suc z) n)

pub look_in : (tokens : ℕ) (a : Look) → IsLookBelow tokens a → Contains (looks_from 0 tokens) a
look_in tokens (Token y) l = looks_token 0 tokens y (omega arith) (omega arith)
look_in tokens End l = looks_end 0 tokens

looks_above : (z n y : ℕ) → y < z → AllByRecursion (IsLookBefore (Token y)) (looks_from z n)
unfolding looks_from
looks_above z zero y l = (tt, tt)
looks_above z (suc n) y l = (l, looks_above (suc z) n y (omega arith))

pub looks_rising : (z n : ℕ) → IsRising IsLookBefore (looks_from z n)
unfolding looks_from
looks_rising z zero = (tt, tt)
looks_rising z (suc n) = (looks_above (suc z) n z (omega arith), looks_rising (suc z) n)

-- Pairs of a production and a dot.

abbrev pub place : ℕ → ℕ → KernelItem
place p d = record { production = p; dot = d; looks = [] }

dots : ℕ → ℕ → ℕ → List KernelItem → List KernelItem
dots p d zero rest = rest
dots p d (suc n) rest = place p d ∷ dots p (suc d) n rest

pub places : PlainGrammar → ℕ → ℕ → List KernelItem
places g p zero = []
places g p (suc n) = dots p 0 (suc (length (rhs_of g p))) (places g (suc p) n)

dots_here : (p d n : ℕ) (rest : List KernelItem) (e : ℕ) → d ≤ e → e < d + n → Contains (dots p d n rest) (place p e)
unfolding dots
dots_here p d zero rest e le lt = absurd (omega arith)
dots_here p d (suc n) rest e le lt = elim (cases_eq d e) [
  | inl same ↦ subst (λ (k : ℕ). Contains (place p d ∷ dots p (suc d) n rest) (place p k)) same (contains_here (place p d) (dots p (suc d) n rest))
  | inr other ↦ contains_there (place p d) (dots p (suc d) n rest) (place p e) (dots_here p (suc d) n rest e (omega (arith, other)) (omega arith))
]

dots_rest : (p d n : ℕ) (rest : List KernelItem) (x : KernelItem) → Contains rest x → Contains (dots p d n rest) x
unfolding dots
dots_rest p d zero rest x c = c
dots_rest p d (suc n) rest x c = contains_there (place p d) (dots p (suc d) n rest) x (dots_rest p (suc d) n rest x c)

dots_above : (i : KernelItem) (p d n : ℕ) (rest : List KernelItem) → i.production ≡ p → i.dot < d → AllByRecursion (IsItemBefore i) rest → AllByRecursion (IsItemBefore i) (dots p d n rest)
unfolding dots
dots_above i p d zero rest e l r = r
dots_above i p d (suc n) rest e l r = (inr (e, l), dots_above i p (suc d) n rest e (omega arith) r)

dots_after : (i : KernelItem) (p d n : ℕ) (rest : List KernelItem) → i.production < p → AllByRecursion (IsItemBefore i) rest → AllByRecursion (IsItemBefore i) (dots p d n rest)
unfolding dots
dots_after i p d zero rest l r = r
dots_after i p d (suc n) rest l r = (inl l, dots_after i p (suc d) n rest l r)

dots_rising : (p d n : ℕ) (rest : List KernelItem) → IsRising IsItemBefore rest → ((i : KernelItem) → i.production ≡ p → AllByRecursion (IsItemBefore i) rest) → IsRising IsItemBefore (dots p d n rest)
unfolding dots
dots_rising p d zero rest r above = r
dots_rising p d (suc n) rest r above = (dots_above (place p d) p (suc d) n rest refl (omega arith) (above (place p d) refl), dots_rising p (suc d) n rest r above)

module _ (g : PlainGrammar) where
  pub place_in : (p n q e : ℕ) → p ≤ q → q < p + n → e ≤ length (rhs_of g q) → Contains (places g p n) (place q e)
  unfolding places
  place_in p zero q e le lt l = absurd (omega arith)
  place_in p (suc n) q e le lt l = elim (cases_eq p q) [
    | inl same ↦ subst (λ (k : ℕ). Contains (dots p 0 (suc (length (rhs_of g p))) (places g (suc p) n)) (place k e)) same
        (dots_here p 0 (suc (length (rhs_of g p))) (places g (suc p) n) e (omega arith) (let m : e ≤ length (rhs_of g p) = subst (λ (k : ℕ). e ≤ length (rhs_of g k)) (sym same) l in omega (arith, m)))
    | inr other ↦ dots_rest p 0 (suc (length (rhs_of g p))) (places g (suc p) n) (place q e) (place_in (suc p) n q e (omega (arith, other)) (omega arith) l)
  ]

  places_after : (i : KernelItem) (p n : ℕ) → i.production < p → AllByRecursion (IsItemBefore i) (places g p n)
  unfolding places
  places_after i p zero l = tt
  places_after i p (suc n) l = dots_after i p 0 (suc (length (rhs_of g p))) (places g (suc p) n) l (places_after i (suc p) n (omega arith))

  pub places_rising : (p n : ℕ) → IsRising IsItemBefore (places g p n)
  unfolding places
  places_rising p zero = tt
  places_rising p (suc n) = dots_rising p 0 (suc (length (rhs_of g p))) (places g (suc p) n) (places_rising (suc p) n) (λ i e. places_after i (suc p) n (omega (arith, e)))

-- Symbols.

nonterminals_from : ℕ → ℕ → List Symbol
nonterminals_from n zero = []
nonterminals_from n (suc k) = N n ∷ nonterminals_from (suc n) k

pub symbols_from : ℕ → ℕ → ℕ → List Symbol
symbols_from m z zero = nonterminals_from 0 m
symbols_from m z (suc k) = T z ∷ symbols_from m (suc z) k

nonterminal_in : (n k m : ℕ) → n ≤ m → m < n + k → Contains (nonterminals_from n k) (N m)
unfolding nonterminals_from
nonterminal_in n zero m le lt = absurd (omega arith)
nonterminal_in n (suc k) m le lt = elim (cases_eq n m) [
  | inl same ↦ subst (λ (j : ℕ). Contains (N n ∷ nonterminals_from (suc n) k) (N j)) same (contains_here (N n) (nonterminals_from (suc n) k))
  | inr other ↦ contains_there (N n) (nonterminals_from (suc n) k) (N m) (nonterminal_in (suc n) k m (omega (arith, other)) (omega arith))
]

token_in : (m z k y : ℕ) → z ≤ y → y < z + k → Contains (symbols_from m z k) (T y)
unfolding symbols_from
token_in m z zero y le lt = absurd (omega arith)
token_in m z (suc k) y le lt = elim (cases_eq z y) [
  | inl same ↦ subst (λ (j : ℕ). Contains (T z ∷ symbols_from m (suc z) k) (T j)) same (contains_here (T z) (symbols_from m (suc z) k))
  | inr other ↦ contains_there (T z) (symbols_from m (suc z) k) (T y) (token_in m (suc z) k y (omega (arith, other)) (omega arith))
]

after_tokens : (m z k n : ℕ) → n < m → Contains (symbols_from m z k) (N n)
unfolding symbols_from
after_tokens m z zero n l = nonterminal_in 0 m n (omega arith) (omega arith)
after_tokens m z (suc k) n l = contains_there (T z) (symbols_from m (suc z) k) (N n) (after_tokens m (suc z) k n l)

pub symbol_in : (tokens m : ℕ) (X : Symbol) → IsSymbolBelow tokens m X → Contains (symbols_from m 0 tokens) X
symbol_in tokens m (T y) l = token_in m 0 tokens y (omega arith) (omega arith)
symbol_in tokens m (N n) l = after_tokens m 0 tokens n l

nonterminals_above : (n k m : ℕ) → m < n → AllByRecursion (IsSymbolBefore (N m)) (nonterminals_from n k)
unfolding nonterminals_from
nonterminals_above n zero m l = tt
nonterminals_above n (suc k) m l = (l, nonterminals_above (suc n) k m (omega arith))

nonterminals_rising : (n k : ℕ) → IsRising IsSymbolBefore (nonterminals_from n k)
unfolding nonterminals_from
nonterminals_rising n zero = tt
nonterminals_rising n (suc k) = (nonterminals_above (suc n) k n (omega arith), nonterminals_rising (suc n) k)

nonterminals_after_token : (n k y : ℕ) → AllByRecursion (IsSymbolBefore (T y)) (nonterminals_from n k)
unfolding nonterminals_from
nonterminals_after_token n zero y = tt
nonterminals_after_token n (suc k) y = (tt, nonterminals_after_token (suc n) k y)

tokens_above : (m z k y : ℕ) → y < z → AllByRecursion (IsSymbolBefore (T y)) (symbols_from m z k)
unfolding symbols_from
tokens_above m z zero y l = nonterminals_after_token 0 m y
tokens_above m z (suc k) y l = (l, tokens_above m (suc z) k y (omega arith))

pub symbols_rising : (m z k : ℕ) → IsRising IsSymbolBefore (symbols_from m z k)
unfolding symbols_from
symbols_rising m z zero = nonterminals_rising 0 m
symbols_rising m z (suc k) = (tokens_above m (suc z) k z (omega arith), symbols_rising m (suc z) k)
