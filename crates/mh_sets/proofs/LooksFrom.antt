-- Lemmas on the members of the list that `looks_from` makes from a test of tokens and a flag for the end of the stream.
use Rattle.std.proofs.Common.{◌≡◌, ℕ, zero, suc, ◌+◌, ◌<◌, ◌≤◌, ◌⊎◌, ◌↔◌, Bool, true, false, if◌then◌else◌, List, [], ◌∷◌, length, refl, sym, ap, subst, arith, inl, inr}
use Rattle.std.specs.List.{AllByRecursion, Contains}
use Rattle.std.proofs.lemmas.Bool.{cases_eq}
use Rattle.mh_grammar.specs.declared.types.Look.{Look}
use Rattle.mh_grammar.specs.declared.types.Look.TheVariants.{Token, End}
use Rattle.mh_grammar.specs.Edges.{IsRising, IsLookBefore}
use Rattle.mh_sets.specs.BitWords.{looks_from}
use Rattle.mh_grammar.proofs.Lists.{contains_here, contains_there, contains_cases, contains_none, rising_same, recursion-from}
use Rattle.mh_grammar.proofs.EdgeOrder.{look_order_asymmetric}

-- The members that a test of tokens and a flag for the end of the stream describe.
abbrev pub Has : (ℕ → Bool) → Bool → Look → Type 0
Has has end (Token a) = has a ≡ true
Has has end End = end ≡ true

-- The same for the n tokens from a first one on.
abbrev pub HasFrom : (ℕ → Bool) → Bool → ℕ → ℕ → Look → Type 0
HasFrom has end from n (Token a) = (from ≤ a) × (a < from + n) × (has a ≡ true)
HasFrom has end from n End = end ≡ true

-- Two rising lists with the same members are equal.
pub one_set : (xs ys : List Look) → IsRising IsLookBefore xs → IsRising IsLookBefore ys → ((b : Look) → Contains xs b ↔ Contains ys b) → xs ≡ ys
one_set xs ys = rising_same IsLookBefore look_order_asymmetric xs ys

-- Lemmas on a list before which an element is put if a test holds.
module _ {X : Type 0} (x : X) (xs : List X) where
  pub if_cases : (t : Bool) (b : X) → Contains (if t then x ∷ xs else xs) b → ((t ≡ true) × (x ≡ b)) ⊎ Contains xs b
  if_cases true b c = elim (contains_cases x xs b c) [ inl e ↦ inl (refl, e) | inr d ↦ inr d ]
  if_cases false b c = inr c

  pub if_here : (t : Bool) → t ≡ true → Contains (if t then x ∷ xs else xs) x
  if_here true e = contains_here x xs
  if_here false e = cc

  pub if_there : (t : Bool) (b : X) → Contains xs b → Contains (if t then x ∷ xs else xs) b
  if_there true b c = contains_there x xs b c
  if_there false b c = c

  pub if_rising : (R : X → X → Type 0) (t : Bool) → AllByRecursion (R x) xs → IsRising R xs → IsRising R (if t then x ∷ xs else xs)
  if_rising R true a r = (a, r)
  if_rising R false a r = r

module _ (has : ℕ → Bool) (end : Bool) where
  abbrev looks : ℕ → ℕ → List Look
  looks = looks_from has end

  wider : (from n : ℕ) (b : Look) → HasFrom has end (from + 1) n b → HasFrom has end from (suc n) b
  wider from n (Token a) h = let l = h.0 in let m = h.1 in (omega arith, omega arith, h.2)
  wider from n End h = h

  along : (from n : ℕ) (a b : Look) → a ≡ b → HasFrom has end from n a → HasFrom has end from n b
  along from n a b e h = let P : Look → Type 0 = HasFrom has end from n in subst P e h

  pub looks_sound : (from n : ℕ) (b : Look) → Contains (looks from n) b → HasFrom has end from n b
  looks_sound from zero b c = elim (if_cases End [] end b c) [ inl h ↦ along from zero End b h.1 h.0 | inr d ↦ absurd (contains_none b d) ]
  looks_sound from (suc n) b c = elim (if_cases (Token from) (looks (from + 1) n) (has from) b c) [
    | inl h ↦ along from (suc n) (Token from) b h.1 (omega arith, omega arith, h.0)
    | inr d ↦ wider from n b (looks_sound (from + 1) n b d)
  ]

  pub looks_has_end : (from n : ℕ) → end ≡ true → Contains (looks from n) End
  looks_has_end from zero e = if_here End [] end e
  looks_has_end from (suc n) e = if_there (Token from) (looks (from + 1) n) (has from) End (looks_has_end (from + 1) n e)

  pub looks_has_token : (from n a : ℕ) → from ≤ a → a < from + n → has a ≡ true → Contains (looks from n) (Token a)
  looks_has_token from zero a l m e = absurd (omega arith)
  looks_has_token from (suc n) a l m e = elim (cases_eq from a) [
    | inl same ↦ (let P : ℕ → Type 0 = λ x. Contains (looks from (suc n)) (Token x) in subst P same (if_here (Token from) (looks (from + 1) n) (has from) (rw same e)))
    | inr o ↦ if_there (Token from) (looks (from + 1) n) (has from) (Token a) (looks_has_token (from + 1) n a (omega arith) (omega arith) e)
  ]

  before : (from n : ℕ) (b : Look) → HasFrom has end (from + 1) n b → IsLookBefore (Token from) b
  before from n (Token a) h = let l = h.0 in omega arith
  before from n End h = tt

  pub rising : (from n : ℕ) → IsRising IsLookBefore (looks from n)
  rising from zero = if_rising End [] IsLookBefore end tt tt
  rising from (suc n) = if_rising (Token from) (looks (from + 1) n) IsLookBefore (has from)
      (recursion-from (IsLookBefore (Token from)) (looks (from + 1) n) (λ b c. before from n b (looks_sound (from + 1) n b c))) (rising (from + 1) n)

  short_if : (t : Bool) (x : Look) (xs : List Look) (n : ℕ) → length xs ≤ n → length (if t then x ∷ xs else xs) ≤ n + 1
  short_if true x xs n l = omega arith
  short_if false x xs n l = omega arith

  pub looks_few : (from n : ℕ) → length (looks from n) ≤ n + 1
  looks_few from zero = short_if end End [] 0 (omega arith)
  looks_few from (suc n) = let l = short_if (has from) (Token from) (looks (from + 1) n) (n + 1) (looks_few (from + 1) n) in omega arith

-- A weaker test gives the same list or a longer one.
module _ (has more : ℕ → Bool) (end later : Bool) (wider_has : (a : ℕ) → has a ≡ true → more a ≡ true) (wider_end : end ≡ true → later ≡ true) where
  two_end : (t u : Bool) → (t ≡ true → u ≡ true) → (length (if t then End ∷ [] else []) < length (if u then End ∷ [] else [])) ⊎ ((if t then End ∷ [] else []) ≡ (if u then End ∷ [] else []))
  two_end true true h = inr refl
  two_end true false h = let e : false ≡ true = h refl in cc
  two_end false true h = inl (omega arith)
  two_end false false h = inr refl

  two_cases : (x : Look) (xs ys : List Look) (t u : Bool) → (t ≡ true → u ≡ true) → (length xs < length ys) ⊎ (xs ≡ ys)
      → (length (if t then x ∷ xs else xs) < length (if u then x ∷ ys else ys)) ⊎ ((if t then x ∷ xs else xs) ≡ (if u then x ∷ ys else ys))
  two_cases x xs ys true true h (inl l) = inl (omega arith)
  two_cases x xs ys true true h (inr e) = inr (ap (λ zs. x ∷ zs) e)
  two_cases x xs ys true false h k = let e : false ≡ true = h refl in cc
  two_cases x xs ys false true h (inl l) = inl (omega arith)
  two_cases x xs ys false true h (inr e) = let l = ap length e in inl (omega arith)
  two_cases x xs ys false false h k = k

  pub looks_longer_or_same : (from n : ℕ) → (length (looks_from has end from n) < length (looks_from more later from n)) ⊎ (looks_from has end from n ≡ looks_from more later from n)
  looks_longer_or_same from zero = two_end end later wider_end
  looks_longer_or_same from (suc n) = two_cases (Token from) (looks_from has end (from + 1) n) (looks_from more later (from + 1) n) (has from) (more from) (wider_has from) (looks_longer_or_same (from + 1) n)

-- A set that the insertion of one lookahead made from the empty set has just this lookahead.
pub looks_single : (old new : List Look) (look : Look) → old ≡ [] → IsRising IsLookBefore new → ((b : Look) → Contains new b ↔ (Contains old b ⊎ (b ≡ look))) → new ≡ look ∷ []
looks_single old new look e r m = one_set new (look ∷ []) r (tt, tt) (λ b. (
  (λ c. elim ((m b).0 c) [ inl k ↦ absurd (contains_none b (rw e at k)) | inr k ↦ (let P : Look → Type 0 = Contains (look ∷ []) in subst P (sym k) (contains_here look [])) ]),
  (λ c. elim (contains_cases look [] b c) [ inl k ↦ (m b).1 (inr (sym k)) | inr k ↦ absurd (contains_none b k) ]),
))
