-- Lemmas on what cannot be lacking, and on lists whose items are decided under a double negation.
use Rattle.std.proofs.Common.{◌≡◌, ℕ, zero, suc, ◌+◌, ◌<◌, ◌⊎◌, inl, inr, List, [], ◌∷◌, length, refl, sym, ap, subst, arith, below_more}
use Rattle.std.specs.Prelude.{slice_index_or}
use Rattle.std.specs.List.{Contains}
use Rattle.mh_grammar.specs.Edges.{IsRising}
use Rattle.mh_grammar.proofs.Lists.{contains_here, contains_there, contains_cases, contains_none, recursion-from, recursion_contains}
use Rattle.mh_grammar.specs.NotLacking.{NotLacking}

pub given : {A : Type 0} → A → NotLacking A
given a k = k a

pub chain : {A B : Type 0} → NotLacking A → (A → NotLacking B) → NotLacking B
chain m f k = m (λ a. f a k)

pub decided : (A : Type 0) → NotLacking (A ⊎ (A → ⊥))
decided A k = k (inr (λ a. k (inl a)))

-- The items of a list that have a property, in the order of the list.
pub record Selected {A : Type 0} (R : A → A → Type 0) (P : A → Type 0) (U : List A) : Type 0 where
  pub xs : List A
  pub within : (x : A) → Contains xs x → Contains U x
  pub each : (x : A) → Contains xs x → P x
  pub all : (x : A) → Contains U x → P x → Contains xs x
  pub rising : IsRising R U → IsRising R xs

module _ {A : Type 0} (R : A → A → Type 0) (P : A → Type 0) where
  add : (u : A) (U : List A) → P u ⊎ (P u → ⊥) → Selected R P U → Selected R P (u ∷ U)
  add u U (inl p) s = record {
    xs = u ∷ s.xs;
    within = λ x c. elim (contains_cases u s.xs x c) [ inl e ↦ subst (λ (y : A). Contains (u ∷ U) y) e (contains_here u U) | inr d ↦ contains_there u U x (s.within x d) ];
    each = λ x c. elim (contains_cases u s.xs x c) [ inl e ↦ subst P e p | inr d ↦ s.each x d ];
    all = λ x c q. elim (contains_cases u U x c) [ inl e ↦ subst (λ (y : A). Contains (u ∷ s.xs) y) e (contains_here u s.xs) | inr d ↦ contains_there u s.xs x (s.all x d q) ];
    rising = λ r. (recursion-from (R u) s.xs (λ x c. recursion_contains (R u) U r.0 x (s.within x c)), s.rising r.1);
  }
  add u U (inr n) s = record {
    xs = s.xs;
    within = λ x c. contains_there u U x (s.within x c);
    each = s.each;
    all = λ x c q. elim (contains_cases u U x c) [ inl e ↦ absurd (n (subst P (sym e) q)) | inr d ↦ s.all x d q ];
    rising = λ r. s.rising r.1;
  }

  pub select : (U : List A) → NotLacking (Selected R P U)
  select [] = given (record { xs = []; within = λ x c. c; each = λ x c. absurd (contains_none x c); all = λ x c p. c; rising = λ r. tt })
  select (u ∷ U) = chain (decided (P u)) (λ d. chain (select U) (λ s. given (add u U d s)))

-- The first number below a limit that lacks a property.
pub record Lacks (P : ℕ → Type 0) (m : ℕ) : Type 0 where
  pub at : ℕ
  pub within : at < m
  pub not : P at → ⊥
  pub before : (k : ℕ) → k < at → P k

module _ (P : ℕ → Type 0) where
  step : (m : ℕ) → Lacks P m ⊎ ((k : ℕ) → k < m → P k) → P m ⊎ (P m → ⊥) → Lacks P (suc m) ⊎ ((k : ℕ) → k < suc m → P k)
  step m (inl f) d = inl (record { at = f.at; within = (let l = f.within in omega arith); not = f.not; before = f.before })
  step m (inr all) (inr not) = inl (record { at = m; within = omega arith; not = not; before = all })
  step m (inr all) (inl h) = inr (λ k l. below_more P m all h k (omega arith))

  pub lacks_or : (m : ℕ) → NotLacking (Lacks P m ⊎ ((k : ℕ) → k < m → P k))
  lacks_or zero = given (inr (λ k l. absurd (omega arith)))
  lacks_or (suc m) = chain (lacks_or m) (λ r. chain (decided (P m)) (λ d. given (step m r d)))

-- A list with a value of the property at each index.
module _ {A : Type 0} (none : A) (P : ℕ → A → Type 0) where
  abbrev pub Tabled : ℕ → ℕ → Type 0
  Tabled z n = (xs : List A) × (length xs ≡ n) × ((i : ℕ) → i < n → P (z + i) (slice_index_or xs i none))

  more : (z n : ℕ) → (a : A) × P z a → Tabled (suc z) n → Tabled z (suc n)
  more z n (a, h) (xs, len, each) = (a ∷ xs, ap suc len, at)
    where
      at : (i : ℕ) → i < suc n → P (z + i) (slice_index_or (a ∷ xs) i none)
      at zero l = subst (λ (k : ℕ). P k a) (let e : z ≡ z + 0 = omega arith in e) h
      at (suc i) l = subst (λ (k : ℕ). P k (slice_index_or xs i none)) (let e : suc z + i ≡ z + suc i = omega arith in e) (each i (omega arith))

  pub tabled : (z n : ℕ) → ((i : ℕ) → i < n → NotLacking ((a : A) × P (z + i) a)) → NotLacking (Tabled z n)
  tabled z zero each = given ([], refl, λ i l. absurd (omega arith))
  tabled z (suc n) each = chain (each 0 (omega arith)) (λ a. chain (tabled (suc z) n (λ i l. subst (λ (k : ℕ). NotLacking ((b : A) × P k b)) (let e : z + suc i ≡ suc z + i = omega arith in e) (each (suc i) (omega arith))))
      (λ rest. given (more z n (a.0, subst (λ (k : ℕ). P k a.0) (let e : z + 0 ≡ z = omega arith in e) a.1) rest)))
