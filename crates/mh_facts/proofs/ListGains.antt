-- Lemmas on the definition `ListGains`: a list gains exactly the elements with a given property.
use Rattle.std.proofs.Common.{◌≡◌, ℕ, ◌<◌, ◌+◌, ◌⊎◌, inl, inr, List, length, get_or}
use Rattle.std.specs.List.{Contains}
use Rattle.std.proofs.lemmas.List.{get_or_default}
use Rattle.mh_facts.specs.code.Queues.{ListGains}
use Rattle.mh_facts.proofs.FirstElements.{OfFirst, of_none, of_more, of_fewer, of_all, of_some}

module _ {X : Type 0} where
  pub collects_none : (P : X → Type 0) (q : List X) → ((o : X) → P o → ⊥) → ListGains P q q
  collects_none P q no' = record { kept = λ o h. h; all = λ o p. absurd (no' o p); only = λ o h. inl h }

  pub collects_by : (P Q : X → Type 0) (old new : List X) → ((o : X) → P o → Q o) → ((o : X) → Q o → P o) → ListGains P old new → ListGains Q old new
  collects_by P Q old new to back g = record { kept = g.kept; all = λ o q. g.all o (back o q); only = λ o h. elim (g.only o h) [ inl was ↦ inl was | inr p ↦ inr (to o p) ] }

  pub collects_then : (P Q : X → Type 0) (old mid new : List X) → ListGains P old mid → ListGains Q mid new → ListGains (λ o. P o ⊎ Q o) old new
  collects_then P Q old mid new g h = record {
    kept = λ o w. h.kept o (g.kept o w);
    all = λ o e. elim e [ inl p ↦ h.kept o (g.all o p) | inr q ↦ h.all o q ];
    only = λ o w. elim (h.only o w) [ inl m ↦ (elim (g.only o m) [ inl was ↦ inl was | inr p ↦ inr (inl p) ]) | inr q ↦ inr (inr q) ];
  }

-- The values that a rule gives for the first n elements of a list.
abbrev pub FirstOf : {X Y : Type 0} → (X → Y → Type 0) → List X → ℕ → Y → Type 0
FirstOf rule xs n o = OfFirst (λ p. rule p o) xs n

module _ {X Y : Type 0} (rule : X → Y → Type 0) (xs : List X) where
  pub firsts_begin : (q : List Y) → ListGains (FirstOf rule xs 0) q q
  firsts_begin q = collects_none (FirstOf rule xs 0) q (λ o. of_none (λ p. rule p o) xs)

  FirstOf-step : (n : ℕ) (x : X) (old mid new : List Y) → n < length xs → get_or xs n x ≡ x → ListGains (FirstOf rule xs n) old mid → ListGains (rule x) mid new → ListGains (FirstOf rule xs (n + 1)) old new
  FirstOf-step n x old mid new lt is g p =
      collects_by (λ o. FirstOf rule xs n o ⊎ rule x o) (FirstOf rule xs (n + 1)) old new (λ o. of_more (λ p. rule p o) xs n x is) (λ o. of_fewer (λ p. rule p o) xs n x lt is) (collects_then (FirstOf rule xs n) (rule x) old mid new g p)

  pub firsts_next : (n : ℕ) (d : X) (old mid new : List Y) → n < length xs → ListGains (FirstOf rule xs n) old mid → ListGains (rule (get_or xs n d)) mid new → ListGains (FirstOf rule xs (n + 1)) old new
  firsts_next n d old mid new lt g p = FirstOf-step n (get_or xs n d) old mid new lt (get_or_default xs n (get_or xs n d) d lt) g p

  pub firsts_all : (n : ℕ) (old new : List Y) → n ≡ length xs → ListGains (FirstOf rule xs n) old new → ListGains (λ o. (x : X) × Contains xs x × rule x o) old new
  firsts_all n old new e g = collects_by (FirstOf rule xs n) (λ o. (x : X) × Contains xs x × rule x o) old new (λ o. of_all (λ p. rule p o) xs n e) (λ o. of_some (λ p. rule p o) xs n e) g
