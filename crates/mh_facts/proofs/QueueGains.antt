-- Lemmas on the definition `QueueGains`: a queue gains exactly the entries with a given property.
use Rattle.std.proofs.Common.{◌≡◌, ℕ, ◌<◌, ◌⊎◌, inl, inr, List, length, arith, ◌+◌, get_or}
use Rattle.std.specs.Global.{Vec}
use Rattle.std.proofs.lemmas.Bool.{cases_lt}
use Rattle.std.proofs.lemmas.List.{get_or_default}
use Rattle.mh_facts.proofs.FirstElements.{OfFirst, of_more, of_fewer, of_all, of_some}
use Rattle.mh_facts.specs.code.Queues.{QueueGains, IsSameQueueEntry, Among, Below}

module _ {Y : Type 0} where
  pub gains_none : (P : ℕ → Y → Type 0) (q : List (Vec Y)) → ((c : ℕ) (o : Y) → P c o → ⊥) → QueueGains P q q
  gains_none P q no' = record { kept = λ c o h. h; all = λ c o p. absurd (no' c o p); only = λ c o h. inl h }

  pub gains_by : (P Q : ℕ → Y → Type 0) (old new : List (Vec Y)) → ((c : ℕ) (o : Y) → P c o → Q c o) → ((c : ℕ) (o : Y) → Q c o → P c o) → QueueGains P old new → QueueGains Q old new
  gains_by P Q old new to back g = record { kept = g.kept; all = λ c o q. g.all c o (back c o q); only = λ c o h. elim (g.only c o h) [ inl was ↦ inl was | inr p ↦ inr (to c o p) ] }

  pub gains_then : (P Q : ℕ → Y → Type 0) (old mid new : List (Vec Y)) → QueueGains P old mid → QueueGains Q mid new → QueueGains (λ c o. P c o ⊎ Q c o) old new
  gains_then P Q old mid new g h = record {
    kept = λ c o w. h.kept c o (g.kept c o w);
    all = λ c o e. elim e [ inl p ↦ h.kept c o (g.all c o p) | inr q ↦ h.all c o q ];
    only = λ c o w. elim (h.only c o w) [ inl m ↦ (elim (g.only c o m) [ inl was ↦ inl was | inr p ↦ inr (inl p) ]) | inr q ↦ inr (inr q) ];
  }

  pub below_begins : (rule : ℕ → ℕ → Y → Type 0) (q : List (Vec Y)) → QueueGains (Below rule 0) q q
  below_begins rule q = gains_none (Below rule 0) q (λ c o h. let l = h.1 in omega arith)

  pub Below-step : (rule : ℕ → ℕ → Y → Type 0) (n : ℕ) (old mid new : List (Vec Y)) → QueueGains (Below rule n) old mid → QueueGains (rule n) mid new → QueueGains (Below rule (n + 1)) old new
  Below-step rule n old mid new g p = gains_by (λ c o. Below rule n c o ⊎ rule n c o) (Below rule (n + 1)) old new
      (λ c o e. elim e [ inl h ↦ (h.0, (let l = h.1 in omega arith), h.2) | inr is ↦ (n, omega arith, is) ])
      (λ c o h. elim (cases_lt h.0 n) [ inl lt ↦ inl (h.0, lt, h.2) | inr le ↦ inr (let e : h.0 ≡ n = (let l = h.1 in omega arith) in rw e at h.2) ])
      (gains_then (Below rule n) (rule n) old mid new g p)

-- The entries that a rule gives for the first n elements of a list.
abbrev pub First : {X Y : Type 0} → (X → ℕ → Y → Type 0) → List X → ℕ → ℕ → Y → Type 0
First rule xs n c o = OfFirst (λ p. rule p c o) xs n

module _ {X Y : Type 0} (rule : X → ℕ → Y → Type 0) (xs : List X) where
  First-step : (n : ℕ) (x : X) (old mid new : List (Vec Y)) → n < length xs → get_or xs n x ≡ x → QueueGains (First rule xs n) old mid → QueueGains (rule x) mid new → QueueGains (First rule xs (n + 1)) old new
  First-step n x old mid new lt is g p =
      gains_by (λ c o. First rule xs n c o ⊎ rule x c o) (First rule xs (n + 1)) old new (λ c o. of_more (λ p. rule p c o) xs n x is) (λ c o. of_fewer (λ p. rule p c o) xs n x lt is) (gains_then (First rule xs n) (rule x) old mid new g p)

  pub first_next : (n : ℕ) (d : X) (old mid new : List (Vec Y)) → n < length xs → QueueGains (First rule xs n) old mid → QueueGains (rule (get_or xs n d)) mid new → QueueGains (First rule xs (n + 1)) old new
  first_next n d old mid new lt g p = First-step n (get_or xs n d) old mid new lt (get_or_default xs n (get_or xs n d) d lt) g p

  pub first_all : (n : ℕ) (old new : List (Vec Y)) → n ≡ length xs → QueueGains (First rule xs n) old new → QueueGains (Among rule xs) old new
  first_all n old new e g = gains_by (First rule xs n) (Among rule xs) old new (λ c o. of_all (λ p. rule p c o) xs n e) (λ c o. of_some (λ p. rule p c o) xs n e) g

pub gains_only : {Y : Type 0} (P : ℕ → Y → Type 0) (cost : ℕ) (i : Y) (old new : List (Vec Y)) → P cost i × ((c : ℕ) (o : Y) → P c o → IsSameQueueEntry cost i c o) → QueueGains (IsSameQueueEntry cost i) old new → QueueGains P old new
gains_only P cost i old new one g = gains_by (IsSameQueueEntry cost i) P old new (λ c o e. rw (e.0, e.1) one.0) one.1 g
