-- The looks that a closure records for each nonterminal, and how they grow during the computation.
use Rattle.std.specs.Prelude.{◌≡◌, ◌≤◌, ◌+◌, ◌-◌, ◌*◌, ◌⊎◌, ℕ, true, false, List, [], Some, slice_get, slice_index_or, length, vec_len, sum_by}
use Rattle.std.specs.List.{All, Contains}
use Rattle.mh_grammar.specs.declared.types.Look.{Look}
use Rattle.mh_sets.specs.Sets.{IsSet}
use Rattle.mh_items.specs.declared.pending_looks.PendingLooks.{PendingLooks}
use Rattle.mh_items.specs.declared.links.FirstLink.{FirstLink}

-- The looks that are recorded for a nonterminal.
abbrev pub looks_at : {W : ℕ} → PendingLooks W → ℕ → List Look
looks_at s n = slice_index_or s.looks.items n []

-- The look is recorded for the nonterminal.
abbrev pub HasLook : {W : ℕ} → PendingLooks W → ℕ → Look → Type 0
HasLook s n b = Contains (looks_at s n) b

-- The looks of the nonterminal have grown since its last visit.
abbrev pub IsWaiting : {W : ℕ} → PendingLooks W → ℕ → Type 0
IsWaiting s n = slice_index_or s.waiting.items n false ≡ true

-- The number of looks that can still be recorded, plus the length of the queue. It never grows.
abbrev pub work_left : {W : ℕ} → PendingLooks W → ℕ
work_left {W} s = sum_by (λ (looks : List Look). 64 * W + 1 - length looks) s.looks.items + length s.queue.items

-- Each waiting nonterminal is in the queue at or after the index `done`.
abbrev pub AreQueued : {W : ℕ} → ℕ → PendingLooks W → Type 0
AreQueued done s = (n : ℕ) → IsWaiting s n → (i : ℕ) × (done ≤ i) × (slice_get s.queue.items i ≡ Some n)

-- The record is consistent: each list of looks is a set of the width, and the queue holds exactly the nonterminals with
-- looks, among them all that wait.
pub record ArePendingLooks {W : ℕ} (s : PendingLooks W) : Type 0 where
  pub rows : vec_len s.waiting ≡ vec_len s.looks
  pub sets : All (IsSet W) s.looks.items
  pub queued_has_look : (n : ℕ) → Contains s.queue.items n → (b : Look) × HasLook s n b
  pub looks_queued : (n : ℕ) (b : Look) → HasLook s n b → Contains s.queue.items n
  pub waiting_queued : (n : ℕ) → IsWaiting s n → Contains s.queue.items n

-- The record is for `rows` nonterminals, and holds no looks.
pub record HasNoLooks {W : ℕ} (rows : ℕ) (s : PendingLooks W) : Type 0 where
  pub table : ArePendingLooks s
  pub size : vec_len s.looks ≡ rows
  pub empty : (n : ℕ) (b : Look) → HasLook s n b → ⊥
  pub queue : s.queue.items ≡ []
  pub none_waits : (n : ℕ) → IsWaiting s n → ⊥

-- The new record has the looks of the old one and those of P, and no others.
pub record AddsLooks {W : ℕ} (P : ℕ → Look → Type 0) (old new : PendingLooks W) : Type 0 where
  pub table : ArePendingLooks new
  pub size : vec_len new.looks ≡ vec_len old.looks
  pub kept : (n : ℕ) (b : Look) → HasLook old n b → HasLook new n b
  pub origin : (n : ℕ) (b : Look) → HasLook new n b → HasLook old n b ⊎ P n b
  pub added : (n : ℕ) (b : Look) → P n b → HasLook new n b
  pub still_waiting : (n : ℕ) → IsWaiting old n → IsWaiting new n
  pub changes : (n : ℕ) → IsWaiting new n ⊎ (looks_at new n ≡ looks_at old n)
  pub queue_extends : (i n : ℕ) → slice_get old.queue.items i ≡ Some n → slice_get new.queue.items i ≡ Some n
  pub queued : (done : ℕ) → done ≤ length old.queue.items → AreQueued done old → AreQueued done new
  pub less : work_left new ≤ work_left old

-- The look is in the list, and the nonterminal is n.
pub record IsLookFor (n : ℕ) (looks : List Look) (m : ℕ) (b : Look) : Type 0 where
  pub same : m ≡ n
  pub among : Contains looks b

-- The link passes the look on to its nonterminal, from a nonterminal with the given looks.
pub record IsPassedOn {W : ℕ} (looks : List Look) (link : FirstLink W) (n : ℕ) (b : Look) : Type 0 where
  pub target_is : n ≡ link.to
  pub passed : Contains link.tokens b ⊎ ((link.passes ≡ true) × Contains looks b)

-- One of the links passes the look on to the nonterminal n, from a nonterminal with the given looks.
pub record IsPassedOnByOne {W : ℕ} (links : List (FirstLink W)) (looks : List Look) (n : ℕ) (b : Look) : Type 0 where
  pub link : FirstLink W
  pub among : Contains links link
  pub is : IsPassedOn looks link n b

-- Each nonterminal with a look is waiting.
abbrev pub AreAllWaiting : {W : ℕ} → PendingLooks W → Type 0
AreAllWaiting s = (n : ℕ) (b : Look) → HasLook s n b → IsWaiting s n
