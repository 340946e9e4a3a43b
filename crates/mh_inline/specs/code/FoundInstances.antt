-- The instances found by a search, as flags and as a queue.
use Rattle.std.specs.Prelude.{◌≡◌, ◌+◌, ◌⊎◌, ℕ, true, false, not, count_by, List, Some, length, slice_get, slice_index_or}
use Rattle.std.specs.List.{Contains}
use Rattle.mh_rules.specs.declared.instances.Instance.{Instance}
use Rattle.mh_inline.specs.declared.cycles.FoundInstances.{FoundInstances}

-- The flags are set exactly for the instances in the queue.
pub record FlagsMatchQueue (f : FoundInstances) : Type 0 where
  pub queued : (m : ℕ) → slice_index_or f.flags.items m false ≡ true → Contains f.queue.items m
  pub flagged : (m : ℕ) → Contains f.queue.items m → slice_index_or f.flags.items m false ≡ true

-- The instances that satisfy P have been added, and no others.
pub record AddsFound (P : ℕ → Type 0) (old new : FoundInstances) : Type 0 where
  pub len : length new.flags.items ≡ length old.flags.items
  pub sets : FlagsMatchQueue new
  pub measure : count_by not new.flags.items + length new.queue.items ≡ count_by not old.flags.items + length old.queue.items
  pub kept : (i m : ℕ) → slice_get old.queue.items i ≡ Some m → slice_get new.queue.items i ≡ Some m
  pub origin : (m : ℕ) → Contains new.queue.items m → Contains old.queue.items m ⊎ P m
  pub added : (m : ℕ) → P m → Contains new.queue.items m

-- There is one flag for each instance, and the flags are those of the queue.
pub record IsFoundTable (is : List Instance) (f : FoundInstances) : Type 0 where
  pub len : length f.flags.items ≡ length is
  pub sets : FlagsMatchQueue f

abbrev pub IsEqualTo : ℕ → ℕ → Type 0
IsEqualTo n m = m ≡ n
