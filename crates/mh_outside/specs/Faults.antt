-- How the count of a device's faults changes during a call. The count stops at the greatest 64-bit number.
use Rattle.std.specs.Prelude.{◌≡◌, ℕ, ◌+◌, ◌-◌, ◌^◌, ◌≤◌, ◌<◌, min, Result, Ok, Err}
use Rattle.mh_outside.specs.declared.shelf.ShelfFault.{ShelfFault}
use Rattle.mh_outside.specs.declared.shelf.ShelfFault.TheVariants.{Failed}

-- The count after one more fault, which stays at the greatest 64-bit number once it is reached.
abbrev pub count_after_fault : ℕ → ℕ
count_after_fault n = min (n + 1) (2 ^ 64 - 1)

-- The count rose, or is already the greatest 64-bit number.
abbrev pub HasRisen : ℕ → ℕ → Type 0
HasRisen before now = count_after_fault before ≤ now

-- The count did not rise, and is below the greatest 64-bit number.
abbrev pub HasNotRisen : ℕ → ℕ → Type 0
HasNotRisen before now = now < count_after_fault before

-- A call that succeeds leaves the count as it is; a call that fails raises it.
abbrev pub CountsFault : {T E : Type 0} → ℕ → ℕ → Result T E → Type 0
CountsFault before now (Ok _) = now ≡ before
CountsFault before now (Err _) = (before ≤ now) × HasRisen before now

-- The same for a shelf, where `Failed` alone is a fault of the device.
abbrev pub CountsShelfFault : {T : Type 0} → ℕ → ℕ → Result T ShelfFault → Type 0
CountsShelfFault before now (Err Failed) = (before ≤ now) × HasRisen before now
CountsShelfFault before now _ = now ≡ before
