-- The contents of the devices in memory, and the exact results of their calls.
use Rattle.std.specs.Prelude.{◌≡◌, ◌⊎◌, ℕ, ◌+◌, ◌<◌, Bool, true, false, List, length, drop, Result, Ok, Err, vec_len, vec_capacity}
use Rattle.mh_outside.specs.declared.fakes.mem_shelf.MemShelf.{MemShelf}
use Rattle.mh_outside.specs.declared.fakes.mem_source.MemSource.{MemSource}
use Rattle.mh_outside.specs.declared.fakes.mem_sink.MemSink.{MemSink}
use Rattle.mh_outside.specs.declared.shelf.ShelfFault.{ShelfFault}
use Rattle.mh_outside.specs.declared.shelf.ShelfFault.TheVariants.{Failed}
use Rattle.mh_outside.specs.Schedule.{DeviceCalls}
use Rattle.mh_outside.specs.Shelf.{Files, files_of}

abbrev pub shelf_files : MemShelf → Files
shelf_files s = files_of s.files.items

abbrev pub shelf_calls : MemShelf → DeviceCalls
shelf_calls s = s.schedule

abbrev pub mem_source_left : MemSource → List ℕ
mem_source_left s = drop s.at s.bytes.items

abbrev pub source_calls : MemSource → DeviceCalls
source_calls s = s.schedule

abbrev pub sink_written : MemSink → List ℕ
sink_written s = s.bytes.items

abbrev pub sink_calls : MemSink → DeviceCalls
sink_calls s = s.schedule

-- The sink has too little memory reserved for the piece.
abbrev pub NeedsMemory : MemSink → List ℕ → Type 0
NeedsMemory s piece = vec_capacity s.bytes < vec_len s.bytes + length piece

-- The result is `Failed` exactly if the schedule makes this call fail.
abbrev pub FailsExactly : {T : Type 0} → Bool → Result T ShelfFault → Type 0
FailsExactly fails (Err Failed) = fails ≡ true
FailsExactly fails _ = fails ≡ false

-- A read gives `count` bytes, or fails exactly if the schedule makes this call fail.
abbrev pub ReadsOrFails : {E : Type 0} → Bool → ℕ → Result ℕ E → Type 0
ReadsOrFails fails count (Ok n) = (fails ≡ false) × (n ≡ count)
ReadsOrFails fails count (Err _) = fails ≡ true

-- A write takes `count` bytes; it fails if the schedule makes this call fail, or if the memory could not grow.
abbrev pub WritesOrFails : {E : Type 0} → Bool → ℕ → Type 0 → Result ℕ E → Type 0
WritesOrFails fails count Grows (Ok n) = (fails ≡ false) × (n ≡ count)
WritesOrFails fails count Grows (Err _) = (fails ≡ true) ⊎ ((fails ≡ false) × Grows)
