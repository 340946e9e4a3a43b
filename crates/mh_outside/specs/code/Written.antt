-- The bytes that the adapters pass on to a writer or read from a file.
use Rattle.std.specs.Prelude.{ℕ, ◌≤◌, ◌<◌, List, length, take, Option, Result, Ok, Err, Vec, ⊤}
use Rattle.std.specs.Io.KnownBytes.{Appends, Consumes, IsAtEnd}
use Rattle.std.specs.declared.alloc.Global.{Global}
use Rattle.mh_outside.specs.declared.shelf.ShelfFault.{ShelfFault}
use Rattle.mh_outside.specs.declared.shelf.ShelfFault.TheVariants.{Absent, TooBig}
use Rattle.mh_outside.specs.Sink.{AppendsPrefix}

-- A write passes on as many bytes as it reports; a write that fails passes on a prefix of the piece.
abbrev pub PassesOn : {E : Type 0} → Option (List ℕ) → Option (List ℕ) → List ℕ → Result ℕ E → Type 0
PassesOn old new piece (Ok n) = Appends old new (take n piece)
PassesOn old new piece (Err _) = AppendsPrefix old new piece

-- The call read all bytes that the file had left, or it failed because more than `limit` bytes were left.
abbrev pub ReadsUpTo : ℕ → Option (List ℕ) → Option (List ℕ) → Result (Vec ℕ Global) ShelfFault → Type 0
ReadsUpTo limit old new (Ok bytes) = Consumes old new bytes.items × IsAtEnd new × (length bytes.items ≤ limit)
ReadsUpTo limit old new (Err TooBig) = (got : List ℕ) × Consumes old new got × (limit < length got)
ReadsUpTo limit old new (Err Absent) = ⊥
ReadsUpTo limit old new (Err _) = ⊤
