-- The results of the steps by which a line is read: reading one byte, and adding one byte to the line.
use Rattle.std.specs.Prelude.{◌≡◌, ℕ, ◌≤◌, ◌<◌, List, [], ◌∷◌, ◌++◌, length, Option, None, Some, Result, Ok, Err}
use Rattle.std.specs.Io.KnownBytes.{Consumes, Keeps, IsAtEnd}
use Rattle.mh_outside.specs.declared.lines.LineFault.{LineFault}
use Rattle.mh_outside.specs.declared.lines.LineFault.TheVariants.{Failed, TooBig, Memory}

-- A call that reads one byte takes that byte; at the end of the input or after a fault it takes none.
abbrev pub ReadsByte : {E : Type 0} → Option (List ℕ) → Option (List ℕ) → Result (Option ℕ) E → Type 0
ReadsByte old new (Ok None) = IsAtEnd old × Keeps old new
ReadsByte old new (Ok (Some b)) = Consumes old new (b ∷ [])
ReadsByte old new (Err _) = Keeps old new

-- The byte was added to a line shorter than the limit, or the result says why it was not.
abbrev pub AddsByte : {T : Type 0} → ℕ → List ℕ → List ℕ → ℕ → Result T LineFault → Type 0
AddsByte limit old new byte (Ok _) = (new ≡ old ++ byte ∷ []) × (length old < limit)
AddsByte limit old new byte (Err TooBig) = limit ≤ length old
AddsByte limit old new byte (Err Memory) = length old < limit
AddsByte limit old new byte (Err Failed) = ⊥
