-- Lines of bytes, and the bytes that are taken by a call that reads a line. A line ends with an LF, or at the end of
-- the input.
use Rattle.std.specs.Prelude.{◌≡◌, ◌≢◌, ◌⊎◌, ℕ, ◌+◌, ◌≤◌, ◌<◌, ◌==◌, List, [], ◌∷◌, ◌++◌, length, drop, Option, None, Some, Result, Ok, Err, Vec, if◌then◌else◌, nat_le, All, ⊤}
use Rattle.std.specs.Io.KnownBytes.{Consumes, Keeps, IsAtEnd}
use Rattle.std.specs.declared.alloc.Global.{Global}
use Rattle.mh_outside.specs.declared.lines.LineFault.{LineFault}
use Rattle.mh_outside.specs.declared.lines.LineFault.TheVariants.{Failed, TooBig, Memory}
use Rattle.mh_outside.specs.Faults.{HasRisen}

-- The bytes have no LF.
abbrev pub HasNoLF : List ℕ → Type 0
HasNoLF = All (λ b. b ≢ 10)

-- The line was taken with its LF, or it was not empty and the input ended after it.
abbrev pub TakesLine : Option (List ℕ) → Option (List ℕ) → List ℕ → Type 0
TakesLine old new line = Consumes old new (line ++ 10 ∷ []) ⊎ (Consumes old new line × IsAtEnd new × (0 < length line))

-- Bytes without an LF were taken, and no line is returned for them; their number has the property `Size`.
abbrev pub LosesBytes : Option (List ℕ) → Option (List ℕ) → (ℕ → Type 0) → Type 0
LosesBytes old new Size = (got : List ℕ) × Consumes old new got × HasNoLF got × Size (length got)

-- The bytes that a call takes from its source when it reads a line of at most `limit` bytes. `TooBig` means that `limit
-- + 1` bytes without LF were taken; `Memory` and `Failed` mean that at most `limit` bytes were.
abbrev pub ReadsLine : ℕ → Option (List ℕ) → Option (List ℕ) → Result (Option (Vec ℕ Global)) LineFault → Type 0
ReadsLine limit old new (Ok None) = IsAtEnd old × Keeps old new
ReadsLine limit old new (Ok (Some line)) = TakesLine old new line.items × HasNoLF line.items × (length line.items ≤ limit)
ReadsLine limit old new (Err TooBig) = LosesBytes old new (λ n. n ≡ limit + 1)
ReadsLine limit old new (Err Failed) = LosesBytes old new (λ n. n ≤ limit)
ReadsLine limit old new (Err Memory) = LosesBytes old new (λ n. (0 < n) × (n ≤ limit))

-- `Failed` raises the source's count of faults; no other result changes it.
abbrev pub CountsLineFault : {T : Type 0} → ℕ → ℕ → Result T LineFault → Type 0
CountsLineFault before now (Err Failed) = (before ≤ now) × HasRisen before now
CountsLineFault before now _ = now ≡ before

-- The bytes before the first LF, or all bytes if there is none.
abbrev pub first_line : List ℕ → List ℕ
first_line [] = []
first_line (b ∷ bytes) = if b == 10 then [] else b ∷ first_line bytes

-- The bytes after the first LF, or no bytes if there is none.
abbrev pub after_line : List ℕ → List ℕ
after_line [] = []
after_line (b ∷ bytes) = if b == 10 then bytes else after_line bytes

pub data NextLine : Type 0 where
  NoLine : NextLine
  LongLine : NextLine
  Line : List ℕ → NextLine

abbrev pub line_within : ℕ → List ℕ → NextLine
line_within limit line = if nat_le (length line) limit then Line line else LongLine

-- The first line of the bytes: none if there are no bytes, `LongLine` if it has more than `limit` bytes.
abbrev pub first_line_within : ℕ → List ℕ → NextLine
first_line_within limit [] = NoLine
first_line_within limit (b ∷ bytes) = line_within limit (first_line (b ∷ bytes))

-- If the bytes left are known, each result but `Failed` and `Memory` agrees with `first_line_within`, and the bytes
-- left afterwards are known too.
abbrev pub FindsLine : ℕ → Option (List ℕ) → Option (List ℕ) → Result (Option (Vec ℕ Global)) LineFault → Type 0
FindsLine limit None new result = ⊤
FindsLine limit (Some bytes) new (Ok None) = (first_line_within limit bytes ≡ NoLine) × (new ≡ Some [])
FindsLine limit (Some bytes) new (Ok (Some line)) = (first_line_within limit bytes ≡ Line line.items) × (new ≡ Some (after_line bytes))
FindsLine limit (Some bytes) new (Err TooBig) = (first_line_within limit bytes ≡ LongLine) × (new ≡ Some (drop (limit + 1) bytes))
FindsLine limit (Some bytes) new (Err Failed) = ⊤
FindsLine limit (Some bytes) new (Err Memory) = first_line_within limit bytes ≢ NoLine
