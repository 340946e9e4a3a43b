-- The lines of an input, and the limits on their length and number.
use Rattle.std.specs.Prelude.{ℕ, zero, suc, Bool, true, false, List, [], ◌∷◌, ◌==◌, ◌&&◌, length, if◌then◌else◌, nat_le}
use Rattle.mh_outside.specs.Lines.{after_line}

-- Puts x at the front of the first list.
abbrev pub prepend_to_first : ℕ → List (List ℕ) → List (List ℕ)
prepend_to_first x [] = (x ∷ []) ∷ []
prepend_to_first x (xs ∷ others) = (x ∷ xs) ∷ others

-- The lines of an input: the bytes between line feeds. The last line needs no line feed.
abbrev pub lines_of_input : List ℕ → List (List ℕ)
lines_of_input [] = []
lines_of_input (b ∷ bytes) = if b == 10 then [] ∷ lines_of_input bytes else prepend_to_first b (lines_of_input bytes)

-- The lines before the first line that is longer than the limit, but at most max lines.
abbrev pub lines_within_limits : ℕ → ℕ → List (List ℕ) → List (List ℕ)
lines_within_limits limit max [] = []
lines_within_limits limit zero (line ∷ lines) = []
lines_within_limits limit (suc max) (line ∷ lines) = if nat_le (length line) limit then line ∷ lines_within_limits limit max lines else []

-- True if no line is longer than the limit and there are at most max lines.
abbrev pub are_within_limits : ℕ → ℕ → List (List ℕ) → Bool
are_within_limits limit max [] = true
are_within_limits limit zero (line ∷ lines) = false
are_within_limits limit (suc max) (line ∷ lines) = nat_le (length line) limit && are_within_limits limit max lines

-- The bytes of an input after its first n lines.
abbrev pub input_after_lines : ℕ → List ℕ → List ℕ
input_after_lines zero bytes = bytes
input_after_lines (suc n) bytes = after_line (input_after_lines n bytes)
