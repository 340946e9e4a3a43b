-- Rooms for texts: the memory that a caller lends for an output.
use Rattle.std.specs.Prelude.{◌≡◌, ◌++◌, ◌-◌, ◌^◌, ℕ, min, length, take, drop}
use Rattle.mh_grammar.specs.Text.{Text}

-- The room after a text was put into it: the first bytes of the text, as many as the room holds, and then the bytes
-- that the room had before.
abbrev pub filled : Text → Text → Text
filled text room = take (length room) text ++ drop (length text) room

-- The number of bytes of a text, which stops at the greatest 64-bit number.
abbrev pub whole_length : Text → ℕ
whole_length text = min (length text) (2 ^ 64 - 1)

-- The room, which was `old`, has the first bytes of the text, and the number is that of all bytes of the text.
pub record Holds (text old new : Text) (len : ℕ) : Type 0 where
  pub bytes : new ≡ filled text old
  pub whole : len ≡ whole_length text
