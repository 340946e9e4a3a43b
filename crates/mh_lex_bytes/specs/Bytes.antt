-- Bytes by position, and the classes of bytes (a rule of this project).
use Rattle.std.specs.Prelude.{ℕ, ◌==◌, ◌&&◌, ◌||◌, Bool, List, slice_index_or, nat_le}

-- The byte at a position; past the end 256, which is no byte.
abbrev pub byte_at : List ℕ → ℕ → ℕ
byte_at bytes place = slice_index_or bytes place 256

-- True if the byte at a position is this one.
abbrev pub has : List ℕ → ℕ → ℕ → Bool
has bytes place byte = byte_at bytes place == byte

abbrev pub is_at_end : List ℕ → Bool
is_at_end bytes = has bytes 0 256

abbrev pub between : ℕ → ℕ → ℕ → Bool
between low high b = nat_le low b && nat_le b high

-- A letter or `_`: a byte with which a word may begin.
abbrev pub is_word_start : ℕ → Bool
is_word_start b = between 65 90 b || (between 97 122 b || b == 95)

-- A decimal digit.
abbrev pub is_decimal : ℕ → Bool
is_decimal b = between 48 57 b

-- An octal digit.
abbrev pub is_octal : ℕ → Bool
is_octal b = between 48 55 b

-- A hexadecimal digit.
abbrev pub is_hexadecimal : ℕ → Bool
is_hexadecimal b = between 48 57 b || (between 65 70 b || between 97 102 b)

-- A byte that may follow in a word: a letter, a digit, `_` or `'`.
abbrev pub is_word_byte : ℕ → Bool
is_word_byte b = is_word_start b || (is_decimal b || b == 39)

-- A byte of a quoted string's identifier: a lower-case letter or `_`.
abbrev pub is_id_byte : ℕ → Bool
is_id_byte b = between 97 122 b || b == 95

-- A byte that may follow the backslash of a character: `\`, `'`, `"`, `n`, `t`, `b`, `r` or a space.
abbrev pub is_escape : ℕ → Bool
is_escape b = b == 92 || (b == 39 || (b == 34 || (b == 110 || (b == 116 || (b == 98 || (b == 114 || b == 32))))))

-- A space, tab, line feed, carriage return or form feed.
abbrev pub is_blank : ℕ → Bool
is_blank b = b == 32 || (b == 9 || (b == 10 || (b == 13 || b == 12)))

-- A punctuation mark of the grammar: `:`, `|`, `=`, `,`, `;`, `(`, `)`, `?`, `*` or `+`.
abbrev pub is_mark : ℕ → Bool
is_mark b = b == 58 || (b == 124 || (b == 61 || (b == 44 || (b == 59 || (b == 40 || (b == 41 || (b == 63 || (b == 42 || b == 43))))))))

-- True if the bytes begin with `->`.
abbrev pub begins_arrow : List ℕ → Bool
begins_arrow s = has s 0 45 && has s 1 62
