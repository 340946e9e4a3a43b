-- The definition of numbers among the words: decimal digits, at least one, and at most as many as the option allows.
-- The rule is this project's own.
use Rattle.std.specs.Prelude.{ℕ, ◌+◌, ◌-◌, ◌*◌, ◌&&◌, Bool, not, nat_le, List, [], ◌∷◌, length, Option, None, Some, if◌then◌else◌}
use Rattle.std.specs.Char.{is_ascii_digit}
use Rattle.std.specs.List.{list_all}
use Rattle.clap.specs.Walk.{is_empty}
use Rattle.clap.specs.Words.{Text}

-- The value of a numeral that begins with digits of the value n and ends with the given digits.
abbrev pub value_after : ℕ → Text → ℕ
value_after n [] = n
value_after n (digit ∷ digits) = value_after (10 * n + (digit - 48)) digits

abbrev pub value : Text → ℕ
value digits = value_after 0 digits

abbrev pub is_short : ℕ → Text → Bool
is_short most text = not (is_empty text) && nat_le (length text) most

abbrev pub is_numeral : ℕ → Text → Bool
is_numeral most text = is_short most text && list_all is_ascii_digit text

-- The number, if the text consists of at least one and at most `most` decimal digits.
abbrev pub number_in : ℕ → Text → Option ℕ
number_in most text = if is_numeral most text then Some (value text) else None

abbrev pub at_most : ℕ → Option ℕ → Option ℕ
at_most most None = None
at_most most (Some n) = if nat_le n most then Some n else None

-- The most tokens that a random sentence may be asked to have.
abbrev pub max_length : ℕ
max_length = 1000

-- The length of a random sentence: one to four decimal digits, with a value of at most `max_length`.
abbrev pub length_in : Text → Option ℕ
length_in text = at_most max_length (number_in 4 text)
