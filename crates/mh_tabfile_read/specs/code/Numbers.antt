-- The definition of the numbers in table files. The form is this project's own.
use Rattle.std.specs.Prelude.{ℕ, ◌+◌, ◌*◌, ◌-◌, ◌^◌, Bool, true, false, not, ◌&&◌, ◌==◌, nat_lt, nat_le, if◌then◌else◌, List, [], ◌∷◌, Option, Some, None}
use Rattle.std.specs.List.{list_all}

-- A number is written in decimal digits without leading zeros, and is below 2^32.
abbrev pub is_digit : ℕ → Bool
is_digit b = nat_le 48 b && nat_le b 57

abbrev pub value_from : ℕ → List ℕ → ℕ
value_from n [] = n
value_from n (b ∷ bs) = value_from (10 * n + (b - 48)) bs

abbrev pub has_zero_first : List ℕ → Bool
has_zero_first [] = true
has_zero_first (b ∷ []) = false
has_zero_first (b ∷ c ∷ bs) = b == 48

abbrev pub small_value : List ℕ → Option ℕ
small_value word = if nat_lt (value_from 0 word) (2 ^ 32) then Some (value_from 0 word) else None

unfoldable pub number_of : List ℕ → Option ℕ
number_of word = if list_all is_digit word && not (has_zero_first word) then small_value word else None
