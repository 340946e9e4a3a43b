-- The costs of tokens in attributes (a rule of this project).
use Rattle.std.specs.Prelude.{◌≡◌, ◌<◌, ◌≤◌, ◌+◌, ◌-◌, ◌*◌, ◌==◌, ◌&&◌, ℕ, Bool, true, cond, List, [], ◌∷◌, ◌++◌, length, Option, Some, None, drop, take, nat_lt, nat_le, nat_eq, codes, decimal}
use Rattle.std.specs.List.{AllByRecursion, prefix_len}
use Rattle.std.specs.Cmp.Lexicographic.{pointwise}
use Rattle.mh_grammar.specs.Limits.{max_cost}
use Rattle.mh_lex_bytes.specs.Bytes.{byte_at, is_blank, is_decimal}

-- The text of a cost attribute.

-- `[@cost`, one or more blanks, a number from 1 to 1,000 in decimal without leading zeros, blanks or none, and `]`.
pub record IsCostText (text : List ℕ) (cost : ℕ) : Type 0 where
  pub before : List ℕ
  pub after : List ℕ
  pub some : 0 < length before
  pub blanks_before : AllByRecursion (λ b. is_blank b ≡ true) before
  pub blanks_after : AllByRecursion (λ b. is_blank b ≡ true) after
  pub least : 1 ≤ cost
  pub most : cost ≤ max_cost
  pub text_is : text ≡ codes "[@cost" ++ (before ++ (decimal cost ++ (after ++ 93 ∷ [])))

-- The cost that a text gives.

-- The number whose decimal is the decimal of n followed by these digits.
abbrev pub decimal_value_from : ℕ → List ℕ → ℕ
decimal_value_from n [] = n
decimal_value_from n (c ∷ cs) = decimal_value_from (n * 10 + (c - 48)) cs

abbrev pub cost_in_range : ℕ → Option ℕ
cost_in_range n = cond (nat_le 1 n && nat_le n max_cost) (Some n) None

-- Blanks or none, and the closing bracket.
abbrev pub is_closing_text : List ℕ → Bool
is_closing_text s = pointwise nat_eq (drop (prefix_len is_blank s) s) (93 ∷ [])

-- The cost in a text that begins with its number.
abbrev pub cost_from_number : List ℕ → Option ℕ
cost_from_number s =
    cond (byte_at s 0 == 48) None
    (cond (is_closing_text (drop (prefix_len is_decimal s) s)) (cost_in_range (decimal_value_from 0 (take (prefix_len is_decimal s) s))) None)

-- The cost in a text that begins with the blanks before its number.
abbrev pub cost_from_blanks : List ℕ → Option ℕ
cost_from_blanks s = cond (nat_lt 0 (prefix_len is_blank s)) (cost_from_number (drop (prefix_len is_blank s) s)) None

-- The cost that an attribute gives, if it is a cost attribute.
unfoldable pub cost_of : List ℕ → Option ℕ
cost_of t = cond (pointwise nat_eq (take 6 t) (codes "[@cost")) (cost_from_blanks (drop 6 t)) None
