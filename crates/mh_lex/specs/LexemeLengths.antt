-- The lengths of words, strings, quoted strings and character literals (OCaml manual, lexical conventions; where this
-- project accepts less, the rule is its own).
use Rattle.std.specs.Prelude.{ℕ, ◌+◌, ◌-◌, ◌==◌, ◌&&◌, ◌||◌, Bool, cond, not, List, [], ◌∷◌, length, Option, Some, None, drop, take, nat_eq}
use Rattle.std.specs.List.{starts_with}
use Rattle.mh_lex_bytes.specs.Bytes.{byte_at, has, is_word_byte, is_id_byte, is_escape, is_decimal, is_octal, is_hexadecimal}

-- An optional length, plus one.
abbrev pub plus_one : Option ℕ → Option ℕ
plus_one None = None
plus_one (Some n) = Some (n + 1)

-- The length of the longest prefix of word bytes.
abbrev pub word_rest : List ℕ → ℕ
word_rest [] = 0
word_rest (b ∷ bs) = cond (is_word_byte b) (word_rest bs + 1) 0

-- The number of bytes after a string's opening quote, up to and including the closing quote. A backslash escapes the
-- next byte: `taken` is true if the first byte of the list is escaped.
abbrev pub string_rest : Bool → List ℕ → Option ℕ
string_rest taken [] = None
string_rest taken (b ∷ bs) = cond (not taken && b == 34) (Some 1) (plus_one (string_rest (not taken && b == 92) bs))

-- The length of the longest prefix of bytes of a quoted string's identifier.
abbrev pub id_rest : List ℕ → ℕ
id_rest [] = 0
id_rest (b ∷ bs) = cond (is_id_byte b) (id_rest bs + 1) 0

-- The length of a quoted string's opening (a brace, an identifier that may be empty, and a bar) with which the bytes
-- begin; 0 if they do not.
unfoldable pub quoted_opening : List ℕ → ℕ
quoted_opening s = cond (has s 0 123 && has s (id_rest (drop 1 s) + 1) 124) (id_rest (drop 1 s) + 2) 0

-- The identifier in an opening of this length.
abbrev pub quoted_id : ℕ → List ℕ → List ℕ
quoted_id opening s = take (opening - 2) (drop 1 s)

-- The bytes after a bar begin with this identifier and a brace.
unfoldable pub closes_quoted : List ℕ → List ℕ → Bool
closes_quoted id s = starts_with nat_eq s id && has s (length id) 125

-- The number of bytes after a quoted string's opening, up to and including the next bar, the same identifier and a
-- brace.
abbrev pub quoted_rest : List ℕ → List ℕ → Option ℕ
quoted_rest id [] = None
quoted_rest id (b ∷ bs) = cond (b == 124 && closes_quoted id bs) (Some (length id + 2)) (plus_one (quoted_rest id bs))

-- The length of a character literal with a backslash with which the bytes begin; 0 if they do not. After the backslash
-- are an escape, three decimal digits, `x` and two hexadecimal digits, or `o` and three octal digits; then follows a
-- quote.
unfoldable pub escaped : List ℕ → ℕ
escaped s = cond (is_escape (byte_at s 2) && has s 3 39) 4
    (cond (is_decimal (byte_at s 2) && (is_decimal (byte_at s 3) && (is_decimal (byte_at s 4) && has s 5 39))) 6
    (cond (has s 2 120 && (is_hexadecimal (byte_at s 3) && (is_hexadecimal (byte_at s 4) && has s 5 39))) 6
    (cond (has s 2 111 && (is_octal (byte_at s 3) && (is_octal (byte_at s 4) && (is_octal (byte_at s 5) && has s 6 39)))) 7 0)))

-- The length of a character literal with which the bytes begin; 0 if they do not. Between two quotes is an escaped
-- character, or one byte other than a backslash, a quote and a line feed.
unfoldable pub literal : List ℕ → ℕ
literal s = cond (not (has s 0 39)) 0
    (cond (has s 1 92) (escaped s)
    (cond (has s 2 39 && not (has s 1 39 || (has s 1 10 || has s 1 256))) 3 0))
