-- The next piece of the bytes inside code, comments and types, where the scan goes on (a rule of this project; the
-- Menhir manual leaves the content of actions to OCaml).
use Rattle.std.specs.Prelude.{ℕ, ◌+◌, ◌&&◌, Bool, true, false, cond, List, Option, Some, None, drop, nat_lt}
use Rattle.mh_lex.specs.declared.code.Delimiter.{Delimiter}
use Rattle.mh_lex.specs.declared.code.Delimiter.TheVariants.{Comment, Brace, Bracket, Header, Angle, Slash}
use Rattle.mh_lex.specs.declared.code.CodeStep.{CodeStep}
use Rattle.mh_lex.specs.declared.code.CodeStep.TheVariants.{Closes, Passes, Nests, Remark, Stuck}
use Rattle.mh_lex_bytes.specs.Bytes.{byte_at, has, begins_arrow, is_at_end, is_word_start}
use Rattle.mh_lex.specs.LexemeLengths.{string_rest, word_rest, literal, quoted_opening, quoted_id, quoted_rest}

-- A comment inside this code is passed over as a whole.
abbrev pub has_remarks : Delimiter → Bool
has_remarks Comment = true
has_remarks Brace = true
has_remarks Bracket = true
has_remarks Header = true
has_remarks Angle = true
has_remarks Slash = false

-- A step over an opening of this length and over what it opens, whose length is the second number. Without a second
-- number what is opened has no end, and the step is stuck.
abbrev pub step_past : ℕ → Option ℕ → CodeStep
step_past opening None = Stuck
step_past opening (Some n) = Passes (n + opening)

-- The bytes begin with `(*`.
abbrev pub begins_comment : List ℕ → Bool
begins_comment s = has s 0 40 && has s 1 42

-- The bytes begin with the byte that opens a nested level: `{` in an action, `[` in an attribute.
abbrev pub nests_in : Delimiter → List ℕ → Bool
nests_in Brace s = has s 0 123
nests_in Bracket s = has s 0 91
nests_in _ s = false

-- A step over a single byte.
abbrev pub step_over_byte : Delimiter → List ℕ → CodeStep
step_over_byte e s = cond (is_at_end s) Stuck (cond (nests_in e s) Nests (Passes 1))

-- A step over a string, a character literal, a word, a quoted string or a single byte: the first of these with which
-- the bytes begin. A string or quoted string that is not closed is not read as single bytes: then there is no step.
unfoldable pub step_over_one : Delimiter → List ℕ → CodeStep
step_over_one e s = cond (has s 0 34) (step_past 1 (string_rest false (drop 1 s)))
    (cond (nat_lt 0 (literal s)) (Passes (literal s))
    (cond (is_word_start (byte_at s 0)) (Passes (word_rest s))
    (cond (nat_lt 0 (quoted_opening s)) (step_past (quoted_opening s) (quoted_rest (quoted_id (quoted_opening s) s) (drop (quoted_opening s) s)))
    (step_over_byte e s))))

-- A step if the code is not closed here and no comment begins. In a type it passes over an arrow or a single byte.
abbrev pub step_inside : Delimiter → List ℕ → CodeStep
step_inside Comment s = step_over_one Comment s
step_inside Brace s = step_over_one Brace s
step_inside Bracket s = step_over_one Bracket s
step_inside Header s = step_over_one Header s
step_inside Angle s = cond (begins_arrow s) (Passes 2) (step_over_byte Angle s)
step_inside Slash s = step_over_byte Slash s

-- The length of the closing delimiter (`*)`, `}`, `]`, `%}`, `>` or `*/`) with which the bytes begin; 0 if they do not.
abbrev pub closer_length : Delimiter → List ℕ → ℕ
closer_length Comment s = cond (has s 0 42 && has s 1 41) 2 0
closer_length Brace s = cond (has s 0 125) 1 0
closer_length Bracket s = cond (has s 0 93) 1 0
closer_length Header s = cond (has s 0 37 && has s 1 125) 2 0
closer_length Angle s = cond (has s 0 62) 1 0
closer_length Slash s = cond (has s 0 42 && has s 1 47) 2 0

-- A step inside code: the closing delimiter has precedence over a comment, and a comment over all else.
unfoldable pub step : Delimiter → List ℕ → CodeStep
step e s = cond (nat_lt 0 (closer_length e s)) (Closes (closer_length e s))
    (cond (has_remarks e && begins_comment s) Remark (step_inside e s))
