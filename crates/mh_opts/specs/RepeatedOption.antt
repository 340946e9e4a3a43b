-- The definition of the words as clap reads them. Clap accepts an option once, so the second use of the option that may
-- occur twice gets another name. The rule is this project's own.
use Rattle.std.specs.Prelude.{Bool, true, false, ◌||◌, List, [], ◌∷◌, ◌++◌, codes, drop, length, nat_eq, if◌then◌else◌}
use Rattle.std.specs.List.{starts_with}
use Rattle.std.specs.Str.{bytes_eq}
use Rattle.clap.specs.Words.{Text}
use Rattle.mh_opts.specs.declared.repeated_option.SeenUses.{SeenUses}
use Rattle.mh_opts.specs.declared.repeated_option.SeenUses.TheVariants.{Nothing, One, All}

-- The word ends the options.
abbrev pub is_end : Text → Bool
is_end word = bytes_eq word (codes "--")

-- The word is the option, alone or with its value.
abbrev pub is_use : Text → Bool
is_use word = bytes_eq word (codes "--compare-errors") || starts_with nat_eq word (codes "--compare-errors=")

-- The word with the other name of the option.
abbrev pub again : Text → Text
again word = if starts_with nat_eq word (codes "--compare-errors") then (codes "--compare-errors-2") ++ drop (length (codes "--compare-errors")) word else word

-- The uses of the option up to this word.
abbrev pub seen_after : SeenUses → Text → SeenUses
seen_after Nothing word = if is_end word then All else (if is_use word then One else Nothing)
seen_after One word = if is_end word then All else (if is_use word then All else One)
seen_after All word = All

abbrev pub word_with : SeenUses → Text → Text
word_with Nothing word = word
word_with One word = if is_use word then again word else word
word_with All word = word

abbrev pub renamed_from : SeenUses → List Text → List Text
renamed_from seen [] = []
renamed_from seen (word ∷ words) = word_with seen word ∷ renamed_from (seen_after seen word) words

abbrev pub renamed : List Text → List Text
renamed words = renamed_from Nothing words

-- Some word before the end of the options begins with the other name.
abbrev pub is_reserved : List Text → Bool
is_reserved [] = false
is_reserved (word ∷ words) = if is_end word then false else (if starts_with nat_eq word (codes "--compare-errors-2") then true else is_reserved words)
