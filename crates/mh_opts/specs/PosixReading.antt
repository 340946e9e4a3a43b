-- The definition of how a reader of the usage takes the words (POSIX utility conventions): an option begins with two
-- hyphens, `--` ends the options, and each word that is neither an option nor the value of one is a grammar file; so is
-- `-` alone. That all options have two hyphens is this project's own rule.
use Rattle.std.specs.Prelude.{◌+◌, ◌&&◌, ℕ, Bool, true, false, not, is_some, List, [], ◌∷◌, if◌then◌else◌, codes, count_by}
use Rattle.std.specs.List.{list_any}
use Rattle.std.specs.Option.{option_map_or}
use Rattle.std.specs.Str.{bytes_eq}
use Rattle.clap.specs.Lexer.{long_of}
use Rattle.clap.specs.Walk.{Text}
use Rattle.clap.specs.declared.builder.action.ArgAction.{ArgAction}
use Rattle.clap.specs.declared.builder.action.ArgAction.TheVariants.{Set}
use Rattle.mh_opts.specs.declared.jobs.Opt.{Opt}
use Rattle.mh_opts.specs.Options.{options}
use Rattle.mh_opts.specs.RepeatedOption.{is_end}

abbrev pub is_set : ArgAction → Bool
is_set Set = true
is_set action = false

-- The option of this name takes a value.
abbrev pub has_value : List (Opt Text) → Text → Bool
has_value [] name = false
has_value (option ∷ more) name = if bytes_eq option.name name then is_set option.action else has_value more name

-- The word has two hyphens and more characters: a name, perhaps with `=` and a value.
abbrev pub is_option : Text → Bool
is_option word = is_some (long_of word)

-- The next word is the value of this option.
abbrev pub awaits : List (Opt Text) → Text → Bool
awaits rows word = option_map_or (λ o. not (is_some o.1) && has_value rows o.0) (long_of word) false

-- The files among the words. If `awaited` is true, the first word may be the value of an option.
abbrev pub files_from : List (Opt Text) → Bool → List Text → List Text
files_from rows awaited [] = []
files_from rows awaited (word ∷ words) =
    if is_end word then words
    else (if is_option word then files_from rows (awaits rows word) words
    else (if awaited then files_from rows false words
    else word ∷ files_from rows false words))

abbrev pub files_in : List Text → List Text
files_in words = files_from options false words

-- The words before the end of the options.
abbrev pub before_end : List Text → List Text
before_end [] = []
before_end (word ∷ words) = if is_end word then [] else word ∷ before_end words

-- The word is the option of this name, alone or with `=` and a value.
abbrev pub is_use_of : Text → Text → Bool
is_use_of name word = option_map_or (λ o. bytes_eq o.0 name) (long_of word) false

-- One of the words before the end of the options is the option.
abbrev pub is_used_in : Text → List Text → Bool
is_used_in name words = list_any (is_use_of name) (before_end words)

-- How often the option occurs before the end of the options.
abbrev pub occurrences : Text → List Text → ℕ
occurrences name words = count_by (is_use_of name) (before_end words)

-- How often the option may occur.
abbrev pub at_most : Text → ℕ
at_most name = 1 + (if bytes_eq (codes "compare-errors") name then 1 else 0)

abbrev pub is_listed : Text → List (Opt Text) → Bool
is_listed name rows = list_any (λ option. bytes_eq option.name name) rows
