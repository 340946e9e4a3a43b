-- Counts the modes among the words: none, one or several. The rule is this project's own.
use Rattle.std.specs.Prelude.{List, [], ◌∷◌, Option, Some, None}
use Rattle.mh_opts.specs.declared.modes.FoundModes.{FoundModes}
use Rattle.mh_opts.specs.declared.modes.FoundModes.TheVariants.{Nothing, One, Several}

abbrev pub with_one : {M : Type 0} → FoundModes M → M → FoundModes M
with_one Nothing mode = One mode
with_one (One other) mode = Several
with_one Several mode = Several

abbrev pub with_next : {M : Type 0} → FoundModes M → Option M → FoundModes M
with_next asked None = asked
with_next asked (Some mode) = with_one asked mode

-- The count with the modes of several more words.
abbrev pub with_all : {M : Type 0} → FoundModes M → List (Option M) → FoundModes M
with_all asked [] = asked
with_all asked (mode ∷ modes) = with_all (with_next asked mode) modes
