-- The lines that report the states for which one messages file has a message and another has none (Menhir manual,
-- `--compare-errors`). The wording is this project's own.
use Rattle.std.specs.Prelude.{ℕ, List, ◌++◌, flat_map, codes, decimal}

unfoldable pub missing_state_text : ℕ → List ℕ
missing_state_text s = codes "menhir: state " ++ decimal s ++ codes " of "

-- The line of state s, with the names of the two files.
unfoldable pub missing_line : List ℕ → List ℕ → ℕ → List ℕ
missing_line left right s = missing_state_text s ++ left ++ codes " is missing in " ++ right ++ codes "\n"

abbrev pub missing_lines : List ℕ → List ℕ → List ℕ → List ℕ
missing_lines left right states = flat_map (missing_line left right) states
