-- The names of looks and modes in texts.
use Rattle.std.specs.Prelude.{ℕ, List, codes}
use Rattle.mh_grammar.specs.declared.types.Grammar.{Grammar}
use Rattle.mh_grammar.specs.declared.types.Look.{Look}
use Rattle.mh_grammar.specs.declared.types.Look.TheVariants.{Token, End}
use Rattle.mh_grammar.specs.Names.{token_name}
use Rattle.mh_resolve_cells.specs.declared.kinds.Mode.{Mode}
use Rattle.mh_resolve_cells.specs.declared.kinds.Mode.TheVariants.{Merged, Canonical}

-- The name of a look: `#` for the end of the stream.
abbrev pub look_name : Grammar → Look → List ℕ
look_name g (Token z) = token_name g z
look_name g End = codes "#"

-- The name of a mode.
abbrev pub mode_name : Mode → List ℕ
mode_name Merged = codes "merged"
mode_name Canonical = codes "canonical"
