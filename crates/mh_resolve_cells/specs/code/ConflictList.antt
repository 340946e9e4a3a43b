-- The conflicts of a state in the order of the list: first those on tokens, then that between actions at the end of the
-- stream, and last the conflict of the action at the end of the stream with an action on a token.
use Rattle.std.specs.Prelude.{◌+◌, ℕ, Bool, true, false, List, [], ◌∷◌, ◌++◌, Option, Some, None}
use Rattle.mh_grammar.specs.declared.types.Look.{Look}
use Rattle.mh_grammar.specs.declared.types.Look.TheVariants.{Token, End}
use Rattle.mh_resolve_cells.specs.declared.kinds.ConflictKind.{ConflictKind}
use Rattle.mh_resolve_cells.specs.declared.kinds.ConflictKind.TheVariants.{Stream}
use Rattle.mh_resolve_cells.specs.declared.conflicts.Conflict.{Conflict}
use Rattle.mh_resolve_cells.specs.declared.cells.Cell.{Cell}

-- The conflict on a look, if there is one.
abbrev pub found_on : ℕ → Look → Option ConflictKind → List Conflict
found_on s look None = []
found_on s look (Some kind) = record { state = s; look = look; kind = kind } ∷ []

abbrev pub stream_kind : Bool → Option ConflictKind
stream_kind true = Some Stream
stream_kind false = None

abbrev pub token_conflicts : ℕ → ℕ → List Cell → List Conflict
token_conflicts s z [] = []
token_conflicts s z (cell ∷ cells) = found_on s (Token z) cell.kind ++ token_conflicts s (z + 1) cells

abbrev pub row_conflicts : ℕ → List Cell → Cell → Bool → List Conflict
row_conflicts s cells last stream = token_conflicts s 0 cells ++ (found_on s End last.kind ++ found_on s End (stream_kind stream))
