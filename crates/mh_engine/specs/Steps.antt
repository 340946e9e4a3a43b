-- The definitions of what each call of a checkpoint does to its position.
use Rattle.std.specs.Prelude.{ℕ, Bool, true, false, List, [], ◌∷◌, ◌++◌}
use Rattle.mh_tables_core.specs.Table.{TableData}
use Rattle.mh_tables_core.specs.Run.{Config, RunMove, Accepts, Asks, Refuses, Shifts, Reduces, step, next_of}
use Rattle.mh_tables_core.specs.RunTrees.{trees_after_move}
use Rattle.mh_engine.specs.Positions.{Position, bottom}
use Rattle.mh_engine.specs.Phases.{next_move}

-- The initial position of the run of a start on the tokens w.
abbrev pub initial_position : TableData → ℕ → List ℕ → Position
initial_position t start w = record { table = t; pairs = bottom start; left = w; refused = false }

-- The position with one more token after the tokens to come.
abbrev pub offered : Position → ℕ → Position
offered c z = record { table = c.table; pairs = c.pairs; left = c.left ++ z ∷ []; refused = c.refused }

-- The position after its next token was refused.
abbrev pub refused_position : Position → Position
refused_position c = record { table = c.table; pairs = c.pairs; left = c.left; refused = true }

-- The configuration of a position; the count of tokens shifted is not kept and is 0.
abbrev pub config_of : Position → Config
config_of c = record { stack = c.pairs.states; read = 0; left = c.left }

abbrev pub is_refusal : RunMove → Bool
is_refusal Accepts = false
is_refusal Asks = false
is_refusal Refuses = true
is_refusal (Shifts j) = false
is_refusal (Reduces p) = false

-- The position after the next step of the run. A refusal is a step that leaves the stack and the tokens unchanged.
unfoldable pub resumed : Position → Position
resumed c =
    let next = next_of (config_of c) (step c.table (config_of c)) in
    record { table = c.table; pairs = record { states = next.stack; trees = trees_after_move c.table (next_move c) c.left c.pairs.trees }; left = next.left; refused = is_refusal (next_move c) }
