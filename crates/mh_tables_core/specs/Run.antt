-- The run of a table on a list of tokens, step by step: the driver of an LR parser (Knuth 1965; Aho, Lam, Sethi and
-- Ullman). A state with a default accepts or reduces without asking for a token.
use Rattle.std.specs.Prelude.{◌≡◌, ℕ, zero, suc, List, [], ◌∷◌, ◌++◌, length, take, drop, slice_index, Option, Some, None, option_and_then, if◌then◌else◌, nat_lt, ◌-◌, ◌+◌, ◌<◌}
use Rattle.mh_grammar.specs.declared.types.Symbol.{Symbol}
use Rattle.mh_grammar.specs.declared.types.Symbol.TheVariants.{N}
use Rattle.mh_tables_core.specs.declared.parts.Action.{Action}
use Rattle.mh_tables_core.specs.declared.parts.Action.TheVariants as actions
use Rattle.mh_tables_core.specs.declared.parts.Fallback.{Fallback}
use Rattle.mh_tables_core.specs.declared.parts.Fallback.TheVariants as fallbacks
use Rattle.mh_grammar.specs.Plain.{rhs_of, lhs_of}
use Rattle.mh_tables_core.specs.Table.{TableData, cell_of, fallback_of, edge_of}

-- A configuration of a run: the stack of states, with the start state first and the top last; the number of tokens that
-- were shifted; the tokens that are left.
pub record Config : Type 0 where
  pub stack : List ℕ
  pub read : ℕ
  pub left : List ℕ

-- The configuration at the beginning of the run of a start on a sentence.
abbrev pub initial : ℕ → List ℕ → Config
initial start w = record { stack = start ∷ []; read = 0; left = w }

-- The top of a stack.
abbrev pub top_of : List ℕ → ℕ
top_of stack = slice_index stack (length stack - 1)

-- The next move of a run.
pub data RunMove : Type 0 where
  Accepts : RunMove
  Asks : RunMove
  Refuses : RunMove
  Shifts : (state : ℕ) → RunMove
  Reduces : (production : ℕ) → RunMove

-- The move of a cell.
abbrev pub move_of_action : Action → RunMove
move_of_action (actions.Shift j) = Shifts j
move_of_action (actions.Reduce p) = Reduces p
move_of_action actions.Refuse = Refuses

-- The move by the cell of the next token; with no token left, the state asks for one.
abbrev pub move_of_next : TableData → ℕ → List ℕ → RunMove
move_of_next t s [] = Asks
move_of_next t s (z ∷ left) = move_of_action (cell_of t s z)

-- The move by the default of the state, or m if it has none.
abbrev pub move_by_default : Option Fallback → RunMove → RunMove
move_by_default None m = m
move_by_default (Some fallbacks.Accept) m = Accepts
move_by_default (Some (fallbacks.Reduce p)) m = Reduces p

-- The next move of state s with the tokens `left`: by its default, else by the cell of the next token.
unfoldable pub run_move_of : TableData → ℕ → List ℕ → RunMove
run_move_of t s left = move_by_default (fallback_of t s) (move_of_next t s left)

-- Pushes the target of a goto, if there is one.
abbrev pub push_goto : List ℕ → Option ℕ → Option (List ℕ)
push_goto kept None = None
push_goto kept (Some g) = Some (kept ++ g ∷ [])

-- The stack after a reduction: the right side's number of states is taken off, and the target of the edge on the left
-- side is pushed. `None` if the stack is too short or the edge is missing.
unfoldable pub reduce : TableData → ℕ → List ℕ → Option (List ℕ)
reduce t p stack =
    let kept = take (length stack - length (rhs_of t.grammar p)) stack in
    if nat_lt (length (rhs_of t.grammar p)) (length stack) then push_goto kept (edge_of t (top_of kept) (N (lhs_of t.grammar p))) else None

-- The end of a run, which is its verdict. `Accepted`: the run accepts after `read` tokens. `Overshot`: all tokens are
-- read, and the run asks for one more in `state` (the run overshoots). `Rejected`: the token with index `at` is refused
-- in `state`.
pub data Ending : Type 0 where
  Accepted : (read : ℕ) → Ending
  Overshot : (state : ℕ) → Ending
  Rejected : (at state : ℕ) → Ending

-- The result of one step.
pub data Step : Type 0 where
  Goes : (next : Config) → Step
  Ends : (how : Ending) → Step
  -- A reduction does not find its states or its edge.
  Stuck : Step

-- The step to the configuration with this stack, or the stuck step if there is no stack.
abbrev pub goes_to : Config → Option (List ℕ) → Step
goes_to c None = Stuck
goes_to c (Some stack) = Goes (record { stack = stack; read = c.read; left = c.left })

-- The step that a move makes.
abbrev pub step_by : TableData → Config → RunMove → Step
step_by t c Accepts = Ends (Accepted c.read)
step_by t c Asks = Ends (Overshot (top_of c.stack))
step_by t c Refuses = Ends (Rejected c.read (top_of c.stack))
step_by t c (Shifts j) = Goes (record { stack = c.stack ++ j ∷ []; read = c.read + 1; left = drop 1 c.left })
step_by t c (Reduces p) = goes_to c (reduce t p c.stack)

-- One step of the run.
unfoldable pub step : TableData → Config → Step
step t c = step_by t c (run_move_of t (top_of c.stack) c.left)

-- The configuration after a step; after the end of the run it stays the same.
abbrev pub next_of : Config → Step → Config
next_of c (Goes next) = next
next_of c (Ends how) = c
next_of c Stuck = c

-- The configuration after n steps.
abbrev pub after : TableData → ℕ → Config → Config
after t zero c = c
after t (suc n) c = after t n (next_of c (step t c))

-- The run from the configuration c ends with this verdict.
abbrev pub EndsAs : TableData → Config → Ending → Type 0
EndsAs t c how = (n : ℕ) × (step t (after t n c) ≡ Ends how)

-- The verdict of a start on a sentence.
abbrev pub VerdictOf : TableData → ℕ → List ℕ → Ending → Type 0
VerdictOf t start w how = EndsAs t (initial start w) how

-- The stack after a move that is a reduction; `None` for any other move.
abbrev pub reduced_by : TableData → List ℕ → RunMove → Option (List ℕ)
reduced_by t stack Accepts = None
reduced_by t stack Asks = None
reduced_by t stack Refuses = None
reduced_by t stack (Shifts j) = None
reduced_by t stack (Reduces p) = reduce t p stack

-- The stack after the next move, if it is a reduction.
unfoldable pub reduction : TableData → List ℕ → List ℕ → Option (List ℕ)
reduction t left stack = reduced_by t stack (run_move_of t (top_of stack) left)

-- The stack after n reductions, if the next n moves are reductions.
unfoldable pub reductions : TableData → List ℕ → ℕ → List ℕ → Option (List ℕ)
reductions t left zero stack = Some stack
reductions t left (suc n) stack = option_and_then (reductions t left n) (reduction t left stack)

-- The stack is a path of edges.
pub record IsPath (t : TableData) (stack : List ℕ) : Type 0 where
  pub not_empty : 0 < length stack
  pub edges : (k : ℕ) → k + 1 < length stack → (x : Symbol) × (edge_of t (slice_index stack k) x ≡ Some (slice_index stack (k + 1)))

-- The stack is a path of edges from a start state, as each stack of a run is.
pub record IsRunStack (t : TableData) (stack : List ℕ) : Type 0 where
  pub path : IsPath t stack
  pub start : slice_index stack 0 < length t.grammar.starts
