-- The results of the test of relative runs, for each of its functions. A relative run begins with a start state alone,
-- or with a state (`below`) and a state to which one of its edges leads (`s`); it makes only reductions, and loops if
-- it makes more than `MAX_REDUCTIONS`.
use Rattle.std.specs.Prelude.{◌≡◌, ℕ, suc, List, [], ◌∷◌, ◌++◌, length, take, ◌≤◌, ◌⊎◌, Option, Some, None, ◌<◌, Bool, true, false}
use Rattle.std.specs.List.{All, Contains}
use Rattle.std.specs.List.Sorted.{IsNonDecreasing}
use Rattle.mh_grammar.specs.Plain.{production_count}
use Rattle.mh_tables_core.specs.Table.{TableData, fallback_of}
use Rattle.mh_tables.specs.declared.relative_runs.RelativeRun.{RelativeRun}
use Rattle.mh_tables_core.specs.Limits.{max_reductions}
use Rattle.mh_tables_core.specs.Run.{Reduces, run_move_of, top_of, reduce, reduction, reductions}
use Rattle.mh_tables_core.specs.Halting.{IsBeginning, IsLook, RunLoops, NeverLoops, IsOptionBefore, IsFirstLoop, look_list, beginning}

-- If the result is true, a reduction was made; otherwise the next move is not a reduction, and the stack is unchanged.
abbrev pub IsReduceOnceResult : TableData → List ℕ → List ℕ → List ℕ → Bool → Type 0
IsReduceOnceResult t left old new true = reduction t left old ≡ Some new
IsReduceOnceResult t left old new false = (reduction t left old ≡ None) × (new ≡ old)

-- The production that is reduced next, if the next move is a reduction.
abbrev pub ReducesNext : TableData → List ℕ → List ℕ → Option ℕ → Type 0
ReducesNext t left stack None = (p : ℕ) → run_move_of t (top_of stack) left ≡ Reduces p → ⊥
ReducesNext t left stack (Some p) = (run_move_of t (top_of stack) left ≡ Reduces p) × (length t.grammar.starts ≤ p) × (p < production_count t.grammar)

-- The reduction keeps the first `kept` states of the stack and pushes `target`.
pub record IsReductionResult (t : TableData) (p : ℕ) (stack : List ℕ) (kept target : ℕ) : Type 0 where
  pub is : reduce t p stack ≡ Some (take kept stack ++ target ∷ [])
  pub keeps_some : 0 < kept
  pub within : kept ≤ length stack
  pub known : target < length t.states

-- The result of a reduction, if it finds its states and its goto.
abbrev pub StackReduced : TableData → ℕ → List ℕ → Option (ℕ × ℕ) → Type 0
StackReduced t p stack None = reduce t p stack ≡ None
StackReduced t p stack (Some (kept, target)) = IsReductionResult t p stack kept target

-- The relative run makes exactly `count` reductions, at most `most`, and leaves this stack.
pub record StopsWithin (t : TableData) (below : Option ℕ) (s : ℕ) (look : Option ℕ) (most : ℕ) (stack : List ℕ) (count : ℕ) : Type 0 where
  pub few : count ≤ most
  pub stack_is : reductions t (look_list look) count (beginning below s) ≡ Some stack
  pub stops : reduction t (look_list look) stack ≡ None

-- The relative run stops after the returned number of reductions, at most `most`; or it makes more, and the stack is
-- that after `most` + 1 reductions.
abbrev pub IsReducedWithinResult : TableData → Option ℕ → ℕ → Option ℕ → ℕ → List ℕ → Option ℕ → Type 0
IsReducedWithinResult t below s look most stack None = reductions t (look_list look) (suc most) (beginning below s) ≡ Some stack
IsReducedWithinResult t below s look most stack (Some count) = StopsWithin t below s look most stack count

-- The relative run makes at most `max_reductions` reductions, and leaves this stack.
pub record StopsWithinLimit (t : TableData) (below : Option ℕ) (s : ℕ) (look : Option ℕ) (stack : List ℕ) : Type 0 where
  pub count : ℕ
  pub few : count ≤ max_reductions
  pub stack_is : reductions t (look_list look) count (beginning below s) ≡ Some stack
  pub stops : reduction t (look_list look) stack ≡ None

-- If the result is true, the relative run makes more than `max_reductions` reductions; otherwise it leaves this stack.
abbrev pub LoopsOrStops : TableData → Option ℕ → ℕ → Option ℕ → List ℕ → Bool → Type 0
LoopsOrStops t below s look stack true = RunLoops t below s look
LoopsOrStops t below s look stack false = StopsWithinLimit t below s look stack

-- If the result is true, the relative run loops; otherwise it does not.
abbrev pub LoopsOrNot : TableData → Option ℕ → ℕ → Option ℕ → Bool → Type 0
LoopsOrNot t below s look true = RunLoops t below s look
LoopsOrNot t below s look false = RunLoops t below s look → ⊥

-- Without a next token the relative run stops in the state `top`, which has no default.
pub record StopsWithoutDefault (t : TableData) (below : Option ℕ) (s top : ℕ) : Type 0 where
  pub stack : List ℕ
  pub stops : StopsWithinLimit t below s None stack
  pub top_is : top ≡ top_of stack
  pub no_default : fallback_of t top ≡ None

-- The first look with which the relative run loops.
pub record IsFirstLoopingLook (t : TableData) (below : Option ℕ) (s : ℕ) (look : Option ℕ) : Type 0 where
  pub known : IsLook t look
  pub loops : RunLoops t below s look
  pub no_earlier_look : (look' : Option ℕ) → IsOptionBefore look' look → IsLook t look' → RunLoops t below s look' → ⊥

-- The first look with which a relative run with this beginning loops, if there is one.
abbrev pub LookFound : TableData → Option ℕ → ℕ → Option (Option ℕ) → Type 0
LookFound t below s None = NeverLoops t below s
LookFound t below s (Some look) = IsFirstLoopingLook t below s look

-- The first token with which the relative run loops, if there is one.
abbrev pub TokenFound : TableData → Option ℕ → ℕ → Option ℕ → Type 0
TokenFound t below s None = NeverLoops t below s
TokenFound t below s (Some z) = IsFirstLoopingLook t below s (Some z)

-- s is the first state that begins a relative run that loops, above the state `below` or alone as a start state; `look`
-- is the first look with which it does.
pub record IsFirstLoopingState (t : TableData) (below : Option ℕ) (s : ℕ) (look : Option ℕ) : Type 0 where
  pub begins : IsBeginning t below s
  pub first : IsFirstLoopingLook t below s look
  pub no_earlier_state : (s' : ℕ) → s' < s → IsBeginning t below s' → NeverLoops t below s'

-- No relative run above the state `below` loops.
abbrev pub NoneLoopsAbove : TableData → Option ℕ → Type 0
NoneLoopsAbove t below = (s : ℕ) → IsBeginning t below s → NeverLoops t below s

-- The first relative run above the state `below` that loops, if there is one.
abbrev pub StateFound : TableData → Option ℕ → Option RelativeRun → Type 0
StateFound t below None = NoneLoopsAbove t below
StateFound t below (Some run) = (run.below ≡ below) × IsFirstLoopingState t below run.state run.token

-- The target u of an edge of state r was added to the list, or no relative run that begins with u above r loops.
pub record AddsTarget (t : TableData) (r u : ℕ) (old new : List ℕ) : Type 0 where
  pub each : All (IsBeginning t (Some r)) old → All (IsBeginning t (Some r)) new
  pub kept : (v : ℕ) → Contains old v → Contains new v
  pub added_or_halts : Contains new u ⊎ NeverLoops t (Some r) u

-- The list holds, in the order of states, the targets of edges of state r with which relative runs above r have to be
-- tried.
pub record AreTargets (t : TableData) (r : ℕ) (targets : List ℕ) : Type 0 where
  pub each : All (IsBeginning t (Some r)) targets
  pub all : (u : ℕ) → IsBeginning t (Some r) u → Contains targets u ⊎ NeverLoops t (Some r) u
  pub known : All (λ u. u < length t.states) targets
  pub order : IsNonDecreasing targets

-- No relative run loops.
abbrev pub NoneLoops : TableData → Type 0
NoneLoops t = (below : Option ℕ) (s : ℕ) → IsBeginning t below s → NeverLoops t below s

-- The result of the whole test is the first relative run that loops, or `None` if no relative run loops.
abbrev pub IsTestResult : TableData → Option RelativeRun → Type 0
IsTestResult t None = NoneLoops t
IsTestResult t (Some run) = IsFirstLoop t run.below run.state run.token
