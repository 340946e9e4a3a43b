-- The results of the functions that make reductions.
use Rattle.std.specs.Prelude.{◌≡◌, ℕ, List, [], ◌∷◌, Option, Some, None, ◌<◌, ◌≤◌, ◌-◌, length, slice_index}
use Rattle.mh_grammar.specs.Plain.{rhs_of, production_count}
use Rattle.mh_tables_core.specs.Table.{TableData}
use Rattle.mh_tables_core.specs.Facts.{HasGoto}
use Rattle.mh_tables_core.specs.Run.{Config, RunMove, Reduces, run_move_of, top_of, after, IsRunStack}
use Rattle.mh_tables_core.specs.Halting.{look_list}
use Rattle.mh_run.specs.code.Observers.{Observer, observed_after}

-- The state on top of the stack after the right side of production p has been popped.
abbrev pub below_of : TableData → ℕ → List ℕ → ℕ
below_of t p stack = slice_index stack (length stack - length (rhs_of t.grammar p) - 1)

-- The production exists, the stack has the states of its right side, and there is a goto on its left side.
pub record CanReduce (t : TableData) (p : ℕ) (stack : List ℕ) : Type 0 where
  pub ordinary : length t.grammar.starts ≤ p
  pub known : p < production_count t.grammar
  pub states : length (rhs_of t.grammar p) < length stack
  pub below : below_of t p stack < length t.states
  pub goto : HasGoto t (below_of t p stack) p

-- The remaining tokens: the next token and the rest, or none.
abbrev pub left_with : Option ℕ → List ℕ → List ℕ
left_with None rest = []
left_with (Some z) rest = z ∷ rest

-- The configuration with this stack, after `read` shifts.
abbrev pub config_with : List ℕ → ℕ → Option ℕ → List ℕ → Config
config_with stack read look rest = record { stack = stack; read = read; left = left_with look rest }

-- From the old stack and value, `count` steps lead to the new stack and value, for all tokens after the next one.
pub record StepsLead {S : Type 0} (f : Observer S) (t : TableData) (look : Option ℕ) (count : ℕ) (old new : List ℕ) (before now : S) : Type 0 where
  pub reaches : (read : ℕ) (rest : List ℕ) → after t count (config_with old read look rest) ≡ config_with new read look rest
  pub value : (read : ℕ) (rest : List ℕ) → observed_after f t count (config_with old read look rest) before ≡ now

-- The stack and the value after all reductions up to the next other move, and that move.
pub record SettlesTo {S : Type 0} (f : Observer S) (t : TableData) (look : Option ℕ) (old new : List ℕ) (before now : S) (move : RunMove) : Type 0 where
  pub count : ℕ
  pub leads : StepsLead f t look count old new before now
  pub run : IsRunStack t new
  pub next : run_move_of t (top_of new) (look_list look) ≡ move
  pub settled : (p : ℕ) → move ≡ Reduces p → ⊥
