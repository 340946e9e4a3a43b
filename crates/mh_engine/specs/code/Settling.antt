-- Definitions of sequences of steps, and of positions at which no reduction comes next.
use Rattle.std.specs.Prelude.{◌≡◌, ◌≤◌, ℕ, true, false, Option}
use Rattle.mh_tables_core.specs.Halting.{HaltingFacts, IsLook, look_list}
use Rattle.mh_engine.specs.Positions.{Position}
use Rattle.mh_engine.specs.Phases.{phase_of}
use Rattle.mh_engine.specs.code.ManySteps.{after_steps, CanMakeSteps}
use Rattle.mh_tables_core.specs.TooDeep.{too_deep}
use Rattle.mh_engine.specs.code.IsSound.{IsSound}
use Rattle.mh_engine.specs.declared.phase.Phase.TheVariants as phases

-- The facts that hold of every checkpoint: its position is sound, its table halts, and at most one known token is to
-- come.
pub record CheckpointFacts (c : Position) : Type 0 where
  pub sound : IsSound c
  pub halting : HaltingFacts c.table
  pub look : Option ℕ
  pub known : IsLook c.table look
  pub left_is : look_list look ≡ c.left

-- After n steps the run from `first` is at `now`, and no position on the way is too deep.
pub record StepsLeadTo (n : ℕ) (first now : Position) : Type 0 where
  pub can_step : CanMakeSteps n first
  pub reaches : after_steps n first ≡ now
  pub not_too_deep : (m : ℕ) → m ≤ n → too_deep (after_steps m first).pairs.trees ≡ false

-- Steps that shift no token lead from `first` to `now`, where no reduction comes next.
pub record SettlesTo (first now : Position) : Type 0 where
  pub steps : ℕ
  pub leads : StepsLeadTo steps first now
  pub left : now.left ≡ first.left
  pub not_refused : first.refused ≡ false → now.refused ≡ false
  pub settled : (s p : ℕ) → phase_of now ≡ phases.AboutToReduce s p → ⊥

-- After some steps the run from `first` is at a position that is too deep.
pub record SettlesTooDeep (first : Position) : Type 0 where
  pub steps : ℕ
  pub can_step : CanMakeSteps steps first
  pub deep : too_deep (after_steps steps first).pairs.trees ≡ true
