-- The definitions of several steps from a position.
use Rattle.std.specs.Prelude.{ℕ, zero, suc}
use Rattle.mh_engine.specs.Positions.{Position}
use Rattle.mh_engine.specs.Phases.{phase_of, CanResume}
use Rattle.mh_engine.specs.Steps.{resumed}

-- The position after n steps.
abbrev pub after_steps : ℕ → Position → Position
after_steps zero c = c
after_steps (suc n) c = after_steps n (resumed c)

-- Each of the next n steps can be made.
abbrev pub CanMakeSteps : ℕ → Position → Type 0
CanMakeSteps zero c = Unit {0}
CanMakeSteps (suc n) c = CanResume (phase_of c) × CanMakeSteps n (resumed c)
