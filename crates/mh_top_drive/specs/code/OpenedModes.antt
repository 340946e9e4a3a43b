-- The contract of running a mode, which was opened (made ready to run) or failed to open.
use Rattle.std.specs.Prelude.{◌≡◌, Option, Result, Ok, Err, ⊤}
use Rattle.mh_grammar.specs.Text.{Text}
use Rattle.mh_top_drive.specs.code.ModeCalls.{ModeRan}
use Rattle.mh_top_drive.specs.ModeBehavior.{ModeBehavior}
use Rattle.mh_top_drive.specs.declared.stop.Stop.{Stop}
use Rattle.mh_top_drive.specs.declared.stop.Stop.TheVariants.{InputFailed, WriteFailed}

-- The value of an opened mode represents some plan. If no mode was opened, the reason is no fault of the input or of
-- out.
abbrev pub IsOpened : {M State : Type 0} → (M → State → Type 0) → Result M Stop → Type 0
IsOpened {State = State} StandsFor (Ok mode) = (plan : State) × StandsFor mode plan
IsOpened StandsFor (Err InputFailed) = ⊥
IsOpened StandsFor (Err WriteFailed) = ⊥
IsOpened StandsFor (Err _) = ⊤

-- The opened mode ran. If no mode was opened, the input and out are unchanged.
abbrev pub OpenedModeRan : {M State : Type 0} → ModeBehavior State → (M → State → Type 0) → Result M Stop → Option Text → Option Text → Option Text → Option Text → Result (Unit {0}) Stop → Type 0
OpenedModeRan {State = State} behavior StandsFor (Ok mode) in0 in1 out0 out1 result = (plan : State) → StandsFor mode plan → ModeRan behavior plan in0 in1 out0 out1 result
OpenedModeRan behavior StandsFor (Err stop) in0 in1 out0 out1 result = (result ≡ Err stop) × (in1 ≡ in0) × (out1 ≡ out0)
