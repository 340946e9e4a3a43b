-- Lemmas on the run of a mode, which was opened (made ready to run) or failed to open: the fault counts of the devices
-- that the run does not use are unchanged.
use Rattle.std.proofs.Common.{ℕ, Option, arith, refl}
use Rattle.std.specs.Prelude.{Result, Ok, Err}
use Rattle.mh_grammar.specs.Text.{Text}
use Rattle.mh_top_drive.specs.code.ModeCalls.{ModeRan, InputAndOutCounts, ModeShelfCounts}
use Rattle.mh_top_drive.specs.code.OpenedModes.{IsOpened}
use Rattle.mh_top_drive.specs.ModeBehavior.{ModeBehavior}
use Rattle.mh_top_drive.specs.declared.stop.Stop.{Stop}
use Rattle.mh_top_drive.specs.declared.stop.Stop.TheVariants.{Halted, ShelfFailed, InputFailed, WriteFailed, OutOfMemory}

-- If no mode was opened, unchanged fault counts of the input and of out meet the contract.
pub InputAndOutCounts-unopened : {M State : Type 0} (StandsFor : M → State → Type 0) (stop : Stop) (n m : ℕ) → IsOpened {M = M} StandsFor (Err stop) → InputAndOutCounts {T = Unit {0}} n n m m (Err stop)
InputAndOutCounts-unopened StandsFor (Halted cause) n m opened = (refl, refl)
InputAndOutCounts-unopened StandsFor (ShelfFailed name) n m opened = (refl, refl)
InputAndOutCounts-unopened StandsFor OutOfMemory n m opened = (refl, refl)
InputAndOutCounts-unopened StandsFor InputFailed n m opened = absurd opened
InputAndOutCounts-unopened StandsFor WriteFailed n m opened = absurd opened

-- A mode that reads no file leaves the fault count of the shelf (the device that gives the files) unchanged.
pub shelf_counts_of_mode : {State : Type 0} (behavior : ModeBehavior State) (plan : State) (in0 in1 out0 out1 : Option Text) (n : ℕ) (r : Result (Unit {0}) Stop) → ModeRan behavior plan in0 in1 out0 out1 r → ModeShelfCounts n n r
shelf_counts_of_mode behavior plan in0 in1 out0 out1 n (Ok u) ran = refl
shelf_counts_of_mode behavior plan in0 in1 out0 out1 n (Err (Halted cause)) ran = refl
shelf_counts_of_mode behavior plan in0 in1 out0 out1 n (Err (ShelfFailed name)) ran = absurd ran
shelf_counts_of_mode behavior plan in0 in1 out0 out1 n (Err InputFailed) ran = refl
shelf_counts_of_mode behavior plan in0 in1 out0 out1 n (Err WriteFailed) ran = refl
shelf_counts_of_mode behavior plan in0 in1 out0 out1 n (Err OutOfMemory) ran = omega arith
