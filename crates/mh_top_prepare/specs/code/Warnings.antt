-- The contract of the call that writes the warnings.
use Rattle.std.specs.Prelude.{◌≡◌, Option, Result, Ok, Err}
use Rattle.std.specs.Io.KnownBytes.{Appends}
use Rattle.mh_outside.specs.Sink.{AppendsPrefix}
use Rattle.mh_grammar.specs.Text.{Text}
use Rattle.mh_top_drive.specs.declared.stop.Stop.{Stop}
use Rattle.mh_top_drive.specs.declared.stop.Stop.TheVariants.{WriteFailed, OutOfMemory}

-- The warnings were written whole; or a write failed after a prefix; or memory ran out before anything was written.
abbrev pub Warned : Text → Option Text → Option Text → Result (Unit {0}) Stop → Type 0
Warned text err0 err1 (Ok _) = Appends err0 err1 text
Warned text err0 err1 (Err WriteFailed) = AppendsPrefix err0 err1 text
Warned text err0 err1 (Err OutOfMemory) = err1 ≡ err0
Warned text err0 err1 (Err _) = ⊥
