-- The contract of the call that does all of the work but its last line on err.
use Rattle.std.specs.Prelude.{◌≡◌, ◌⊎◌, List, None, Some, Result, Ok, Err}
use Rattle.std.specs.Io.KnownBytes.{Appends}
use Rattle.mh_outside.specs.Faults.{HasRisen}
use Rattle.mh_grammar.specs.Text.{Text}
use Rattle.mh_top_drive.specs.declared.stop.Stop.{Stop}
use Rattle.mh_top_drive.specs.declared.stop.Stop.TheVariants.{Halted, ShelfFailed, InputFailed, WriteFailed, OutOfMemory}
use Rattle.mh_top_claims.specs.Run.{AfterWarnings, NoWriteFailed, OutWriteFailed, WarningWriteFailed, DoneSoFar, ModeEnded, InputReadFailed, IsNextToRead, KeepsFaultCounts, LeavesInputAndOut, World}

-- The work that was done before its last line, by the reason for which it stopped.
abbrev pub IsWorkBeforeLastLine : List Text → World → World → Result (Unit {0}) Stop → Type 0
IsWorkBeforeLastLine words before now (Ok _) = KeepsFaultCounts before now × AfterWarnings words before (ModeEnded before now None) (Appends before.err now.err)
IsWorkBeforeLastLine words before now (Err (Halted cause)) = KeepsFaultCounts before now × AfterWarnings words before (ModeEnded before now (Some cause)) (Appends before.err now.err)
IsWorkBeforeLastLine words before now (Err (ShelfFailed name)) = HasRisen before.shelf_faults now.shelf_faults × NoWriteFailed before now × ((err_text : Text) × IsNextToRead words before.files err_text name × LeavesInputAndOut before now × Appends before.err now.err err_text)
IsWorkBeforeLastLine words before now (Err InputFailed) = HasRisen before.input_faults now.input_faults × NoWriteFailed before now × AfterWarnings words before (InputReadFailed before now) (Appends before.err now.err)
IsWorkBeforeLastLine words before now (Err WriteFailed) =
    (HasRisen before.err_faults now.err_faults × WarningWriteFailed words before now) ⊎ (HasRisen before.out_faults now.out_faults × (now.input_faults ≡ before.input_faults) × (now.err_faults ≡ before.err_faults) × AfterWarnings words before (OutWriteFailed before now) (Appends before.err now.err))
IsWorkBeforeLastLine words before now (Err OutOfMemory) = NoWriteFailed before now × (now.input_faults ≡ before.input_faults) × DoneSoFar words before now (Appends before.err now.err)
