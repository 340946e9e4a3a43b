-- A sink that is not used stays as it is: after any result it may be written to.
use Rattle.std.specs.Prelude.{Result, Ok, Err}
use Rattle.mh_top_drive.specs.code.MayWriteAfter.{MayWriteAfter, MayWriteAfterStop}
use Rattle.mh_top_drive.specs.declared.stop.Stop.{Stop}
use Rattle.mh_top_drive.specs.declared.stop.Stop.TheVariants.{Halted, ShelfFailed, InputFailed, WriteFailed, OutOfMemory}

pub after_stop : (May : Type 0) (stop : Stop) → May → MayWriteAfterStop May stop
after_stop May (Halted cause) may = may
after_stop May (ShelfFailed name) may = may
after_stop May InputFailed may = may
after_stop May WriteFailed may = tt
after_stop May OutOfMemory may = may

pub after_result : {T : Type 0} (May : Type 0) (result : Result T Stop) → May → MayWriteAfter May result
after_result May (Ok x) may = may
after_result May (Err stop) may = after_stop May stop may
