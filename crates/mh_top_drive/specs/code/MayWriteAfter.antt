-- Whether a sink may still be written to after a part of the work. `May` says that the sink may be written to as long
-- as no write has failed.
use Rattle.std.specs.Prelude.{Result, Ok, Err, ⊤}
use Rattle.mh_top_drive.specs.declared.stop.Stop.{Stop}
use Rattle.mh_top_drive.specs.declared.stop.Stop.TheVariants.{WriteFailed}

-- The work stopped for this reason.
abbrev pub MayWriteAfterStop : Type 0 → Stop → Type 0
MayWriteAfterStop May WriteFailed = ⊤
MayWriteAfterStop May _ = May

abbrev pub MayWriteAfter : {T : Type 0} → Type 0 → Result T Stop → Type 0
MayWriteAfter May (Ok _) = May
MayWriteAfter May (Err stop) = MayWriteAfterStop May stop
