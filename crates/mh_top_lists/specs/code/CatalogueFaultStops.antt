-- The reason to stop the work for a fault of the catalogue, or of rebasing or examining a messages file.
use Rattle.std.specs.Prelude.{◌≡◌}
use Rattle.mh_catalogue.specs.declared.rows.CatalogueFault.{CatalogueFault}
use Rattle.mh_catalogue.specs.declared.rows.CatalogueFault.TheVariants.{TooLong, Memory}
use Rattle.mh_lint_messages.specs.declared.errors.ErrorsFault.{ErrorsFault}
use Rattle.mh_lint_messages.specs.declared.errors.ErrorsFault.TheVariants as examining
use Rattle.mh_rebase.specs.declared.rebasing.RebaseFault.{RebaseFault}
use Rattle.mh_rebase.specs.declared.rebasing.RebaseFault.TheVariants as rebasing
use Rattle.mh_top_plans.specs.Listing.{too_long}
use Rattle.mh_top_drive.specs.code.StageCalls.{StopsWith}
use Rattle.mh_top_drive.specs.declared.stop.Cause.TheVariants.{Refused}
use Rattle.mh_top_drive.specs.declared.stop.Stop.{Stop}
use Rattle.mh_top_drive.specs.declared.stop.Stop.TheVariants.{OutOfMemory}

-- The stop for a fault of the catalogue: the refusal with its line, or lack of memory.
abbrev pub IsStopForCatalogueFault : CatalogueFault → Stop → Type 0
IsStopForCatalogueFault (TooLong s) stop = StopsWith (Refused (too_long s)) stop
IsStopForCatalogueFault Memory stop = stop ≡ OutOfMemory

-- The same for a fault of rebasing.
abbrev pub IsStopForRebaseFault : RebaseFault → Stop → Type 0
IsStopForRebaseFault (rebasing.TooLong s) stop = StopsWith (Refused (too_long s)) stop
IsStopForRebaseFault rebasing.Memory stop = stop ≡ OutOfMemory

-- The same for a fault of examining a messages file.
abbrev pub IsStopForErrorsFault : ErrorsFault → Stop → Type 0
IsStopForErrorsFault (examining.TooLong s) stop = StopsWith (Refused (too_long s)) stop
IsStopForErrorsFault examining.Memory stop = stop ≡ OutOfMemory
