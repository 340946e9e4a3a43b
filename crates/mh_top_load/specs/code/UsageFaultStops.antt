-- The reason to stop the work for a usage fault.
use Rattle.std.specs.Prelude.{◌≡◌}
use Rattle.mh_opts.specs.declared.order.UsageFault.{UsageFault}
use Rattle.mh_opts.specs.declared.order.UsageFault.TheVariants as words
use Rattle.mh_top_drive.specs.code.StageCalls.{StopsWith}
use Rattle.mh_top_drive.specs.declared.stop.Cause.TheVariants.{Misused}
use Rattle.mh_top_drive.specs.declared.stop.Stop.{Stop}
use Rattle.mh_top_drive.specs.declared.stop.Stop.TheVariants.{OutOfMemory}
use Rattle.mh_top_load.specs.Texts.{usage_line}

-- The stop for a usage fault: the misuse with its line, or lack of memory.
abbrev pub IsStopForUsageFault : UsageFault → Stop → Type 0
IsStopForUsageFault words.Memory stop = stop ≡ OutOfMemory
IsStopForUsageFault fault stop = StopsWith (Misused (usage_line fault)) stop
