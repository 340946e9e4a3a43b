-- The reason to stop the work for a fault of the modules.
use Rattle.std.specs.Prelude.{◌≡◌}
use Rattle.mh_front.specs.declared.fault.GrammarFault.{GrammarFault}
use Rattle.mh_front.specs.declared.fault.GrammarFault.TheVariants as modules
use Rattle.mh_top_drive.specs.code.StageCalls.{StopsWith}
use Rattle.mh_top_drive.specs.declared.stop.Cause.TheVariants.{Refused}
use Rattle.mh_top_drive.specs.declared.stop.Stop.{Stop}
use Rattle.mh_top_drive.specs.declared.stop.Stop.TheVariants.{OutOfMemory}
use Rattle.mh_top_load.specs.Texts.{refusal}

-- The stop for a fault of the modules: the refusal with its line, or lack of memory.
abbrev pub IsStopForGrammarFault : GrammarFault → Stop → Type 0
IsStopForGrammarFault modules.Memory stop = stop ≡ OutOfMemory
IsStopForGrammarFault fault stop = StopsWith (Refused (refusal fault)) stop
