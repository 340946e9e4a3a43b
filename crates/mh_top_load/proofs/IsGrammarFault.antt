-- Proves that the code refuses modules exactly as the definition of the stage says.
use Rattle.std.proofs.Common.{Bool, List, sym, subst}
use Rattle.std.specs.Prelude.{Err}
use Rattle.mh_grammar.specs.declared.types.Grammar.{Grammar}
use Rattle.mh_rules.specs.declared.modules.Module.{Module}
use Rattle.mh_front.specs.declared.fault.GrammarFault.{GrammarFault}
use Rattle.mh_front.specs.declared.fault.GrammarFault.TheVariants.{Join, Expand, Inline, Memory}
use Rattle.mh_front.specs.Stages.{IsGrammarFault, HasCauseOrMemory}
use Rattle.mh_top_load.specs.GrammarStage.{IsGrammarStage}
use Rattle.mh_top_load.specs.Texts.{refusal}
use Rattle.mh_top_load.specs.code.GrammarFaultStops.{IsStopForGrammarFault}
use Rattle.mh_top_drive.specs.code.StageCalls.{StageGives, StopsWith}
use Rattle.mh_top_drive.specs.declared.stop.Cause.TheVariants.{Refused}
use Rattle.mh_top_drive.specs.declared.stop.Stop.{Stop}
use Rattle.mh_top_drive.specs.declared.stop.Stop.TheVariants.{Halted, ShelfFailed, InputFailed, WriteFailed, OutOfMemory}

module _ (prelude : Bool) (modules : List Module) where
  abbrev Has : Stop → Type 0
  Has stop = StageGives {A = Grammar} (IsGrammarStage prelude modules) (Err stop)

  halts_so : (fault : GrammarFault) (stop : Stop) → IsGrammarFault prelude modules fault → StopsWith (Refused (refusal fault)) stop → Has stop
  halts_so fault (Halted cause) is halts = (fault, is, halts)
  halts_so fault OutOfMemory is halts = tt
  halts_so fault (ShelfFailed name) is halts = absurd halts
  halts_so fault InputFailed is halts = absurd halts
  halts_so fault WriteFailed is halts = absurd halts

  pub refused_so : (fault : GrammarFault) (stop : Stop) → HasCauseOrMemory (IsGrammarFault prelude modules) fault → IsStopForGrammarFault fault stop → Has stop
  refused_so (Join fault) stop is halts = halts_so (Join fault) stop is halts
  refused_so (Expand fault) stop is halts = halts_so (Expand fault) stop is halts
  refused_so (Inline fault) stop is halts = halts_so (Inline fault) stop is halts
  refused_so Memory stop is halts = subst Has (sym halts) tt
