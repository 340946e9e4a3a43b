-- The stage that makes the grammar of the modules.
use Rattle.std.specs.Prelude.{◌≡◌, Bool, List}
use Rattle.mh_grammar.specs.declared.types.Grammar.{Grammar}
use Rattle.mh_rules.specs.declared.modules.Module.{Module}
use Rattle.mh_front.specs.declared.fault.GrammarFault.{GrammarFault}
use Rattle.mh_front.specs.Stages.{IsGrammarOfModules, IsGrammarFault}
use Rattle.mh_top_drive.specs.StageResults.{StageResult, Go, Halt}
use Rattle.mh_top_load.specs.Texts.{refusal}
use Rattle.mh_top_drive.specs.declared.stop.Cause.TheVariants.{Refused}

-- The grammar of the modules, with or without the prelude; or, exactly if the modules have a fault, the refusal with
-- the line of the first fault.
abbrev pub IsGrammarStage : Bool → List Module → StageResult Grammar → Type 0
IsGrammarStage prelude modules (Go g) = IsGrammarOfModules prelude modules g
IsGrammarStage prelude modules (Halt cause) = (fault : GrammarFault) × IsGrammarFault prelude modules fault × (cause ≡ Refused (refusal fault))
