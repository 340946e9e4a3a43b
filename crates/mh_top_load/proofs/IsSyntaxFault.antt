-- Proves that the code refuses a grammar file exactly as the definition of the stage says.
use Rattle.std.proofs.Common.{ℕ}
use Rattle.std.specs.Prelude.{Err}
use Rattle.mh_rules.specs.declared.modules.Module.{Module}
use Rattle.mh_reader_parser.specs.Spelling.{Spells}
use Rattle.mh_reader_parser.specs.Faults.{IsSyntaxLine}
use Rattle.mh_grammar.specs.Text.{Text}
use Rattle.mh_top_drive.specs.code.StageCalls.{StageGives, StopsWith}
use Rattle.mh_top_drive.specs.declared.stop.Cause.TheVariants.{Refused}
use Rattle.mh_top_drive.specs.declared.stop.Stop.{Stop}
use Rattle.mh_top_drive.specs.declared.stop.Stop.TheVariants.{Halted, ShelfFailed, InputFailed, WriteFailed, OutOfMemory}
use Rattle.mh_top_load.specs.GrammarFile.{IsModule}
use Rattle.mh_top_load.specs.Texts.{syntax_error}

pub misspelled : (name bytes : Text) (line : ℕ) (stop : Stop) → IsSyntaxLine bytes line → ((m : Module) → Spells bytes m → ⊥) → StopsWith (Refused (syntax_error name line)) stop → StageGives {A = Module} (IsModule name bytes) (Err stop)
misspelled name bytes line (Halted cause) stops spelled halts = record { line = line; stops = stops; spelled = spelled; cause_is = halts }
misspelled name bytes line OutOfMemory stops spelled halts = tt
misspelled name bytes line (ShelfFailed other) stops spelled halts = absurd halts
misspelled name bytes line InputFailed stops spelled halts = absurd halts
misspelled name bytes line WriteFailed stops spelled halts = absurd halts
