-- Grammar files: the module that the bytes of a file spell (Menhir manual).
use Rattle.std.specs.Prelude.{◌≡◌, ℕ}
use Rattle.mh_rules.specs.declared.modules.Module.{Module}
use Rattle.mh_reader_parser.specs.Spelling.{Spells}
use Rattle.mh_reader_parser.specs.Faults.{IsSyntaxLine}
use Rattle.mh_grammar.specs.Text.{Text}
use Rattle.mh_top_drive.specs.StageResults.{StageResult, Go, Halt}
use Rattle.mh_top_drive.specs.declared.stop.Cause.{Cause}
use Rattle.mh_top_drive.specs.declared.stop.Cause.TheVariants.{Refused}
use Rattle.mh_top_load.specs.Texts.{syntax_error}

-- The bytes spell no module, and the cause names the line of the syntax fault.
pub record IsSyntaxFault (name bytes : Text) (cause : Cause) : Type 0 where
  pub line : ℕ
  pub stops : IsSyntaxLine bytes line
  pub spelled : (m : Module) → Spells bytes m → ⊥
  pub cause_is : cause ≡ Refused (syntax_error name line)

-- The module that the bytes of a grammar file spell, or the refusal of a file that spells none.
abbrev pub IsModule : Text → Text → StageResult Module → Type 0
IsModule name bytes (Go m) = Spells bytes m
IsModule name bytes (Halt cause) = IsSyntaxFault name bytes cause
