-- The output of `--check`: the lines on the grammar files (this project's own).
use Rattle.std.specs.Prelude.{◌≡◌, Bool, true, false, List, [], ◌∷◌, Option, None, Some, if◌then◌else◌}
use Rattle.mh_grammar.specs.Text.{Text}
use Rattle.mh_lint_findings.specs.declared.findings.GrammarFile.{GrammarFile}
use Rattle.mh_lint_findings.specs.Lines.{Line, lines_text}
use Rattle.mh_top_drive.specs.declared.stop.Cause.{Cause}
use Rattle.mh_top_drive.specs.declared.stop.Cause.TheVariants.{Refused}

-- The cause of the end: a refusal without a line on err if the files have faults, and under `--strict` if there is any
-- line.
abbrev pub cause_of_findings : Bool → Bool → List Line → Option Cause
cause_of_findings strict true lines = Some (Refused [])
cause_of_findings strict false [] = None
cause_of_findings strict false (x ∷ xs) = if strict then Some (Refused []) else None

-- The lines on these files are written.
pub record WritesFindings (found : List GrammarFile) (strict faulty : Bool) (lines : List Line) (cause : Option Cause) (out : Text) : Type 0 where
  pub cause_is : cause ≡ cause_of_findings strict faulty lines
  pub written : out ≡ lines_text found lines
