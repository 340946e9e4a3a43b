-- Lines that a call appends.
use Rattle.std.specs.Prelude.{◌≡◌, ◌++◌, List}
use Rattle.mh_lint_findings.specs.Lines.{Line, lines_of}
use Rattle.mh_lint_findings.specs.declared.findings.Finding.{Finding}

-- Findings with these lines are appended.
pub record AppendsLines (Are : List Line → Type 0) (old new : List Finding) : Type 0 where
  pub lines : List Line
  pub are : Are lines
  pub is : lines_of new ≡ lines_of old ++ lines
