-- The lines that report findings (this project's own).
use Rattle.std.specs.Prelude.{◌++◌, List, [], ◌∷◌, map}
use Rattle.std.specs.List.{flat_map}
use Rattle.mh_grammar.specs.Text.{Text}
use Rattle.mh_lint_findings.specs.declared.findings.Finding.{Finding}
use Rattle.mh_lint_findings.specs.declared.findings.GrammarFile.{GrammarFile}
use Rattle.mh_lint_findings.specs.declared.findings.Position.{Position}
use Rattle.mh_lint_findings.specs.Positions.{position_text}

-- A line: its position and its text.
pub record Line : Type 0 where
  pub at : Position
  pub text : Text

abbrev pub line : Position → Text → Line
line at text = record { at = at; text = text }

-- The line of a finding.
abbrev pub line_of : Finding → Line
line_of f = line f.at f.text

abbrev pub lines_of : List Finding → List Line
lines_of found = map line_of found

-- A line as it is written: its position, its text and an LF.
abbrev pub line_text : List GrammarFile → Line → Text
line_text files x = position_text files x.at ++ (x.text ++ 10 ∷ [])

-- Lines as they are written, in order.
abbrev pub lines_text : List GrammarFile → List Line → Text
lines_text files lines = flat_map (line_text files) lines
