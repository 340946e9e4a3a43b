-- The bytes of a text of a finding, by what it is made of.
use Rattle.std.specs.Prelude.{◌++◌, List, ℕ}
use Rattle.mh_lint_findings.specs.declared.finding_text.Parts.{Parts}
use Rattle.mh_lint_findings.specs.declared.finding_text.Parts.TheVariants as parts

abbrev pub parts_text : Parts → List ℕ
parts_text (parts.Lent words name) = words.now ++ name.now
parts_text (parts.Own bytes) = bytes
