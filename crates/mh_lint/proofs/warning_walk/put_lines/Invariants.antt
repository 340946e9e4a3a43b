use Rattle.std.proofs.Common.{◌≡◌, take}
use Rattle.std.specs.List.{enumerate_from}
use Rattle.mh_lint_findings.specs.LinesInOrder.{AreInOrder}
use Rattle.mh_lint_findings.specs.code.AppendedLines.{AppendsLines}
use Rattle.mh_lint.specs.Warnings.{AreLinesOfFile}
use Rattle.mh_lint.specs.code.MentionUses.{Checked, IsBeforeFile, IsShownBy}
use Rattle.mh_lint.proofs.warning_walk.put_lines.Given as goal

abbrev pub invariant-loop-at : goal.invariant-loop-at
invariant-loop-at l = (c : Checked) → c.file ≡ 0 → IsShownBy c l.files l.grammar l.shown → IsBeforeFile (record c { file = l.at }) l.files l.at l.uses × AppendsLines (AreInOrder (AreLinesOfFile c.stages c.built c.meanings) (take l.at (enumerate_from 0 c.stages.found))) l.fn.findings.items l.findings.items
