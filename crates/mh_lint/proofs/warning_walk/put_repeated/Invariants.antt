use Rattle.std.proofs.Common.{map, take}
use Rattle.std.specs.List.{enumerate_from}
use Rattle.mh_lint_findings.specs.LinesInOrder.{AreInOrder}
use Rattle.mh_lint_findings.specs.code.AppendedLines.{AppendsLines}
use Rattle.mh_lint_findings.specs.declared.findings.GrammarFile.{GrammarFile}
use Rattle.mh_lint.specs.Warnings.{AreNameLines}
use Rattle.mh_lint.proofs.AreNameLines.{HasFirst}
use Rattle.mh_lint.proofs.warning_walk.put_repeated.Given as goal

abbrev pub invariant-loop-number : goal.invariant-loop-number
invariant-loop-number l = record {
  seen : HasFirst (map (λ (f : GrammarFile). f.name) l.named) l.number l.seen;
  lines : AppendsLines (AreInOrder (AreNameLines (map (λ (f : GrammarFile). f.name) l.named)) (take l.number (enumerate_from 0 (map (λ (f : GrammarFile). f.name) l.named)))) l.fn.findings.items l.findings.items;
}
