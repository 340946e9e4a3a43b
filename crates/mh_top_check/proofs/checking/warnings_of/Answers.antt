use Rattle.std.proofs.Common.{map, subst}
use Rattle.std.specs.Prelude.{IfOk}
use Rattle.mh_join_names.specs.Faults.{meanings}
use Rattle.mh_lint.specs.Built.{Built}
use Rattle.mh_lint.specs.Warnings.{AreWarningLines}
use Rattle.mh_lint_faults.specs.Stages.{modules_of}
use Rattle.mh_lint_findings.specs.Lines.{lines_of}
use Rattle.mh_lint_findings.specs.declared.findings.GrammarFile.{GrammarFile}
use Rattle.mh_top_check.proofs.checking.warnings_of.Goals as goal

pub returns-clause-lines : goal.returns-clause-lines
returns-clause-lines g c = λ prelude s are.
    subst (λ (b : Built). IfOk c.warnings.result (λ found. AreWarningLines (map (λ (f : GrammarFile). f.name) c.args.named.now) s b (meanings prelude (modules_of s.found)) (lines_of found.items)))
    (λ i. record { automaton = c.args.prepared.now.tabled.automaton; table = c.table.ensures.table i; conflicts = c.as_slice.ensures i }) (c.warnings.ensures.lines prelude s are)
