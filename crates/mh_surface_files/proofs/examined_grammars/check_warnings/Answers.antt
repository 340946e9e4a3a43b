use Rattle.std.proofs.Common.{List, true, subst, sym}
use Rattle.std.specs.List.{All}
use Rattle.mh_lint_findings.specs.Positions.{IsPositionWithin}
use Rattle.mh_lint_findings.specs.declared.findings.Finding.{Finding}
use Rattle.mh_surface_files.proofs.examined_grammars.check_warnings.Goals as goal

pub check_lines-result-requires-clause-within : goal.check_lines-result-requires-clause-within
check_lines-result-requires-clause-within g c =
    subst (λ (found : List Finding). All (λ (f : Finding). IsPositionWithin c.args.named.now f.at) found) (sym c.as_slice.ensures.value) (c.in_ok-found.ensures.within true c.requires.stages.0 c.requires.stages.1)
