use Rattle.std.proofs.Common.{◌++◌, ap, flat_map, ◌∙◌}
use Rattle.std.specs.List.{enumerate_from}
use Rattle.mh_join_names.specs.code.SymbolTables.{meanings_in}
use Rattle.mh_lint_findings.specs.Lines.{lines_of}
use Rattle.mh_lint_faults.specs.FaultLines.{grammar_lines, name_lines}
use Rattle.mh_lint_faults.proofs.front.join_findings.Goals as goal

pub returns : goal.returns
returns c = λ found split.
    let w = meanings_in c.args.names.now in
    c.in_ok-put_grammar_faults.ensures
    ∙ ap (λ ls. ls ++ grammar_lines w) (c.in_ok-put_all_file_faults.ensures found split ∙ ap (λ fs. lines_of fs ++ flat_map (name_lines w) (enumerate_from 0 found)) c.new-findings.ensures.items)
