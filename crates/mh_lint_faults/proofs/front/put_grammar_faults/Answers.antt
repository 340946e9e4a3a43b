use Rattle.std.proofs.lemmas.Result.{on_ok_weaker}
use Rattle.mh_join_names.specs.code.SymbolTables.{meanings_in}
use Rattle.mh_lint_findings.specs.Lines.{lines_of}
use Rattle.mh_lint_faults.proofs.FileLines.{grammar_written}
use Rattle.mh_lint_faults.proofs.front.put_grammar_faults.Goals as goal

pub returns : goal.returns
returns c =
    on_ok_weaker c.put_if-2.result
    (λ written. grammar_written (meanings_in c.args.names.now) c.is_empty.result (lines_of c.args.findings.now.items) (lines_of c.put_if.new.findings.items) (lines_of c.put_if-2.new.findings.items) c.is_empty.ensures c.in_ok-put_if.ensures (rw c.len-count.ensures at written))
    c.put_if-2.ensures
