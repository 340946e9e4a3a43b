use Rattle.std.proofs.Common.{◌<◌, ◌≤◌, ap, arith, get_or, length, sym, ◌∙◌}
use Rattle.mh_join_names.specs.Names.{marks_public}
use Rattle.mh_join_names.specs.code.SymbolTables.{meanings_in}
use Rattle.mh_lint_findings.specs.Lines.{lines_of}
use Rattle.mh_rules.specs.declared.modules.Module.{Module}
use Rattle.mh_lint_faults.proofs.FileLines.{file_written, files_end}
use Rattle.mh_lint_faults.proofs.front.put_all_file_faults.Goals as goal

pub put_file_faults-requires-clause-public : goal.put_file_faults-requires-clause-public
put_file_faults-requires-clause-public c = λ x. c.in_ok-file.ensures.public x ∙ ap (λ (m : Module). marks_public m.rules x) (sym c.in_ok-file.ensures.contents)

pub loop-at-preserved : goal.loop-at-preserved
loop-at-preserved c = λ found split.
    let lt : c.loop-at.at < length c.args.read.now.modules.items = (let a = c.loop-at-test.true in let b = ap length c.deref-contents-items.ensures.value in omega (arith, a, b)) in
    let made = c.in_ok-file.ensures.contents ∙ c.contents-item.is ∙ ap (λ xs. get_or xs c.loop-at.at c.contents-item.result) c.deref-contents-items.ensures.value in
    let names = c.as_slice.ensures ∙ c.index.ensures in
    file_written (meanings_in c.args.names.now) found c.args.read.now split c.loop-at.at c.in_ok-file.file.number c.in_ok-file.file.module.now c.as_slice.result.now c.contents-item.result c.index.result.now _ (lines_of c.loop-at.findings.items) (lines_of c.put_file_faults.new.findings.items) lt c.in_ok-file.ensures.number made names c.in_ok-put_file_faults.ensures (c.loop-at.invariant found split)

pub returns : goal.returns
returns c = λ found split.
    let le : length c.args.read.now.modules.items ≤ c.loop-at.at = (let a = c.loop-at-test.false in let b = ap length c.deref-contents-items.ensures.value in omega (arith, a, b)) in
    files_end (meanings_in c.args.names.now) found c.args.read.now split c.loop-at.at _ (lines_of c.loop-at.findings.items) le (c.loop-at.invariant found split)
