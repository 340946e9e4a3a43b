use Rattle.std.proofs.Common.{arith, refl}
use Rattle.mh_lint.proofs.IsInFile.{all_files, more_files, shown_at}
use Rattle.mh_lint_findings.proofs.AppendsLines.{appends_none}
use Rattle.mh_lint.specs.Warnings.{AreLinesOfFile}
use Rattle.mh_lint.proofs.warning_walk.put_lines.Goals as goal

pub loop-at-init : goal.loop-at-init
loop-at-init c = λ cc zero shown. (
  c.in_ok-uses.ensures (record cc { file = 0 }) refl (shown_at cc c.args.files.now c.args.grammar.now c.args.shown.now 0 shown),
  appends_none (AreLinesOfFile cc.stages cc.built cc.meanings) c.args.findings.now.items,
)

pub loop-at-preserved : goal.loop-at-preserved
loop-at-preserved c = λ cc zero shown.
    let before = c.loop-at.invariant cc zero shown in
    let here = record cc { file = c.loop-at.at } in (
      c.in_ok-put_file_lines.ensures.uses here before.0,
      more_files cc c.args.files.now shown.stages c.loop-at.at c.args.findings.now.items c.loop-at.findings.items c.put_file_lines.new.findings.items (let t = c.loop-at-test.true in let n = c.len-at-end.ensures in omega (arith, t, n)) before.1 (c.in_ok-put_file_lines.ensures.lines here before.0),
    )

pub returns : goal.returns
returns c = λ cc zero shown.
    all_files cc c.args.files.now shown.stages c.loop-at.at c.args.findings.now.items c.loop-at.findings.items (let t = c.loop-at-test.false in let n = c.len-at-end.ensures in omega (arith, t, n)) (c.loop-at.invariant cc zero shown).1
