use Rattle.std.proofs.lemmas.List.{take_all}
use Rattle.mh_lint_faults.proofs.FilesRead.{all_read, files_step, none_read}
use Rattle.mh_lint_faults.proofs.reading.put_files.Goals as goal

pub loop-number-init : goal.loop-number-init
loop-number-init c = none_read c.args.read.now c.args.findings.now.items c.requires.nothing c.requires.none

pub loop-number-preserved : goal.loop-number-preserved
loop-number-preserved c =
    files_step c.args.files.now c.loop-number.number c.index-files-number.result c.loop-number.read c.read_file.new.read c.loop-number.findings.items c.read_file.new.findings.items c.loop-number-test.true c.index-files-number.is c.loop-number.invariant c.in_ok-read_file.ensures

pub returns : goal.returns
returns c = all_read c.args.files.now c.loop-number.number c.loop-number.read c.loop-number.findings.items (take_all c.loop-number.number c.args.files.now c.loop-number-test.false) c.loop-number.invariant
