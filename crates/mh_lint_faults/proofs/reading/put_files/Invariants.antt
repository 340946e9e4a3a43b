use Rattle.std.proofs.Common.{take}
use Rattle.mh_lint_faults.specs.code.ReadFiles.{AreFilesRead}
use Rattle.mh_lint_faults.proofs.reading.put_files.Given as goal

abbrev pub invariant-loop-number : goal.invariant-loop-number
invariant-loop-number l = AreFilesRead (take l.number l.files) l.read l.findings.items
