use Rattle.std.proofs.Common.{refl}
use Rattle.std.proofs.lemmas.Result.{on_ok_weaker}
use Rattle.mh_lint_faults.specs.code.ReadFiles as files
use Rattle.mh_lint_faults.proofs.FilesRead.{reported}
use Rattle.mh_lint_faults.proofs.reading.read_file.Goals as goal

pub returns-in-Ok : goal.returns-in-Ok
returns-in-Ok c = on_ok_weaker c.put_module.result (λ splits. files.ReadsFile.spelled c.in-Ok.placed (rw c.as_slice.ensures at c.in-Ok.ensures.places) c.in-Ok.ensures.ready splits refl) c.put_module.ensures

pub returns-in-Err-Syntax : goal.returns-in-Err-Syntax
returns-in-Err-Syntax c =
    on_ok_weaker c.put_syntax_fault.result
    (λ is. files.ReadsFile.faulty c.in-Err-Syntax.place (reported c.args.file.now.bytes c.read_placed.result c.in-Err-Syntax.field-0 c.in-Err-Syntax.place c.in-Err-Syntax.is c.in-Err-Syntax.field-0-is (rw c.as_slice.ensures at c.read_placed.ensures.fault)) is)
    c.put_syntax_fault.ensures
