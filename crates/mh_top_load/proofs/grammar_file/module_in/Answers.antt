use Rattle.mh_top_load.proofs.IsSyntaxFault.{misspelled}
use Rattle.mh_top_load.proofs.grammar_file.module_in.Goals as goal

pub returns-in-Ok : goal.returns-in-Ok
returns-in-Ok c = c.in-Ok.ensures.spelled

pub returns-in-Err-Syntax : goal.returns-in-Err-Syntax
returns-in-Err-Syntax c =
    let fault = rw c.in-Err-Syntax.field-0-is at c.in-Err-Syntax.ensures.fault in
    misspelled c.args.name.now c.args.bytes.now c.in-Err-Syntax.line c.no_module.result fault.0 fault.1 c.no_module.ensures
