use Rattle.std.proofs.Common.{sym, true, ◌∙◌}
use Rattle.std.proofs.lemmas.Result.{IfOk-weaker}
use Rattle.mh_join_names.specs.Faults.{meant_by}
use Rattle.mh_join_names.specs.code.SymbolTables.{formals_in, meanings_in}
use Rattle.mh_lint_faults.specs.code.FoundFaults.{listed}
use Rattle.mh_lint_faults.proofs.RoleFaults.{error_head, other_head}
use Rattle.mh_lint_faults.proofs.name_faults.head_fault.Goals as goal

pub returns-then-is_error : goal.returns-then-is_error
returns-then-is_error c = error_head (meant_by (meanings_in c.args.names.now) c.args.file (formals_in c.args.formals.now)) c.args.head.now (sym c.is_error.ensures ∙ c.if-is_error.true)

pub returns : goal.returns
returns c = IfOk-weaker c.undefined_unless.result _ _ (λ found is. other_head (meant_by (meanings_in c.args.names.now) c.args.file (formals_in c.args.formals.now)) c.args.head.now (listed found) (sym c.is_error.ensures ∙ c.if-is_error.false) (rw (c.defines.ensures, c.text_of.ensures) at is)) c.undefined_unless.ensures
