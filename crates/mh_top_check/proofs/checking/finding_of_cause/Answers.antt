use Rattle.std.proofs.Common.{◌≡◌, ap}
use Rattle.std.proofs.lemmas.Result.{err_from_is_err_and}
use Rattle.mh_top_check.proofs.checking.finding_of_cause.Goals as goal
use Rattle.mh_top_check.specs.code.Findings.{found, memory, other}
use Rattle.mh_top_drive.specs.declared.stop.Cause.TheVariants.{Refused}
use Rattle.mh_top_drive.specs.declared.stop.Stop.TheVariants.{Halted}

pub returns-in_err-refusal_finding-in-Refused : goal.returns-in_err-refusal_finding-in-Refused
returns-in_err-refusal_finding-in-Refused c = let p = err_from_is_err_and c.from_residual.result c.from_residual.ensures.1 in rw (p.1, p.2) memory

pub returns-in_ok-refusal_finding-in-Refused : goal.returns-in_ok-refusal_finding-in-Refused
returns-in_ok-refusal_finding-in-Refused c =
    let line : c.args.cause ≡ Refused c.as_slice.result.now = cc in
    found c.as_slice.result.now c.in_ok-refusal_finding-in-Refused.field-0 (ap Halted line) c.in_ok-refusal_finding-in-Refused.ensures.0 c.in_ok-refusal_finding-in-Refused.ensures.1

pub returns-in_default : goal.returns-in_default
returns-in_default c = other (λ whole e. (let same : c.args.cause ≡ Refused whole = cc in c.in_default.not-Refused whole same))
