use Rattle.std.specs.Prelude.{Err}
use Rattle.std.proofs.Common.{ap}
use Rattle.mh_top_prepare.proofs.StagesToTable.{not_valid_stops}
use Rattle.mh_top_prepare.proofs.tabled.validated.Goals as goal

pub returns-in-Ok-clause-stage : goal.returns-in-Ok-clause-stage
returns-in-Ok-clause-stage g c = record { valid = c.in-Ok.ensures.valid; table = c.in-Ok.ensures.table; conflicts = c.in-Ok.ensures.conflicts; mode = c.in-Ok.ensures.mode }

pub returns-in-Err-clause-stage : goal.returns-in-Err-clause-stage
returns-in-Err-clause-stage g c =
    not_valid_stops c.args.name.now c.args.raw.now c.args.grammar.now c.in-Err.fault c.not_valid.result (λ state reason same. c.in-Err.ensures.invalid state reason (ap Err same)) c.not_valid.ensures
