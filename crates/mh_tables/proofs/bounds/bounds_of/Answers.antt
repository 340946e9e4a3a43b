use Rattle.std.specs.List.{All}
use Rattle.std.proofs.lemmas.Result.{IfOk-weaker}
use Rattle.mh_tables.specs.code.Passages.{IsBoundHighEnough, BoundsProveHalting}
use Rattle.mh_tables.proofs.BoundsProveHalting.{settled}
use Rattle.mh_tables.proofs.bounds.bounds_of.Goals as goal

pub returns-clause-settled : goal.returns-clause-settled
returns-clause-settled c =
    IfOk-weaker c.lifted.result (λ b. All (IsBoundHighEnough b.items) c.deref.result.now) (λ b. BoundsProveHalting c.args.table.now b.items)
    (λ b h. settled c.args.table.now c.facts.ensures c.in_ok-passages.passages.items b.items c.in_ok-passages.ensures.all (rw c.deref.ensures.value at h)) c.lifted.ensures.high_enough
