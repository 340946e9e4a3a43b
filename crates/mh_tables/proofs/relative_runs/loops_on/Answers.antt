use Rattle.std.proofs.Common.{inl, inr}
use Rattle.mh_tables.proofs.StopsWithoutDefault.{not_loops_without_reduce}
use Rattle.mh_tables.proofs.relative_runs.loops_on.Goals as goal

pub returns-in-Shift : goal.returns-in-Shift
returns-in-Shift c =
    not_loops_without_reduce c.args.table.now c.args.below c.args.state c.args.top c.args.token c.action.result c.requires.no_default c.action.ensures (λ p e. elim c.in-Shift.is [ inl is ↦ cc | inr is ↦ cc ])
