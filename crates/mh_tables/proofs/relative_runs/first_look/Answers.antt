use Rattle.std.proofs.Common.{sym, ◌∙◌}
use Rattle.mh_tables.proofs.StopsWithoutDefault.{not_loops_by_default}
use Rattle.mh_tables.proofs.relative_runs.first_look.Goals as goal

pub returns-in-Some : goal.returns-in-Some
returns-in-Some c =
    not_loops_by_default c.args.table.now c.args.below c.args.state c.top_of-top.result c.loops.new.stack.items c.in-Some.field-0 (rw c.if-branch.false at c.in_ok-loops.ensures.tried)
    (rw c.deref.ensures.value at c.top_of-top.ensures) (sym c.fallback.ensures ∙ c.in-Some.is)
