use Rattle.std.proofs.Common.{sym, ◌∙◌, None}
use Rattle.mh_tables.proofs.ReducedWithin.{reduce_short, reduce_by, StackReduced-result}
use Rattle.mh_tables.proofs.relative_runs.stack_reduced.Goals as goal

pub returns-then-stack-taken : goal.returns-then-stack-taken
returns-then-stack-taken c = reduce_short c.args.table.now c.args.production c.args.stack.now c.length_of-taken.result c.length_of-taken.ensures c.if-stack-taken.true

pub returns-in-Some : goal.returns-in-Some
returns-in-Some c =
    StackReduced-result c.args.table.now c.facts.ensures c.args.production c.args.stack.now c.length_of-taken.result c.lhs_of.result c.in-Some.target c.length_of-taken.ensures c.lhs_of.ensures c.if-stack-taken.false
    (sym c.goto.ensures ∙ c.in-Some.is)

pub returns-in-None : goal.returns-in-None
returns-in-None c =
    reduce_by c.args.table.now c.args.production c.args.stack.now c.length_of-taken.result c.lhs_of.result None c.length_of-taken.ensures c.lhs_of.ensures c.if-stack-taken.false
    (sym c.goto.ensures ∙ c.in-None.is)
