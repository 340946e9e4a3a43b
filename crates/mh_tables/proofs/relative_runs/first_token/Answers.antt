use Rattle.std.proofs.Common.{None, arith}
use Rattle.mh_tables.proofs.FirstLoop.{first_look_is, tokens_more, never_loops}
use Rattle.mh_tables.proofs.StopsWithoutDefault.{stops_not_loops}
use Rattle.mh_tables.proofs.relative_runs.first_token.Goals as goal

pub returns-then-branch : goal.returns-then-branch
returns-then-branch c =
    first_look_is c.args.table.now c.args.below c.args.state c.tokens.token (omega arith) (stops_not_loops c.args.table.now c.args.below c.args.state None c.requires.no_default.stack c.requires.no_default.stops) c.tokens.invariant
    (rw c.if-branch.true at c.in_ok-loops_on.ensures)

pub tokens-preserved : goal.tokens-preserved
tokens-preserved c = tokens_more c.args.table.now c.args.below c.args.state c.tokens.token c.tokens.invariant (rw c.if-branch.false at c.in_ok-loops_on.ensures)

pub returns : goal.returns
returns c =
    never_loops c.args.table.now c.args.below c.args.state c.tokens.token (omega arith) (stops_not_loops c.args.table.now c.args.below c.args.state None c.requires.no_default.stack c.requires.no_default.stops) c.tokens.invariant
