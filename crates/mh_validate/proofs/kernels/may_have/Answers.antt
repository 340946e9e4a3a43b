use Rattle.std.proofs.Common.{sym, ◌∙◌, arith}
use Rattle.mh_validate.proofs.ItemsRead.{positive_count}
use Rattle.mh_validate.proofs.StateKernel.{may_start, may_moved, may_not}
use Rattle.mh_validate.proofs.kernels.may_have.Goals as goal

pub returns-then-state-len : goal.returns-then-state-len
returns-then-state-len g c = may_start c.args.grammar.now c.args.state c.args.items.now c.is_start.result (let n = c.len.ensures in omega (arith, n, c.if-state-len.true)) c.is_start.ensures

pub returns-then-not-is_empty : goal.returns-then-not-is_empty
returns-then-not-is_empty g c = may_moved c.args.grammar.now c.args.state c.args.items.now c.are_moved.result (let n = c.len.ensures in omega (arith, n, c.if-state-len.false)) (positive_count _ (sym c.is_empty.ensures ∙ c.if-not-is_empty.true)) c.are_moved.ensures

pub returns-else-not-is_empty : goal.returns-else-not-is_empty
returns-else-not-is_empty g c = rw c.if-not-is_empty.false (may_not c.args.grammar.now c.args.state c.args.items.now (let n = c.len.ensures in omega (arith, n, c.if-state-len.false)) (sym c.is_empty.ensures ∙ c.if-not-is_empty.false))
