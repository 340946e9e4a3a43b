use Rattle.std.proofs.Common.{sym, ◌∙◌, true≢false}
use Rattle.mh_validate.proofs.StateKernel.{kernel_has, never_has}
use Rattle.mh_validate.proofs.kernels.kernel_at.Goals as goal

pub returns : goal.returns
returns g c = kernel_has c.args.grammar.now c.args.raw.now c.args.state c.items_at.result.now c.in-Some.items c.items_at.ensures (rw c.in-Some.is at c.in_ok-items.ensures) (rw c.as_slice.ensures at (c.may_have.ensures.0 c.if-not-may_have.false))

pub returns-then-not-may_have : goal.returns-then-not-may_have
returns-then-not-may_have g c k has = never_has c.args.grammar.now c.requires.distinct_names c.args.raw.now c.args.state c.items_at.result.now c.in-Some.items c.items_at.ensures (rw c.in-Some.is at c.in_ok-items.ensures)
    (λ m. true≢false (sym ((rw c.as_slice.ensures at c.may_have.ensures).1 m) ∙ c.if-not-may_have.true)) k has
