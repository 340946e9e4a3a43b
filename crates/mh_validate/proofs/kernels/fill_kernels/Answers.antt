use Rattle.std.proofs.Common.{arith}
use Rattle.mh_items_kernels.specs.Automaton.{no_kernel}
use Rattle.mh_validate_valid.specs.Valid.{HasKernel}
use Rattle.mh_validate_valid.proofs.AppendedAt.{count_more, pushed}
use Rattle.mh_validate.proofs.FirstKernels.{kernels_stop, kernels_end}
use Rattle.mh_validate.proofs.kernels.fill_kernels.Goals as goal

pub loop-state-preserved : goal.loop-state-preserved
loop-state-preserved g c = record {
  count = count_more c.loop-state.kernels.items c.push.new.self.items c.in-Some.kernel c.loop-state.state c.loop-state.invariant.count c.in_ok-push.ensures.items;
  each = pushed (HasKernel c.args.grammar.now c.args.raw.now) c.loop-state.kernels.items c.push.new.self.items c.in-Some.kernel no_kernel c.loop-state.state c.loop-state.invariant.count c.in_ok-push.ensures.items c.loop-state.invariant.each (rw c.in-Some.is at c.in_ok-kernel.ensures);
}

pub returns-in_default : goal.returns-in_default
returns-in_default g c = kernels_stop c.args.grammar.now c.args.raw.now c.loop-state.kernels.items c.loop-state.state c.loop-state.invariant.count (let n = c.len-state-end.ensures in omega (arith, n, c.loop-state-test.true)) c.loop-state.invariant.each (rw c.in_default.is at c.in_ok-kernel.ensures)

pub returns : goal.returns
returns g c = kernels_end c.args.grammar.now c.args.raw.now c.loop-state.kernels.items c.loop-state.state c.loop-state.invariant.count (let n = c.len-state-end.ensures in let e = c.loop-state.auto.state-end in omega (arith, n, e, c.loop-state-test.false)) c.loop-state.invariant.each
