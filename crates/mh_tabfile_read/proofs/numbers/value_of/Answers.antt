use Rattle.std.proofs.Common.{arith}
use Rattle.mh_tabfile_read.proofs.TooLargeNumber.{large}
use Rattle.mh_tabfile_read.proofs.numbers.value_of.Goals as goal

pub returns-then-value-gt4294967295 : goal.returns-then-value-gt4294967295
returns-then-value-gt4294967295 c = large c.args.word.now c.loop-byte.byte-index c.loop-byte.value _ c.loop-byte-test.true c.loop-byte.invariant.same (omega (arith, c.from.ensures)) c.if-value-gt4294967295.true
