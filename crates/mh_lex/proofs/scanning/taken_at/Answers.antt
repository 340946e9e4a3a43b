use Rattle.std.proofs.Common.{arith}
use Rattle.mh_lex.proofs.LexesUnique as takes
use Rattle.mh_lex.proofs.scanning.taken_at.Goals as goal

pub returns-in-Short : goal.returns-in-Short
returns-in-Short c = (omega (arith, c.in-Short.ensures.within.0), omega (arith, c.in-Short.ensures.within.1), takes.finds_short c.args.bytes.now c.args.at c.in-Short.length c.in-Short.what c.in-Short.ensures.value)

pub returns-in-Some : goal.returns-in-Some
returns-in-Some c = (
  omega (arith, c.in-Long.ensures.within.0),
  omega (arith, c.in-Some.ensures.some.0, c.in-Long.ensures.within.1),
  takes.finds_long c.args.bytes.now c.args.at c.in-Long.opening c.in-Some.length c.in-Long.what c.in-Long.code c.in-Long.ensures.value c.in-Some.ensures.some.1,
)

pub returns-in-None : goal.returns-in-None
returns-in-None c = takes.finds_unclosed c.args.bytes.now c.args.at c.in-Long.opening c.in-Long.what c.in-Long.code c.in-Long.ensures.value c.in-None.ensures.none
