use Rattle.std.proofs.Common.{arith}
use Rattle.mh_lex.proofs.CodeLevels.{innermost_code, innermost_comment}
use Rattle.mh_lex.proofs.code.innermost.Goals as goal

pub returns-then-remarks-eq0 : goal.returns-then-remarks-eq0
returns-then-remarks-eq0 c = innermost_code c.args.code c.args.remarks c.if-remarks-eq0.true

pub returns-else-remarks-eq0 : goal.returns-else-remarks-eq0
returns-else-remarks-eq0 c = innermost_comment c.args.code c.args.remarks (omega (arith, c.if-remarks-eq0.false))
