use Rattle.std.proofs.Common.{arith, rules}
use Rattle.std.proofs.lemmas.Grind.{common_steps}
use Rattle.mh_msgfile.proofs.AreLines.{split_gives_lines}
use Rattle.mh_msgfile.proofs.lines.put_lines.Goals as goal

pub returns-clause-lines : goal.returns-clause-lines
returns-clause-lines c = split_gives_lines c.args.bytes.now _ (first_of (search rules, grind (arith, common_steps)))

pub loop-line-init : goal.loop-line-init
loop-line-init c = search rules

pub loop-line-preserved : goal.loop-line-preserved
loop-line-preserved c = grind (arith, common_steps)
