use Rattle.std.proofs.Common.{◌∙◌, arith}
use Rattle.mh_validate.proofs.ItemsRead.{start_length, ordinary_length}
use Rattle.mh_validate.proofs.items.length_of.Goals as goal

pub returns-then-production-starts : goal.returns-then-production-starts
returns-then-production-starts c = start_length c.args.grammar.now c.args.production (let n = c.len-starts.ensures in omega (arith, n, c.if-production-starts.true))

pub returns : goal.returns
returns c = c.len.ensures ∙ ordinary_length c.args.grammar.now c.args.production c.index.result.now (let n = c.len-starts.ensures in omega (arith, n, c.if-production-starts.false)) c.requires.production (rw c.len-starts.ensures at c.index.ensures)
