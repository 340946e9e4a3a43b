use Rattle.std.proofs.Common.{◌∙◌, arith}
use Rattle.mh_validate.proofs.FirstRows.{row_step, row_done}
use Rattle.mh_validate.proofs.edges.edges_on.Goals as goal

pub loop-at-preserved : goal.loop-at-preserved
loop-at-preserved g c = row_step c.args.moves.now c.args.raws.now c.loop-at.row.items c.push.new.self.items c.loop-at.at c.index-moves-at.result c.index-raws-at.result c.loop-at-test.true (let m = c.requires.count in omega (arith, m, c.loop-at-test.true)) c.index-moves-at.is c.index-raws-at.is c.loop-at.invariant c.in_ok-push.ensures.items

pub returns : goal.returns
returns g c = c.from_vec.ensures ∙ row_done c.args.moves.now c.args.raws.now c.loop-at.row.items c.loop-at.at c.loop-at-test.false c.loop-at.invariant
