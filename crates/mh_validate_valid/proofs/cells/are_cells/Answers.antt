use Rattle.mh_validate_valid.proofs.RowEnd.{row_end}
use Rattle.mh_validate_valid.proofs.cells.are_cells.Goals as goal

pub returns : goal.returns
returns c = row_end c.args.grammar.now c.args.raws.now c.args.cells.now c.loop-token.next c.loop-token.token c.loop-token-test.false c.loop-token.invariant.within c.loop-token.invariant.rest
